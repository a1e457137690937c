-- A walk over steps, up to the first that is not sound.
use Rattle.std.specs.Prelude.{◌≡◌, ℕ, ◌+◌, ◌^◌, List, [], ◌∷◌, Bool, Option, Some, None, Result, Ok, Err, ◌&&◌, ◌||◌, nat_lt, nat_le, if◌then◌else◌}
use Rattle.icode.specs.declared.action.Action.{Action}
use Rattle.icode.specs.declared.action.Action.TheVariants.{Load, Store, Zero, Add, Sub, Neg, Mul, Tile}
use Rattle.icode.specs.Actions.{Step}
use Rattle.icode.specs.Plain.{PlainProgram}
use Rattle.code_check.specs.declared.lines.LineUse.{LineUse}
use Rattle.code_check.specs.declared.walk.Offence.{Offence}
use Rattle.code_check.specs.declared.walk.Offence.TheVariants.{Place, Register}
use Rattle.code_check.specs.Uses.{noted}

abbrev pub registers_fit : ℕ → ℕ → Action → Bool
registers_fit regs lanes (Load r address) = nat_lt r regs
registers_fit regs lanes (Store address r) = nat_lt r regs
registers_fit regs lanes (Zero r) = nat_lt r regs
registers_fit regs lanes (Add r x y) = nat_lt r regs && (nat_lt x regs && nat_lt y regs)
registers_fit regs lanes (Sub r x y) = nat_lt r regs && (nat_lt x regs && nat_lt y regs)
registers_fit regs lanes (Neg r x) = nat_lt r regs && nat_lt x regs
registers_fit regs lanes (Mul r x factors) = nat_lt r regs && nat_lt x regs
registers_fit regs lanes (Tile r x) =
    nat_le (r + lanes) regs && (nat_le (x + lanes) regs && (nat_le (r + lanes) x || nat_le (x + lanes) r))

abbrev pub is_there : Step → Bool
is_there s = nat_lt s.peak (2 ^ 64) && nat_le s.reach s.room

-- what is wrong with a step; where its place is, its registers are not looked at
abbrev pub judged : PlainProgram → Step → Option Offence
judged p s = if is_there s then (if registers_fit p.regs p.lanes s.action then None else Some Register) else Some Place

-- what a walk comes to: all steps are sound, or it stops at one that is not. It tells how many steps were sound
pub data Walk : Type 0 where
  Passed : (count : ℕ) → (table : List LineUse) → Walk
  Stopped : (count : ℕ) → (offence : Offence) → Walk

abbrev pub goes_on : Option Offence → ℕ → Walk → Walk
goes_on None count rest = rest
goes_on (Some offence) count rest = Stopped count offence

-- a walk over steps of processor q, given how many were walked before, with this table of lines
abbrev pub walked : PlainProgram → ℕ → List Step → ℕ → List LineUse → Walk
walked p q [] count table = Passed count table
walked p q (s ∷ steps) count table = goes_on (judged p s) count (walked p q steps (count + 1) (noted p q s table))

-- what code answers for a walk, with the count and the table that it leaves
abbrev pub Answers : Result (Unit {0}) Offence → ℕ → List LineUse → Walk → Type 0
Answers (Ok _) count table walk = walk ≡ Passed count table
Answers (Err offence) count table walk = walk ≡ Stopped count offence
