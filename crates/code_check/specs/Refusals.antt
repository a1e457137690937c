-- When a program is refused, and why.
use Rattle.std.specs.Prelude.{◌≡◌, ◌≢◌, ℕ, ◌^◌, ◌<◌, ◌≤◌, Some, All, Contains, length, slice_get, take}
use Rattle.operators.specs.Sum.{sum_below}
use Rattle.icode.specs.Actions.{Step, RegistersFit, PlainFits, steps_of_phase, plain_code}
use Rattle.icode.specs.Machine.{Code, IsApart, written_lines, touched_lines}
use Rattle.icode.specs.Plain.{PlainProgram}
use Rattle.code_check.specs.declared.fault.CheckFault.{CheckFault}
use Rattle.code_check.specs.declared.fault.CheckFault.TheVariants.{OverSteps, Address, Register, LineShared, NoMemory}

-- how many actions a program may have at most
abbrev pub action_limit : ℕ
action_limit = 100000000

-- how many actions the phases and processors have together
abbrev pub action_count : PlainProgram → ℕ
action_count p = sum_below (length p.phases) (λ phase. sum_below p.procs (λ q. length (steps_of_phase p phase q)))

-- no sum, product or operand on the way to the place reaches 2^64, and the place, with all its lanes, is inside its
-- array or table. A table that is not there has no places
pub record IsThere (s : Step) : Type 0 where
  pub numbers : s.peak < 2 ^ 64
  pub inside : s.reach ≤ s.room

-- the action's place is there, and so are its registers
pub record IsSound (p : PlainProgram) (s : Step) : Type 0 where
  pub place : IsThere s
  pub registers : RegistersFit p.regs p.lanes s.action

-- this action, which is the processor's number i in the phase, is not sound, and all before it in the phase are: those
-- of the processors before, and before it on the processor
pub record IsFirstOfPhase (p : PlainProgram) (phase q i : ℕ) (s : Step) : Type 0 where
  pub of_processor : q < p.procs
  pub here : slice_get (steps_of_phase p phase q) i ≡ Some s
  pub offends : IsSound p s → ⊥
  pub processors : (r : ℕ) → r < q → All (IsSound p) (steps_of_phase p phase r)
  pub actions : All (IsSound p) (take i (steps_of_phase p phase q))

-- and all actions of the phases before are sound
pub record IsFirstOffender (p : PlainProgram) (phase q i : ℕ) (s : Step) : Type 0 where
  pub in_phase : IsFirstOfPhase p phase q i s
  pub phases : (f r : ℕ) → f < phase → r < p.procs → All (IsSound p) (steps_of_phase p f r)

-- all actions are sound
abbrev pub AreSound : PlainProgram → Type 0
AreSound p = (phase q : ℕ) → q < p.procs → All (IsSound p) (steps_of_phase p phase q)

-- in the phase, processor a writes the line and another, b, touches it
pub record Share (code : Code) (phase line a b : ℕ) : Type 0 where
  pub writes : Contains (written_lines code phase a) line
  pub touches : Contains (touched_lines code phase b) line
  pub other : b ≢ a

-- the smallest line that is shared in the phase, the smallest processor that writes it while another touches it, and
-- the smallest other that touches it
pub record IsLeastShared (code : Code) (phase line a b : ℕ) : Type 0 where
  pub here : Share code phase line a b
  pub lines : (l x y : ℕ) → Share code phase l x y → line ≤ l
  pub writers : (x y : ℕ) → Share code phase line x y → a ≤ x
  pub others : (y : ℕ) → Share code phase line a y → b ≤ y

-- and no line is shared in the phases before
pub record IsFirstShared (code : Code) (phase line a b : ℕ) : Type 0 where
  pub in_phase : IsLeastShared code phase line a b
  pub phases : (f l x y : ℕ) → Share code f l x y → phase ≤ f

-- the program is short enough, all its actions are sound, and its phases are apart
pub record PassesCheck (limit : ℕ) (p : PlainProgram) : Type 0 where
  pub few : action_count p ≤ limit
  pub sound : AreSound p
  pub apart : (phase : ℕ) → IsApart (plain_code p) phase

-- its place is not there, whatever its registers are
pub record IsBadPlace (limit : ℕ) (p : PlainProgram) (phase q i : ℕ) : Type 0 where
  pub few : action_count p ≤ limit
  pub step : Step
  pub first : IsFirstOffender p phase q i step
  pub missing : IsThere step → ⊥

-- its place is there, and a register is not
pub record IsBadRegister (limit : ℕ) (p : PlainProgram) (phase q i : ℕ) : Type 0 where
  pub few : action_count p ≤ limit
  pub step : Step
  pub first : IsFirstOffender p phase q i step
  pub there : IsThere step

pub record IsBadLine (limit : ℕ) (p : PlainProgram) (phase line a b : ℕ) : Type 0 where
  pub few : action_count p ≤ limit
  pub sound : AreSound p
  pub first : IsFirstShared (plain_code p) phase line a b

-- what each refusal says of the program. Want of memory says nothing of it
abbrev pub IsCause : ℕ → PlainProgram → CheckFault → Type 0
IsCause limit p (OverSteps n) = (n ≡ limit) × (limit < action_count p)
IsCause limit p (Address phase q i) = IsBadPlace limit p phase q i
IsCause limit p (Register phase q i) = IsBadRegister limit p phase q i
IsCause limit p (LineShared phase line a b) = IsBadLine limit p phase line a b
IsCause limit p NoMemory = Unit {0}

-- what is refused for a shared line alone fits all the same
abbrev pub FitsIfShared : PlainProgram → CheckFault → Type 0
FitsIfShared p (OverSteps n) = Unit {0}
FitsIfShared p (Address phase q i) = Unit {0}
FitsIfShared p (Register phase q i) = Unit {0}
FitsIfShared p (LineShared phase line a b) = PlainFits p
FitsIfShared p NoMemory = Unit {0}
