-- What straight code does.
use Rattle.std.specs.Prelude.{◌≡◌, ℕ, ◌+◌, ◌<◌, ◌≤◌, List, ◌++◌, Option, Some, map, take, drop, length, slice_index, All}
use Rattle.icode.specs.Plain.{PlainProgram}
use Rattle.icode.specs.Actions.{Step, Steps}
use Rattle.par_machine.specs.declared.cursor.Instruction.{Instruction}
use Rattle.par_machine.specs.Instruction.{IsClosed, IsWithin}
use Rattle.par_machine.specs.Position.{Position, resting, positions}
use Rattle.par_machine.specs.Hand.{step_at}

-- the steps at n places, the first of which is where a cursor comes to rest from here
abbrev pub seen : PlainProgram → List Instruction → ℕ → ℕ → ℕ → List ℕ → List (Option Step)
seen p code q n at values = map (λ (place : Position). step_at p code q place) (positions code n (resting (drop at code) at values))

-- from one place to another the code does `len` steps, where `depth` loops are open and the others have the value 0
pub record Plays (p : PlainProgram) (code : List Instruction) (from to depth len : ℕ) (steps : Steps) : Type 0 where
  pub order : from ≤ to
  pub some : 0 < len → from < to
  pub none : len ≡ 0 → from ≡ to
  pub first : 0 < len → (values : List ℕ) → resting (drop from code) from values ≡ record { at = from; values = values }
  pub plays : (n q : ℕ) (values : List ℕ) → length values ≡ 64 → ((k : ℕ) → depth ≤ k → slice_index values k ≡ 0) → seen p code q (len + n) from values ≡ map (λ (s : Step). Some s) (steps (take depth values) q) ++ seen p code q n to values

-- code that was appended to other code, and does these steps, whatever comes after it
pub record IsCompiled (modulus depth len : ℕ) (steps : PlainProgram → Steps) (before after : List Instruction) : Type 0 where
  pub more : List Instruction
  pub appended : after ≡ before ++ more
  pub closed : All IsClosed before → All IsClosed after
  pub within : All (IsWithin modulus) before → All (IsWithin modulus) after
  pub plays : (p : PlainProgram) (rest : List Instruction) → Plays p (after ++ rest) (length before) (length after) depth len (steps p)
