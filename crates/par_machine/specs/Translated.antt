-- Routines that do what a program's phases do.
use Rattle.std.specs.Prelude.{◌≡◌, ℕ, List, [], ◌∷◌, Some, map, All}
use Rattle.icode.specs.Plain.{PlainProgram, PlainBody}
use Rattle.icode.specs.Actions.{Step, steps_of_body}
use Rattle.icode.specs.Lengths.{len_of_body}
use Rattle.par_machine.specs.declared.phase.Routine.{Routine}
use Rattle.par_machine.specs.Instruction.{IsClosed, IsWithin}
use Rattle.par_machine.specs.Position.{Position}
use Rattle.par_machine.specs.Hand.{step_at}
use Rattle.par_machine.specs.Frame.{places_of}

pub record IsTranslated (p : PlainProgram) (r : Routine) (body : PlainBody) : Type 0 where
  pub len : r.len ≡ len_of_body body
  pub closed : All IsClosed r.code.items
  pub within : All (IsWithin p.modulus) r.code.items
  pub plays : (q : ℕ) → map (λ (place : Position). step_at p r.code.items q place) (places_of r) ≡ map (λ (s : Step). Some s) (steps_of_body p body [] q)

abbrev pub AreTranslated : PlainProgram → List Routine → List PlainBody → Type 0
AreTranslated p [] [] = Unit {0}
AreTranslated p (r ∷ rs) (body ∷ bodies) = IsTranslated p r body × AreTranslated p rs bodies
AreTranslated p _ _ = ⊥
