-- What the check of one phase finds.
use Rattle.std.specs.Prelude.{◌≡◌, ℕ, ◌<◌, All, Option, MatchOption}
use Rattle.icode.specs.Actions.{Step, steps_of_phase, plain_code}
use Rattle.icode.specs.Machine.{IsApart}
use Rattle.icode.specs.Plain.{PlainProgram}
use Rattle.code_check.specs.declared.fault.CheckFault.{CheckFault}
use Rattle.code_check.specs.declared.fault.CheckFault.TheVariants.{OverSteps, Address, Register, LineShared, NoMemory}
use Rattle.code_check.specs.declared.lines.Sharing.{Sharing}
use Rattle.code_check.specs.Refusals.{IsThere, IsSound, IsFirstOfPhase, IsLeastShared}

-- all actions of the phase are sound; it is apart, or this is its least shared line
pub record IsPhaseSound (p : PlainProgram) (phase : ℕ) (shared : Option Sharing) : Type 0 where
  pub sound : (q : ℕ) → q < p.procs → All (IsSound p) (steps_of_phase p phase q)
  pub sharing : MatchOption shared (IsApart (plain_code p) phase) (λ (s : Sharing). (s.phase ≡ phase) × IsLeastShared (plain_code p) phase s.line s.a s.b)

pub record IsPlaceOfPhase (p : PlainProgram) (phase q i : ℕ) : Type 0 where
  pub step : Step
  pub first : IsFirstOfPhase p phase q i step
  pub missing : IsThere step → ⊥

pub record IsRegisterOfPhase (p : PlainProgram) (phase q i : ℕ) : Type 0 where
  pub step : Step
  pub first : IsFirstOfPhase p phase q i step
  pub there : IsThere step

abbrev pub IsPhaseFault : PlainProgram → ℕ → CheckFault → Type 0
IsPhaseFault p phase (OverSteps limit) = ⊥
IsPhaseFault p phase (Address f q i) = (f ≡ phase) × IsPlaceOfPhase p phase q i
IsPhaseFault p phase (Register f q i) = (f ≡ phase) × IsRegisterOfPhase p phase q i
IsPhaseFault p phase (LineShared f line a b) = ⊥
IsPhaseFault p phase NoMemory = Unit {0}
