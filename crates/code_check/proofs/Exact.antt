-- A right answer is the only one, but for want of memory.
use Rattle.std.proofs.Common.{◌≡◌, ◌≢◌, ◌⊎◌, ℕ, inl, inr, Result, Ok, Err, IfErr, OnOk, refl, ⊎_elim}
use Rattle.std.specs.Result.{IsErrAnd}
use Rattle.icode.specs.Limits.{IsWithinLimits}
use Rattle.icode.specs.Plain.{PlainProgram}
use Rattle.code_check.specs.declared.fault.CheckFault.{CheckFault}
use Rattle.code_check.specs.declared.fault.CheckFault.TheVariants.{OverSteps, Address, Register, LineShared, NoMemory}
use Rattle.code_check.specs.Refusals.{PassesCheck, IsCause, FitsIfShared, action_limit}
use Rattle.code_check.proofs.Causes.{one_cause, none_if_passed}
use Rattle.code_check.proofs.Whole.{sound_fits}

memory_or_not : (f : CheckFault) → (f ≡ NoMemory) ⊎ (f ≢ NoMemory)
memory_or_not (OverSteps n) = inr (λ e. cc)
memory_or_not (Address f q i) = inr (λ e. cc)
memory_or_not (Register f q i) = inr (λ e. cc)
memory_or_not (LineShared f k a b) = inr (λ e. cc)
memory_or_not NoMemory = inl refl

pub refused_for_memory : {X : Type 0} (limit : ℕ) (p : PlainProgram) (r : Result X CheckFault) →
    IfErr r (IsCause limit p) → PassesCheck limit p → IfErr r (λ fault. fault ≡ NoMemory)
refused_for_memory limit p (Ok v) cause h = tt
refused_for_memory limit p (Err f) cause h =
    ⊎_elim (λ (e : f ≡ NoMemory). e) (λ (ne : f ≢ NoMemory). absurd (none_if_passed limit p f ne h cause)) (memory_or_not f)

pub refused_for_cause : {X : Type 0} (limit : ℕ) (p : PlainProgram) (r : Result X CheckFault) →
    OnOk r (PassesCheck limit p) → IfErr r (IsCause limit p) → (fault : CheckFault) → fault ≢ NoMemory →
    IsCause limit p fault → IsErrAnd r (λ answer. (answer ≡ fault) ⊎ (answer ≡ NoMemory))
refused_for_cause limit p (Ok v) passes cause fault ne h = absurd (none_if_passed limit p fault ne passes h)
refused_for_cause limit p (Err f) passes cause fault ne h =
    ⊎_elim (λ (e : f ≡ NoMemory). inr e) (λ (nf : f ≢ NoMemory). inl (one_cause limit p f fault nf ne cause h)) (memory_or_not f)

-- what is refused for a shared line fits

cause_fits : (p : PlainProgram) → IsWithinLimits p → (f : CheckFault) → IsCause action_limit p f → FitsIfShared p f
cause_fits p limits (OverSteps n) h = tt
cause_fits p limits (Address f q i) h = tt
cause_fits p limits (Register f q i) h = tt
cause_fits p limits (LineShared f k a b) h = sound_fits p limits h.few h.sound
cause_fits p limits NoMemory h = tt

pub shared_fits : {X : Type 0} (p : PlainProgram) → IsWithinLimits p → (r : Result X CheckFault) →
    IfErr r (IsCause action_limit p) → IfErr r (FitsIfShared p)
shared_fits p limits (Ok v) cause = tt
shared_fits p limits (Err f) cause = cause_fits p limits f cause
