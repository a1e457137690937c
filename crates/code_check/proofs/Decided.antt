-- A program passes the check, or there is a cause to refuse it.
use Rattle.std.proofs.Common.{◌≡◌, ◌≢◌, ◌⊎◌, ◌≤◌, ◌<◌, ◌+◌, ℕ, zero, suc, List, length, None, Some, Option, replicate}
use Rattle.std.proofs.Common.{refl, subst, inl, inr, arith}
use Rattle.std.proofs.lemmas.Bool.{cases_lt}
use Rattle.icode.specs.Actions.{steps_of_phase}
use Rattle.icode.specs.Limits.{IsWithinLimits}
use Rattle.icode.specs.Plain.{PlainProgram}
use Rattle.code_check.specs.declared.fault.CheckFault.{CheckFault}
use Rattle.code_check.specs.declared.fault.CheckFault.TheVariants.{LineShared, NoMemory, OverSteps}
use Rattle.code_check.specs.declared.lines.LineUse.{LineUse}
use Rattle.code_check.specs.declared.lines.Sharing.{Sharing}
use Rattle.code_check.specs.declared.walk.Offence.{Offence}
use Rattle.code_check.specs.declared.walk.Offence.TheVariants.{Place, Register}
use Rattle.code_check.specs.Faults.{fault_of}
use Rattle.code_check.specs.Laws.{IsRefusedFor}
use Rattle.code_check.specs.Phases.{IsPhaseFault, IsPhaseSound}
use Rattle.code_check.specs.Refusals.{PassesCheck, action_count}
use Rattle.code_check.specs.Uses.{first_sharing, line_count, sooner, unused}
use Rattle.code_check.specs.Walk.{Passed, Stopped, Walk, walked}
use Rattle.code_check.proofs.Phases.{IsPhaseSoFar, phase_ends, phase_goes_on, phase_starts, phase_stops}
use Rattle.code_check.proofs.Whole.{IsCheckedTo, checked_fault, checked_more, checked_none, checked_passes}
use Rattle.code_check.proofs.Whole.{checked_shared}

offence_is_none : (o : Offence) (phase q i : ℕ) → fault_of o phase q i ≢ NoMemory
offence_is_none Place phase q i e = cc
offence_is_none Register phase q i e = cc

module _ (limit : ℕ) (p : PlainProgram) (within : IsWithinLimits p) where
  -- what is wrong in the phase
  HasFault : ℕ → Type 0
  HasFault phase = (fault : CheckFault) × (fault ≢ NoMemory) × IsPhaseFault p phase fault

  HasTable : ℕ → ℕ → Type 0
  HasTable phase n = ((table : List LineUse) × IsPhaseSoFar p phase n table) ⊎ HasFault phase

  next_processor : (phase n : ℕ) (t : List LineUse) → n < p.procs → IsPhaseSoFar p phase n t → (walk : Walk)
      → walked p n (steps_of_phase p phase n) 0 t ≡ walk → HasTable phase (n + 1)
  unfolding HasTable HasFault
  next_processor phase n t inside before (Passed m u) is = inl (u, phase_goes_on p phase n m t u before is)
  next_processor phase n t inside before (Stopped m o) is =
      inr (fault_of o phase n m, offence_is_none o phase n m, phase_stops p phase n m t o inside before is)

  processors : (phase n : ℕ) → n ≤ p.procs → HasTable phase n
  unfolding HasTable HasFault
  processors phase zero le =
      let fresh = replicate (line_count p) unused in inl (fresh, phase_starts p phase fresh refl)
  processors phase (suc n) le =
      let next : n + 1 ≡ suc n = omega arith in
      subst (HasTable phase) next
      (elim (processors phase n (omega (arith, le))) [
        | inl before ↦
            next_processor phase n before.0 (omega (arith, le)) before.1
            (walked p n (steps_of_phase p phase n) 0 before.0) refl
        | inr fault ↦ inr fault
      ])

  a_phase : (phase : ℕ) → phase < length p.phases
      → ((shared : Option Sharing) × IsPhaseSound p phase shared) ⊎ HasFault phase
  unfolding HasTable HasFault
  a_phase phase inside = elim (processors phase p.procs (omega arith)) [
    | inl all ↦ inl (
      first_sharing phase 0 all.0,
      phase_ends p within phase p.procs all.0 (first_sharing phase 0 all.0) inside (omega arith) (omega arith) all.1 refl,
    )
    | inr fault ↦ inr fault
  ]

  module _ (few : action_count p ≤ limit) where
    HasPhases : ℕ → Type 0
    HasPhases n = ((shared : Option Sharing) × IsCheckedTo p n shared) ⊎ IsRefusedFor limit p

    phases : (n : ℕ) → n ≤ length p.phases → HasPhases n
    unfolding HasPhases HasFault
    phases zero le = inl (None, checked_none p)
    phases (suc n) le =
        let next : n + 1 ≡ suc n = omega arith in
        subst HasPhases next
        (elim (phases n (omega (arith, le))) [
          | inl before ↦ elim (a_phase n (omega (arith, le))) [
            | inl here ↦ inl (sooner before.0 here.0, checked_more p n before.0 here.0 before.1 here.1)
            | inr fault ↦ inr (fault.0, fault.1, checked_fault limit p n before.0 fault.0 few before.1 fault.2)
          ]
          | inr refused ↦ inr refused
        ])

    by_sharing : (shared : Option Sharing) → IsCheckedTo p (length p.phases) shared
        → PassesCheck limit p ⊎ IsRefusedFor limit p
    by_sharing None h = inl (checked_passes limit p (length p.phases) few (omega arith) h)
    by_sharing (Some s) h = inr (
      LineShared s.phase s.line s.a s.b,
      λ e. cc,
      checked_shared limit p (length p.phases) s few (omega arith) h,
    )

    short_has : PassesCheck limit p ⊎ IsRefusedFor limit p
    unfolding HasPhases
    short_has = elim (phases (length p.phases) (omega arith)) [
      | inl all ↦ by_sharing all.0 all.1
      | inr refused ↦ inr refused
    ]

  pub decided : PassesCheck limit p ⊎ IsRefusedFor limit p
  decided = elim (cases_lt limit (action_count p)) [
    | inl over ↦ inr (OverSteps limit, λ e. cc, (refl, over))
    | inr few ↦ short_has few
  ]
