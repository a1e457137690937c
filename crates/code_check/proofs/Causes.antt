-- Each program has one cause of refusal at most.
use Rattle.std.proofs.Common.{◌≡◌, ◌≢◌, ℕ, zero, suc, ◌<◌, ◌≤◌, List, [], ◌∷◌, Some, All, take, refl, sym, ap, ◌∙◌}
use Rattle.std.proofs.Common.{subst, arith, ⊎_elim}
use Rattle.std.specs.Prelude.{slice_get}
use Rattle.std.proofs.lemmas.Bool.{cases_lt}
use Rattle.icode.specs.Actions.{Step, steps_of_phase, plain_code}
use Rattle.icode.specs.Machine.{Code}
use Rattle.icode.specs.Plain.{PlainProgram}
use Rattle.icode.proofs.Lists.{All-slice_get}
use Rattle.code_check.specs.declared.fault.CheckFault.{CheckFault}
use Rattle.code_check.specs.declared.fault.CheckFault.TheVariants.{OverSteps, Address, Register, LineShared, NoMemory}
use Rattle.code_check.specs.Refusals.{IsThere, IsSound, AreSound, IsFirstOffender, IsFirstShared, PassesCheck, IsCause}

slice_get-take : {X : Type 0} (xs : List X) (i n : ℕ) → i < n → slice_get (take n xs) i ≡ slice_get xs i
slice_get-take xs i zero lt = absurd (omega arith)
slice_get-take [] i (suc n) lt = refl
slice_get-take (x ∷ xs) zero (suc n) lt = refl
slice_get-take (x ∷ xs) (suc i) (suc n) lt = slice_get-take xs i n (omega arith)

module _ (p : PlainProgram) (f q i : ℕ) (s : Step) (h : IsFirstOffender p f q i s) where
  -- where all is sound, none offends
  pub not_among_sound : (xs : List Step) → All (IsSound p) xs → slice_get xs i ≡ Some s → ⊥
  not_among_sound xs all e = h.in_phase.offends (All-slice_get (IsSound p) xs i s all e)

  pub phase_not_before : (g r j : ℕ) (t : Step) → IsFirstOffender p g r j t → f < g → ⊥
  phase_not_before g r j t o lt = not_among_sound (steps_of_phase p f q) (o.phases f q lt h.in_phase.of_processor) h.in_phase.here

  pub proc_not_before : (r j : ℕ) (t : Step) → IsFirstOffender p f r j t → q < r → ⊥
  proc_not_before r j t o lt = not_among_sound (steps_of_phase p f q) (o.in_phase.processors q lt) h.in_phase.here

  pub action_not_before : (j : ℕ) (t : Step) → IsFirstOffender p f q j t → i < j → ⊥
  action_not_before j t o lt =
      not_among_sound (take j (steps_of_phase p f q)) o.in_phase.actions (slice_get-take (steps_of_phase p f q) i j lt ∙ h.in_phase.here)

  pub not_all_sound : AreSound p → ⊥
  not_all_sound all = not_among_sound (steps_of_phase p f q) (all f q h.in_phase.of_processor) h.in_phase.here

equal_if_not_less : (a b : ℕ) → (a < b → ⊥) → (b < a → ⊥) → a ≡ b
equal_if_not_less a b not_less not_more =
    ⊎_elim (λ (lt : a < b). absurd (not_less lt)) (λ (ge : b ≤ a). ⊎_elim (λ (gt : b < a). absurd (not_more gt)) (λ (le : a ≤ b). let e : a ≡ b = omega arith in e) (cases_lt b a)) (cases_lt a b)

-- the first offender is one
record AreSame (f q i g r j : ℕ) (s t : Step) : Type 0 where
  pub phase : f ≡ g
  pub proc : q ≡ r
  pub action : i ≡ j
  pub step : s ≡ t

first_is_one : (p : PlainProgram) (f q i g r j : ℕ) (s t : Step) → IsFirstOffender p f q i s →
    IsFirstOffender p g r j t → AreSame f q i g r j s t
first_is_one p f q i g r j s t h o =
    let same_phase : f ≡ g = equal_if_not_less f g (phase_not_before p f q i s h g r j t o) (phase_not_before p g r j t o f q i s h) in
    let o1 : IsFirstOffender p f r j t = subst (λ k. IsFirstOffender p k r j t) (sym same_phase) o in
    let same_proc : q ≡ r = equal_if_not_less q r (proc_not_before p f q i s h r j t o1) (proc_not_before p f r j t o1 q i s h) in
    let o2 : IsFirstOffender p f q j t = subst (λ k. IsFirstOffender p f k j t) (sym same_proc) o1 in
    let same_action : i ≡ j = equal_if_not_less i j (action_not_before p f q i s h j t o2) (action_not_before p f q j t o2 i s h) in
    let found : Some s ≡ Some t = sym h.in_phase.here ∙ (ap (slice_get (steps_of_phase p f q)) same_action ∙ o2.in_phase.here) in
    record { phase = same_phase; proc = same_proc; action = same_action; step = let e : s ≡ t = cc in e }

record AreOneLine (f k a b g l c d : ℕ) : Type 0 where
  pub phase : f ≡ g
  pub line : k ≡ l
  pub writer : a ≡ c
  pub other : b ≡ d

shared_is_one : (code : Code) (f k a b g l c d : ℕ) → IsFirstShared code f k a b → IsFirstShared code g l c d →
    AreOneLine f k a b g l c d
shared_is_one code f k a b g l c d h o =
    let one : f ≤ g = h.phases g l c d o.in_phase.here in
    let two : g ≤ f = o.phases f k a b h.in_phase.here in
    let phase : f ≡ g = omega arith in
    let o1 : IsFirstShared code f l c d = subst (λ n. IsFirstShared code n l c d) (sym phase) o in
    let three : k ≤ l = h.in_phase.lines l c d o1.in_phase.here in
    let four : l ≤ k = o1.in_phase.lines k a b h.in_phase.here in
    let line : k ≡ l = omega arith in
    let o2 : IsFirstShared code f k c d = subst (λ n. IsFirstShared code f n c d) (sym line) o1 in
    let five : a ≤ c = h.in_phase.writers c d o2.in_phase.here in
    let six : c ≤ a = o2.in_phase.writers a b h.in_phase.here in
    let writer : a ≡ c = omega arith in
    let o3 : IsFirstShared code f k a d = subst (λ n. IsFirstShared code f k n d) (sym writer) o2 in
    let seven : b ≤ d = h.in_phase.others d o3.in_phase.here in
    let eight : d ≤ b = o3.in_phase.others b h.in_phase.here in
    record { phase = phase; line = line; writer = writer; other = let e : b ≡ d = omega arith in e }

pub one_cause : (limit : ℕ) (p : PlainProgram) (f g : CheckFault) → f ≢ NoMemory → g ≢ NoMemory → IsCause limit p f →
    IsCause limit p g → f ≡ g
one_cause limit p (OverSteps n) (OverSteps m) nf ng h o = ap OverSteps (h.0 ∙ sym o.0)
one_cause limit p (OverSteps n) (Address f q i) nf ng h o = absurd (omega (arith, h.1, o.few))
one_cause limit p (OverSteps n) (Register f q i) nf ng h o = absurd (omega (arith, h.1, o.few))
one_cause limit p (OverSteps n) (LineShared f k a b) nf ng h o = absurd (omega (arith, h.1, o.few))
one_cause limit p (Address f q i) (OverSteps n) nf ng h o = absurd (omega (arith, o.1, h.few))
one_cause limit p (Address f q i) (Address g r j) nf ng h o =
    let same = first_is_one p f q i g r j h.step o.step h.first o.first in
    let ep : f ≡ g = same.phase in
    let eq : q ≡ r = same.proc in
    let ea : i ≡ j = same.action in cc
one_cause limit p (Address f q i) (Register g r j) nf ng h o =
    let same = first_is_one p f q i g r j h.step o.step h.first o.first in
    absurd (h.missing (subst IsThere (sym same.step) o.there))
one_cause limit p (Address f q i) (LineShared g k a b) nf ng h o = absurd (not_all_sound p f q i h.step h.first o.sound)
one_cause limit p (Register f q i) (OverSteps n) nf ng h o = absurd (omega (arith, o.1, h.few))
one_cause limit p (Register f q i) (Address g r j) nf ng h o =
    let same = first_is_one p f q i g r j h.step o.step h.first o.first in absurd (o.missing (subst IsThere same.step h.there))
one_cause limit p (Register f q i) (Register g r j) nf ng h o =
    let same = first_is_one p f q i g r j h.step o.step h.first o.first in
    let ep : f ≡ g = same.phase in
    let eq : q ≡ r = same.proc in
    let ea : i ≡ j = same.action in cc
one_cause limit p (Register f q i) (LineShared g k a b) nf ng h o = absurd (not_all_sound p f q i h.step h.first o.sound)
one_cause limit p (LineShared f k a b) (OverSteps n) nf ng h o = absurd (omega (arith, o.1, h.few))
one_cause limit p (LineShared f k a b) (Address g r j) nf ng h o = absurd (not_all_sound p g r j o.step o.first h.sound)
one_cause limit p (LineShared f k a b) (Register g r j) nf ng h o = absurd (not_all_sound p g r j o.step o.first h.sound)
one_cause limit p (LineShared f k a b) (LineShared g l c d) nf ng h o =
    let same = shared_is_one (plain_code p) f k a b g l c d h.first o.first in
    let ep : f ≡ g = same.phase in
    let el : k ≡ l = same.line in
    let ea : a ≡ c = same.writer in
    let eb : b ≡ d = same.other in cc
one_cause limit p NoMemory g nf ng h o = absurd (nf refl)
one_cause limit p _ NoMemory nf ng h o = absurd (ng refl)

pub none_if_passed : (limit : ℕ) (p : PlainProgram) (f : CheckFault) → f ≢ NoMemory → PassesCheck limit p →
    IsCause limit p f → ⊥
none_if_passed limit p (OverSteps n) nf h o = omega (arith, o.1, h.few)
none_if_passed limit p (Address f q i) nf h o = not_all_sound p f q i o.step o.first h.sound
none_if_passed limit p (Register f q i) nf h o = not_all_sound p f q i o.step o.first h.sound
none_if_passed limit p (LineShared f k a b) nf h o =
    let here = o.first.in_phase.here in (h.apart f).alone a b k here.other here.writes here.touches
none_if_passed limit p NoMemory nf h o = nf refl
