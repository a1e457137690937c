-- What a walk says of its steps.
use Rattle.std.proofs.Common.{◌≡◌, ℕ, suc, ◌+◌, ◌≤◌, ◌^◌, inl, inr, Bool, true, false, List, [], ◌∷◌}
use Rattle.std.proofs.Common.{Option, Some, None, All, take, refl, ap, ◌∙◌, arith, ltb-true, leb-true, ⊎_elim}
use Rattle.std.proofs.lemmas.Bool.{and_from, le-leb, lt-ltb, or_cases, or_left, or_right}
use Rattle.std.specs.Prelude.{nat_lt, nat_le, slice_get, if◌then◌else◌, ◌||◌}
use Rattle.std.proofs.lemmas.List.Elements.{All-nil, All-cons}
use Rattle.icode.specs.declared.action.Action.{Action}
use Rattle.icode.specs.declared.action.Action.TheVariants.{Load, Store, Zero, Add, Sub, Neg, Mul, Tile}
use Rattle.icode.specs.Actions.{Step, RegistersFit}
use Rattle.icode.specs.Plain.{PlainProgram}
use Rattle.icode.proofs.Bools.{both_true}
use Rattle.code_check.specs.declared.lines.LineUse.{LineUse}
use Rattle.code_check.specs.declared.walk.Offence.{Offence}
use Rattle.code_check.specs.declared.walk.Offence.TheVariants.{Place, Register}
use Rattle.code_check.specs.Refusals.{IsThere, IsSound}
use Rattle.code_check.specs.Uses.{noted}
use Rattle.code_check.specs.Tables.{noted_all}
use Rattle.code_check.specs.Walk.{Walk, Passed, Stopped, registers_fit, is_there, judged, goes_on, walked}

there_from_test : (s : Step) → is_there s ≡ true → IsThere s
there_from_test s h =
    let two = both_true (nat_lt s.peak (2 ^ 64)) _ h in
    record { numbers = ltb-true s.peak (2 ^ 64) two.0; inside = leb-true s.reach s.room two.1 }

there_test : (s : Step) → IsThere s → is_there s ≡ true
there_test s h = and_from (nat_lt s.peak (2 ^ 64)) (nat_le s.reach s.room) (lt-ltb s.peak (2 ^ 64) h.numbers) (le-leb s.reach s.room h.inside)

registers_from_test : (regs lanes : ℕ) (a : Action) → registers_fit regs lanes a ≡ true → RegistersFit regs lanes a
registers_from_test regs lanes (Load r address) h = ltb-true r regs h
registers_from_test regs lanes (Store address r) h = ltb-true r regs h
registers_from_test regs lanes (Zero r) h = ltb-true r regs h
registers_from_test regs lanes (Add r x y) h =
    let one = both_true (nat_lt r regs) _ h in
    let two = both_true (nat_lt x regs) _ one.1 in (ltb-true r regs one.0, ltb-true x regs two.0, ltb-true y regs two.1)
registers_from_test regs lanes (Sub r x y) h =
    let one = both_true (nat_lt r regs) _ h in
    let two = both_true (nat_lt x regs) _ one.1 in (ltb-true r regs one.0, ltb-true x regs two.0, ltb-true y regs two.1)
registers_from_test regs lanes (Neg r x) h = let two = both_true (nat_lt r regs) _ h in (ltb-true r regs two.0, ltb-true x regs two.1)
registers_from_test regs lanes (Mul r x factors) h = let two = both_true (nat_lt r regs) _ h in (ltb-true r regs two.0, ltb-true x regs two.1)
registers_from_test regs lanes (Tile r x) h =
    let one = both_true (nat_le (r + lanes) regs) _ h in
    let two = both_true (nat_le (x + lanes) regs) _ one.1 in (
      leb-true (r + lanes) regs one.0,
      leb-true (x + lanes) regs two.0,
      ⊎_elim (λ (a : nat_le (r + lanes) x ≡ true). inl (leb-true (r + lanes) x a)) (λ (b : nat_le (x + lanes) r ≡ true). inr (leb-true (x + lanes) r b))
          (or_cases (nat_le (r + lanes) x) _ two.1),
    )

registers_test : (regs lanes : ℕ) (a : Action) → RegistersFit regs lanes a → registers_fit regs lanes a ≡ true
registers_test regs lanes (Load r address) h = lt-ltb r regs h
registers_test regs lanes (Store address r) h = lt-ltb r regs h
registers_test regs lanes (Zero r) h = lt-ltb r regs h
registers_test regs lanes (Add r x y) h = and_from (nat_lt r regs) _ (lt-ltb r regs h.0) (and_from (nat_lt x regs) (nat_lt y regs) (lt-ltb x regs h.1) (lt-ltb y regs h.2))
registers_test regs lanes (Sub r x y) h = and_from (nat_lt r regs) _ (lt-ltb r regs h.0) (and_from (nat_lt x regs) (nat_lt y regs) (lt-ltb x regs h.1) (lt-ltb y regs h.2))
registers_test regs lanes (Neg r x) h = and_from (nat_lt r regs) (nat_lt x regs) (lt-ltb r regs h.0) (lt-ltb x regs h.1)
registers_test regs lanes (Mul r x factors) h = and_from (nat_lt r regs) (nat_lt x regs) (lt-ltb r regs h.0) (lt-ltb x regs h.1)
registers_test regs lanes (Tile r x) h =
    and_from (nat_le (r + lanes) regs) _ (le-leb (r + lanes) regs h.0)
    (and_from (nat_le (x + lanes) regs) (nat_le (r + lanes) x || nat_le (x + lanes) r) (le-leb (x + lanes) regs h.1)
    (⊎_elim
    (λ (a : r + lanes ≤ x). or_left (nat_le (r + lanes) x) (nat_le (x + lanes) r) (le-leb (r + lanes) x a))
    (λ (b : x + lanes ≤ r). or_right (nat_le (r + lanes) x) (nat_le (x + lanes) r) (le-leb (x + lanes) r b))
    h.2))

-- what is wrong with a step
abbrev pub IsWrong : PlainProgram → Step → Offence → Type 0
IsWrong p s Place = IsThere s → ⊥
IsWrong p s Register = IsThere s × (IsSound p s → ⊥)

pub wrong_is_not_sound : (p : PlainProgram) (s : Step) (o : Offence) → IsWrong p s o → IsSound p s → ⊥
wrong_is_not_sound p s Place w h = w h.place
wrong_is_not_sound p s Register w h = w.1 h

sound_by : (p : PlainProgram) (s : Step) (a b : Bool) → is_there s ≡ a → registers_fit p.regs p.lanes s.action ≡ b →
    (if a then (if b then None else Some Register) else Some Place) ≡ None → IsSound p s
sound_by p s true true ea eb e = record { place = there_from_test s ea; registers = registers_from_test p.regs p.lanes s.action eb }
sound_by p s true false ea eb e = cc
sound_by p s false b ea eb e = cc

pub sound_if_none : (p : PlainProgram) (s : Step) → judged p s ≡ None → IsSound p s
sound_if_none p s e = sound_by p s (is_there s) (registers_fit p.regs p.lanes s.action) refl refl e

wrong_by : (p : PlainProgram) (s : Step) (o : Offence) (a b : Bool) → is_there s ≡ a →
    registers_fit p.regs p.lanes s.action ≡ b → (if a then (if b then None else Some Register) else Some Place)
    ≡ Some o → IsWrong p s o
wrong_by p s o true true ea eb e = cc
wrong_by p s Place true false ea eb e = cc
wrong_by p s Register true false ea eb e = (there_from_test s ea, λ h. let yes = registers_test p.regs p.lanes s.action h.registers in cc)
wrong_by p s Place false b ea eb e = λ h. let yes = there_test s h in cc
wrong_by p s Register false b ea eb e = cc

pub wrong_if_some : (p : PlainProgram) (s : Step) (o : Offence) → judged p s ≡ Some o → IsWrong p s o
wrong_if_some p s o e = wrong_by p s o (is_there s) (registers_fit p.regs p.lanes s.action) refl refl e

-- a walk that passes: all steps are sound, and the table has noted them
passes_by : (p : PlainProgram) (q : ℕ) (s : Step) (steps : List Step) (n m : ℕ) (t u : List LineUse)
    (j : Option Offence) → judged p s ≡ j → (walked p q steps (n + 1) (noted p q s t) ≡ Passed m u →
    All (IsSound p) steps × (u ≡ noted_all p q steps (noted p q s t))) →
    goes_on j n (walked p q steps (n + 1) (noted p q s t)) ≡ Passed m u →
    All (IsSound p) (s ∷ steps) × (u ≡ noted_all p q steps (noted p q s t))
passes_by p q s steps n m t u None ej more e =
    let rest = more e in (All-cons (IsSound p) s steps (sound_if_none p s ej) rest.0, rest.1)
passes_by p q s steps n m t u (Some o) ej more e = cc

pub passed_sound : (p : PlainProgram) (q : ℕ) (steps : List Step) (n m : ℕ) (t u : List LineUse) →
    walked p q steps n t ≡ Passed m u → All (IsSound p) steps × (u ≡ noted_all p q steps t)
passed_sound p q [] n m t u e = (All-nil (IsSound p), cc)
passed_sound p q (s ∷ steps) n m t u e =
    passes_by p q s steps n m t u (judged p s) refl (passed_sound p q steps (n + 1) m (noted p q s t) u) e

-- a walk that stops: it stops at the first step that is not sound
pub record StopsAt (p : PlainProgram) (steps : List Step) (i : ℕ) (o : Offence) : Type 0 where
  pub step : Step
  pub here : slice_get steps i ≡ Some step
  pub wrong : IsWrong p step o
  pub before : All (IsSound p) (take i steps)

stops_by : (p : PlainProgram) (s : Step) (steps : List Step) (n m : ℕ) (o : Offence) (rest : Walk)
    (j : Option Offence) → judged p s ≡ j → (rest ≡ Stopped m o → (i : ℕ) × (m ≡ n + 1 + i) × StopsAt p steps i o) →
    goes_on j n rest ≡ Stopped m o → (i : ℕ) × (m ≡ n + i) × StopsAt p (s ∷ steps) i o
stops_by p s steps n m o rest None ej more e =
    let found = more e in (
      suc found.0,
      omega (arith, found.1),
      record {
        step = found.2.step;
        here = found.2.here;
        wrong = found.2.wrong;
        before = All-cons (IsSound p) s (take found.0 steps) (sound_if_none p s ej) found.2.before;
      },
    )
stops_by p s steps n m o rest (Some f) ej more e =
    let same : f ≡ o = cc in
    let none : n ≡ m = cc in
    (0, omega arith, record { step = s; here = refl; wrong = wrong_if_some p s o (ej ∙ ap Some same); before = All-nil (IsSound p) })

pub stopped_at : (p : PlainProgram) (q : ℕ) (steps : List Step) (n m : ℕ) (t : List LineUse) (o : Offence) →
    walked p q steps n t ≡ Stopped m o → (i : ℕ) × (m ≡ n + i) × StopsAt p steps i o
stopped_at p q [] n m t o e = cc
stopped_at p q (s ∷ steps) n m t o e =
    stops_by p s steps n m o (walked p q steps (n + 1) (noted p q s t)) (judged p s) refl (stopped_at p q steps (n + 1) m (noted p q s t) o) e
