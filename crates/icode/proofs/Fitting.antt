-- A test of what fits.
use Rattle.std.proofs.Common.{◌≡◌, ℕ, zero, suc, ◌+◌, ◌<◌, ◌≤◌, ◌^◌, ◌⊎◌, inl, inr, List, [], ◌∷◌, Bool, true, false}
use Rattle.std.proofs.Common.{◌&&◌, All, length, refl, sym, ap, ◌∙◌, arith, ltb-true, leb-true, ⊎_elim}
use Rattle.std.specs.Prelude.{nat_lt, nat_le, slice_index_or, ◌||◌}
use Rattle.std.specs.List.{range_with_len, list_all}
use Rattle.std.proofs.lemmas.Bool.{cases_lt}
use Rattle.std.proofs.lemmas.List.Elements.{All-nil, All-cons}
use Rattle.icode.specs.declared.action.Action.{Action}
use Rattle.icode.specs.declared.action.Action.TheVariants.{Load, Store, Zero, Add, Sub, Neg, Mul, Tile}
use Rattle.icode.specs.Actions.{Step, StepFits, RegistersFit, FactorsFit, PlainFits, steps_of_phase, steps_of_body}
use Rattle.icode.specs.Plain.{PlainBody, PlainProgram, NoStmts}
use Rattle.operators.specs.Sum.{sum_below}
use Rattle.icode.specs.Lengths.{len_of_body}
use Rattle.icode.proofs.Lengths.{body_length}
use Rattle.icode.proofs.Bools.{both_true}

abbrev registers_fit : ℕ → ℕ → Action → Bool
registers_fit regs lanes (Load r address) = nat_lt r regs
registers_fit regs lanes (Store address r) = nat_lt r regs
registers_fit regs lanes (Zero r) = nat_lt r regs
registers_fit regs lanes (Add r x y) = nat_lt r regs && (nat_lt x regs && nat_lt y regs)
registers_fit regs lanes (Sub r x y) = nat_lt r regs && (nat_lt x regs && nat_lt y regs)
registers_fit regs lanes (Neg r x) = nat_lt r regs && nat_lt x regs
registers_fit regs lanes (Mul r x factors) = nat_lt r regs && nat_lt x regs
registers_fit regs lanes (Tile r x) =
    nat_le (r + lanes) regs && (nat_le (x + lanes) regs && (nat_le (r + lanes) x || nat_le (x + lanes) r))

abbrev factors_fit : ℕ → Action → Bool
factors_fit modulus (Mul r x factors) = list_all (λ c. nat_lt c modulus) factors
factors_fit modulus _ = true

abbrev step_fits : PlainProgram → Step → Bool
step_fits p s =
    nat_lt s.peak (2 ^ 64) && (nat_le s.reach s.room && (registers_fit p.regs p.lanes s.action && factors_fit p.modulus s.action))

abbrev pub fits : PlainProgram → Bool
fits p =
    nat_lt (sum_below (length p.phases) (λ phase. sum_below p.procs (λ q. length (steps_of_phase p phase q)))) (2 ^ 59)
    && list_all (λ phase. list_all (λ q. list_all (step_fits p) (steps_of_phase p phase q)) (range_with_len 0 p.procs)) (range_with_len 0 (length p.phases))

either_true : (a b : Bool) → (a || b) ≡ true → (a ≡ true) ⊎ (b ≡ true)
either_true true b e = inl refl
either_true false b e = inr e

all_pass : {X : Type 0} (P : X → Type 0) (f : X → Bool) → ((x : X) → f x ≡ true → P x) → (xs : List X) →
    list_all f xs ≡ true → All P xs
all_pass P f each [] h = All-nil P
all_pass P f each (x ∷ xs) h =
    let two = both_true (f x) _ h in All-cons P x xs (each x two.0) (all_pass P f each xs two.1)

-- what all numbers of a range pass, each does
passes_in_range : (f : ℕ → Bool) (n first i : ℕ) → list_all f (range_with_len first n) ≡ true → i < n →
    f (first + i) ≡ true
passes_in_range f zero first i all lt = absurd (omega arith)
passes_in_range f (suc n) first zero all lt = let z : first + 0 ≡ first = omega arith in ap f z ∙ (both_true (f first) _ all).0
passes_in_range f (suc n) first (suc i) all lt =
    let e : first + suc i ≡ first + 1 + i = omega arith in ap f e ∙ passes_in_range f n (first + 1) i (both_true (f first) _ all).1 (omega arith)

two_below : (a b n : ℕ) → (nat_lt a n && nat_lt b n) ≡ true → (a < n) × (b < n)
two_below a b n h = let two = both_true (nat_lt a n) _ h in (ltb-true a n two.0, ltb-true b n two.1)

three_below : (a b c n : ℕ) → (nat_lt a n && (nat_lt b n && nat_lt c n)) ≡ true → (a < n) × (b < n) × (c < n)
three_below a b c n h =
    let one = both_true (nat_lt a n) _ h in
    let two = two_below b c n one.1 in (ltb-true a n one.0, two.0, two.1)

registers_from_test : (regs lanes : ℕ) (a : Action) → registers_fit regs lanes a ≡ true → RegistersFit regs lanes a
registers_from_test regs lanes (Load r address) h = ltb-true r regs h
registers_from_test regs lanes (Store address r) h = ltb-true r regs h
registers_from_test regs lanes (Zero r) h = ltb-true r regs h
registers_from_test regs lanes (Add r x y) h = three_below r x y regs h
registers_from_test regs lanes (Sub r x y) h = three_below r x y regs h
registers_from_test regs lanes (Neg r x) h = two_below r x regs h
registers_from_test regs lanes (Mul r x factors) h = two_below r x regs h
registers_from_test regs lanes (Tile r x) h =
    let one = both_true (nat_le (r + lanes) regs) _ h in
    let two = both_true (nat_le (x + lanes) regs) _ one.1 in (
      leb-true (r + lanes) regs one.0,
      leb-true (x + lanes) regs two.0,
      ⊎_elim (λ (a : nat_le (r + lanes) x ≡ true). inl (leb-true (r + lanes) x a)) (λ (b : nat_le (x + lanes) r ≡ true). inr (leb-true (x + lanes) r b))
          (either_true (nat_le (r + lanes) x) _ two.1),
    )

factors_from_test : (m : ℕ) (a : Action) → factors_fit m a ≡ true → FactorsFit m a
factors_from_test m (Mul r x factors) h = all_pass (λ c. c < m) (λ c. nat_lt c m) (λ c lt. ltb-true c m lt) factors h
factors_from_test m _ h = tt

step_from_test : (p : PlainProgram) (s : Step) → step_fits p s ≡ true → StepFits p s
step_from_test p s h =
    let one = both_true (nat_lt s.peak (2 ^ 64)) _ h in
    let two = both_true (nat_le s.reach s.room) _ one.1 in
    let three = both_true (registers_fit p.regs p.lanes s.action) _ two.1 in
    record {
      numbers = ltb-true s.peak (2 ^ 64) one.0;
      place = leb-true s.reach s.room two.0;
      registers = registers_from_test p.regs p.lanes s.action three.0;
      factors = factors_from_test p.modulus s.action three.1;
    }

-- there is no action past the phases
none_past : (phases : List PlainBody) (i : ℕ) → length phases ≤ i → slice_index_or phases i NoStmts ≡ NoStmts
none_past [] i past = refl
none_past (x ∷ xs) zero past = absurd (omega arith)
none_past (x ∷ xs) (suc i) past = none_past xs i (omega arith)

-- what passes the test fits
pub fits_from_test : (p : PlainProgram) → fits p ≡ true → PlainFits p
fits_from_test p h =
    let count : ℕ = sum_below (length p.phases) (λ phase. sum_below p.procs (λ q. length (steps_of_phase p phase q))) in
    let two = both_true (nat_lt count (2 ^ 59)) _ h in
    record {
      few = ltb-true count (2 ^ 59) two.0;
      each = λ phase q small. ⊎_elim (λ (lt : phase < length p.phases). here two.1 phase q lt small) (λ (past : length p.phases ≤ phase). beyond phase q past) (cases_lt phase (length p.phases));
    }
  where
    here : list_all (λ phase. list_all (λ q. list_all (step_fits p) (steps_of_phase p phase q))
        (range_with_len 0 p.procs)) (range_with_len 0 (length p.phases)) ≡ true → (phase q : ℕ) →
        phase < length p.phases → q < p.procs → All (StepFits p) (steps_of_phase p phase q)
    here all phase q lt small =
        let ze : (n : ℕ) → 0 + n ≡ n = λ n. omega arith in
        let of_phase = ap (λ k. list_all (λ q. list_all (step_fits p) (steps_of_phase p k q)) (range_with_len 0 p.procs)) (sym (ze phase))
        ∙ passes_in_range (λ phase. list_all (λ q. list_all (step_fits p) (steps_of_phase p phase q)) (range_with_len 0 p.procs)) (length p.phases) 0 phase all lt in
        let of_proc = ap (λ k. list_all (step_fits p) (steps_of_phase p phase k)) (sym (ze q))
        ∙ passes_in_range (λ q. list_all (step_fits p) (steps_of_phase p phase q)) p.procs 0 q of_phase small in
        all_pass (StepFits p) (step_fits p) (step_from_test p) (steps_of_phase p phase q) of_proc

    beyond : (phase q : ℕ) → length p.phases ≤ phase → All (StepFits p) (steps_of_phase p phase q)
    beyond phase q past =
        let none = ap (λ body. steps_of_body p body [] q) (none_past p.phases phase past) in
        λ k d lt. absurd (omega (arith, ap length none))

-- a program whose statements stand for no action, whatever the counts of its loops
pub fits_without_actions : (p : PlainProgram) → ((phase : ℕ) → len_of_body (slice_index_or p.phases phase NoStmts) ≡ 0)
    → PlainFits p
fits_without_actions p none =
    record {
      few = small (length p.phases) p.procs (λ phase q. length (steps_of_phase p phase q)) here;
      each = λ phase q below k d lt. absurd (omega (arith, here phase q, lt));
    }
  where
    here : (phase q : ℕ) → length (steps_of_phase p phase q) ≡ 0
    here phase q = body_length p (slice_index_or p.phases phase NoStmts) [] q ∙ none phase

    zeros : (n : ℕ) (f : ℕ → ℕ) → ((i : ℕ) → f i ≡ 0) → sum_below n f ≡ 0
    zeros zero f h = refl
    zeros (suc n) f h = omega (arith, zeros n f h, h n)

    small : (n k : ℕ) (f : ℕ → ℕ → ℕ) → ((i j : ℕ) → f i j ≡ 0) → sum_below n (λ i. sum_below k (f i)) < 2 ^ 59
    small n k f h = let all = zeros n (λ i. sum_below k (f i)) (λ i. zeros k (f i) (h i)) in omega (arith, all)
