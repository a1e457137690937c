-- What the processors of a program execute together is within 64 bits.
use Rattle.std.proofs.Common.{◌≡◌, ◌<◌, ◌≤◌, ◌+◌, ◌-◌, ◌*◌, ◌^◌, ℕ, zero, suc, List, [], length, map, flat_map}
use Rattle.std.proofs.Common.{refl, ap, ◌∙◌, arith, add-zero, add_assoc, length-append, mul_comm}
use Rattle.std.specs.Prelude.{slice_index_or}
use Rattle.std.specs.List.{range_with_len}
use Rattle.std.proofs.Math.Nat.{mul-le-mul_left}
use Rattle.std.proofs.lemmas.List.{get_or-map, length-map}
use Rattle.std.proofs.lemmas.List.FromFn.{get_or-map-range_with_len}
use Rattle.operators.specs.Sum.{sum_below}
use Rattle.operators.proofs.Sums.{sum_below-same, sum_below-append, sum_below-swap, mul-sum_below}
use Rattle.icode.specs.Actions.{Step, PlainFits, actions_of, plain_code, steps_of_body, steps_of_phase}
use Rattle.icode.specs.Machine.{acts, whole_counts, counts_of}
use Rattle.icode.specs.Plain.{PlainBody, PlainProgram, NoStmts}
use Rattle.icode.specs.declared.action.Action.{Action}
use Rattle.icode.specs.declared.action.Counts.{Counts}

-- Sums

-- smaller terms have a smaller sum
sum_of_smaller : (n : ℕ) (f g : ℕ → ℕ) → ((i : ℕ) → i < n → f i ≤ g i) → sum_below n f ≤ sum_below n g
sum_of_smaller zero f g h = omega arith
sum_of_smaller (suc n) f g h = omega (arith, sum_of_smaller n f g (λ i low. h i (omega (arith, low))), h n (omega arith))

-- fewer terms too
pub sum_of_fewer : (n k : ℕ) (f : ℕ → ℕ) → k ≤ n → sum_below k f ≤ sum_below n f
sum_of_fewer n k f h =
    let parts : n ≡ k + (n - k) = omega (arith, h) in
    let whole : sum_below n f ≡ sum_below (k + (n - k)) f = ap (λ j. sum_below j f) parts in
    omega (arith, whole, sum_below-append k (n - k) f)

-- a sum of n terms that fits has room for each of them
pub next_fits : (n k sum term : ℕ) (f : ℕ → ℕ) → k < n → sum ≡ sum_below k f → term ≡ f k → sum_below n f < 2 ^ 64 →
    sum + term < 2 ^ 64
next_fits n k sum term f low s e fits =
    let one : sum_below (suc k) f ≡ sum_below k f + f k = refl in
    omega (arith, s, e, one, fits, sum_of_fewer n (suc k) f (omega (arith, low)))

-- a list that is joined of parts is as long as all parts
parts_length : {X : Type 0} (g : ℕ → List X) (n first : ℕ) →
    length (flat_map g (range_with_len first n)) ≡ sum_below n (λ k. length (g (first + k)))
parts_length g zero first = refl
parts_length g (suc n) first =
    let f : ℕ → ℕ = λ k. length (g (first + k)) in
    let more : suc n ≡ 1 + n = omega arith in
    let cut : sum_below (suc n) f ≡ sum_below 1 f + sum_below n (λ k. f (1 + k)) = ap (λ j. sum_below j f) more ∙ sum_below-append 1 n f in
    let rest : sum_below n (λ k. length (g (first + 1 + k))) ≡ sum_below n (λ k. f (1 + k)) = sum_below-same n _ _ (λ k _. ap (λ j. length (g j)) (add_assoc first 1 k)) in
    let one : sum_below 1 f ≡ length (g first) = omega (arith, ap (λ j. length (g j)) (add-zero first)) in
    omega (arith, length-append (g first) (flat_map g (range_with_len (first + 1) n)), parts_length g n (first + 1), rest, one, cut)

module _ (p : PlainProgram) where
  -- an action for each step
  acts_length : (phase q : ℕ) → phase < length p.phases → q < p.procs →
      length (acts (plain_code p) phase q) ≡ length (steps_of_phase p phase q)
  acts_length phase q there here =
      let lists : PlainBody → List (List Action) = λ b. map (λ q. actions_of (steps_of_body p b [] q)) (range_with_len 0 p.procs) in
      let body = slice_index_or p.phases phase NoStmts in
      ap (λ (ls : List (List Action)). length (slice_index_or ls q [])) (get_or-map lists p.phases phase NoStmts [] there)
      ∙ ap length (get_or-map-range_with_len (λ q. actions_of (steps_of_body p body [] q)) 0 p.procs q q [] here (omega arith))
      ∙ length-map (steps_of_body p body [] q) (λ (s : Step). s.action)

  -- the actions of all processors are as many as their steps
  all_actions : sum_below p.procs (λ q. length (flat_map (λ phase. acts (plain_code p) phase q)
      (range_with_len 0 (length (plain_code p).lists))))
      ≡ sum_below (length p.phases) (λ phase. sum_below p.procs (λ q. length (steps_of_phase p phase q)))
  all_actions =
      let phases : length (plain_code p).lists ≡ length p.phases = length-map p.phases _ in
      let start : (k : ℕ) → 0 + k ≡ k = λ k. omega arith in
      sum_below-same p.procs _ _ (λ q here.
      parts_length (λ phase. acts (plain_code p) phase q) (length (plain_code p).lists) 0
      ∙ ap (λ n. sum_below n (λ k. length (acts (plain_code p) (0 + k) q))) phases
      ∙ sum_below-same (length p.phases) _ _ (λ phase there. ap (λ k. length (acts (plain_code p) k q)) (start phase) ∙ acts_length phase q there here))
      ∙ sum_below-swap p.procs (length p.phases) (λ q phase. length (steps_of_phase p phase q))

  -- one of the counts, which is at most the lanes of all actions, over all processors
  pub within_word : PlainFits p → p.lanes ≤ 16 → (pick : Counts → ℕ) →
      ((actions : List Action) → pick (counts_of p.lanes actions) ≤ length actions * p.lanes)
      → sum_below p.procs (λ q. pick (whole_counts (plain_code p) q)) < 2 ^ 64
  within_word fits few pick most =
      let count : ℕ → ℕ = λ q. length (flat_map (λ phase. acts (plain_code p) phase q) (range_with_len 0 (length (plain_code p).lists))) in
      let actions = sum_below p.procs count in
      let bound = sum_of_smaller p.procs (λ q. pick (whole_counts (plain_code p) q)) (λ q. p.lanes * count q) (λ q _.
      omega (arith, most (flat_map (λ phase. acts (plain_code p) phase q) (range_with_len 0 (length (plain_code p).lists))), mul_comm p.lanes (count q))) in
      let scaled = mul-sum_below p.procs p.lanes count in
      let turned = mul_comm p.lanes actions in
      let limit = mul-le-mul_left actions few in
      omega (arith, bound, scaled, turned, limit, all_actions, fits.few)
