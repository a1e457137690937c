-- The terms of a formula for lanes have its operations: each processor has its share.
use Rattle.sigma_lower.proofs.Words.{◌≡◌, ℕ, ◌+◌, ◌*◌, ◌/◌, ◌%◌, ◌<◌, ◌==◌, Bool, true, false, arith, refl, sym, ap}
use Rattle.sigma_lower.proofs.Words.{ap₂, ◌∙◌, List, [], ◌∷◌, ◌++◌, subst, if◌then◌else◌, All, map, Option, None, Some}
use Rattle.sigma_lower.proofs.Words.{mul-div_right, All-head, All-tail, CanShareLayout, work_cost, Target}
use Rattle.sigma_lower.proofs.Words.{closed_phases, embed, phase_term, IsVecOf, lowered_core, factor_term, smp_of}
use Rattle.sigma_lower.proofs.Words.{within, core_size, PlainCore, piece, twiddles, Blocks, Columns, Path, size_under}
use Rattle.sigma_lower.proofs.Words.{copies_of, size_under-copies, HasLanes, vec_of, PlainFactor, lanes, diagonals}
use Rattle.sigma_lower.proofs.Words.{move_before, move_after, PlainVec, vec_shaped, term_cost, sigma_of, whole_sigma}
use Rattle.sigma_lower.proofs.Words.{after_core, IsDiagonal, copies-within}
use Rattle.std.proofs.Common.{add-zero}
use Rattle.std.proofs.Math.Nat.{zero-div}
use Rattle.sigma_spl.specs.Term.{PlainTerm}
use Rattle.sigma_lower.specs.Merged.{phase_costs}
use Rattle.smp_rewrite.specs.Laws.{HasEqualParts, IsPermutation}
use Rattle.smp_rewrite.specs.Layout.Whole.{Whole, closing_cost}
use Rattle.smp_rewrite.specs.Layout.Step.{core_cost}
use Rattle.tree_model.proofs.Splits.{product_div}
use Rattle.vec_rewrite.specs.Vectors.{tiles, share_of, shares_in, vec_shares}
use Rattle.vec_rewrite.proofs.LaneShares.{shares_in-append}
use Rattle.sigma_lower.proofs.SharedTrees.{all-left, all-right}

-- ---- factors

abbrev cost_in : ℕ → Target → PlainTerm → ℕ
cost_in weight c t = term_cost weight (work_cost weight c.modulus) c.size t

copies-split : (p v : ℕ) (path : Path) → copies_of (within (Blocks p) (within (Columns v) path))
    ≡ p * (v * copies_of path)
copies-split p v path = copies-within (Blocks p) (within (Columns v) path) ∙ ap (λ k. p * k) (copies-within (Columns v) path)

-- on each lane of each processor's block
lane-cost : (weight : ℕ) (c : Target) (p v : ℕ) (path : Path) (k : PlainCore) →
    p * (v * size_under path (core_size k)) ≡ c.size →
    cost_in weight c (embed (lowered_core (within (Blocks p) (within (Columns v) path)) k))
    ≡ p * (v * (copies_of path * core_cost weight c.modulus k))
lane-cost weight c p v path (piece t) size = ap (λ a. a * work_cost weight c.modulus t) (copies-split p v path) ∙ grouped p v (copies_of path) (work_cost weight c.modulus t)
  where
    grouped : (p v k x : ℕ) → p * (v * k) * x ≡ p * (v * (k * x))
    grouped p v k x = omega arith
lane-cost weight c p v path (twiddles r s w) size = ap (λ n. weight * n) (sym (ap (λ n. p * (v * n)) (sym (size_under-copies path (r * s))) ∙ size)) ∙ grouped weight p v (copies_of path) (r * s)
  where
    grouped : (w p v k n : ℕ) → w * (p * (v * (k * n))) ≡ p * (v * (k * (w * n)))
    grouped w p v k n = omega arith
lane-cost weight c p v path _ size = omega arith

-- a diagonal that the processors share
share-exact : (p w n : ℕ) → 0 < p → n % p ≡ 0 → p * (w * n / p) ≡ w * n
share-exact p w n positive rest =
    let whole : w * n ≡ p * (w * (n / p)) = ap (λ k. w * k) (sym (product_div n p rest)) ∙ turned w p (n / p) in
    ap (λ k. p * (k / p)) whole ∙ ap (λ k. p * k) (mul-div_right (w * (n / p)) positive) ∙ sym whole
  where
    turned : (w p k : ℕ) → w * (p * k) ≡ p * (w * k)
    turned w p k = omega arith

diagonal-cost : (weight : ℕ) (c : Target) (p : ℕ) (path : Path) (k : PlainCore) → 0 < p →
    size_under path (core_size k) ≡ c.size → IsDiagonal k → c.size % p ≡ 0 →
    cost_in weight c (embed (lowered_core path k)) ≡ p * (copies_of path * core_cost weight c.modulus k / p)
diagonal-cost weight c p path (twiddles r s w) positive size is rest =
    let all : copies_of path * (weight * (r * s)) ≡ weight * c.size = turned (copies_of path) weight (r * s) ∙ ap (λ n. weight * n) (sym (size_under-copies path (r * s)) ∙ size) in
    sym (ap (λ n. p * (n / p)) all ∙ share-exact p weight c.size positive rest)
  where
    turned : (k w n : ℕ) → k * (w * n) ≡ w * (k * n)
    turned k w n = omega arith
diagonal-cost weight c p path _ positive size is rest = absurd is

-- permutations
before-cost : (weight : ℕ) (c : Target) (p : ℕ) (path : Path) (k : PlainCore) → IsPermutation k →
    cost_in weight c (embed (lowered_core path k)) ≡ p * 0
before-cost weight c p path (piece t) is = absurd is
before-cost weight c p path (twiddles r s w) is = absurd is
before-cost weight c p path _ is = omega arith

after-cost : (weight : ℕ) (c : Target) (p : ℕ) (path : Path) (k : PlainCore) → IsPermutation k →
    cost_in weight c (embed (after_core path k)) ≡ p * 0
after-cost weight c p path (piece t) is = absurd is
after-cost weight c p path (twiddles r s w) is = absurd is
after-cost weight c p path _ is = omega arith

factor-cost : (weight : ℕ) (c : Target) (p v : ℕ) (f : PlainFactor) → 0 < p → HasLanes c.size p v f →
    cost_in weight c (embed (factor_term p v f)) ≡ p * share_of weight c.modulus p v f
factor-cost weight c p v (lanes s) positive h = lane-cost weight c p v s.path s.core h
factor-cost weight c p v (diagonals s) positive h = diagonal-cost weight c p s.path s.core positive h.0 h.1 h.2
factor-cost weight c p v (move_before s) positive h = before-cost weight c p (within (Columns v) s.path) s.core h.1
factor-cost weight c p v (move_after s) positive h = after-cost weight c p (within (Columns v) s.path) s.core h.1
factor-cost weight c p v (tiles path) positive h = none (copies_of (within (Blocks p) path)) p
  where
    none : (k p : ℕ) → k * 0 ≡ p * 0
    none k p = omega arith

-- ---- phases

phase-cost : (weight : ℕ) (c : Target) (p v : ℕ) (fs : List PlainFactor) → 0 < p → All (HasLanes c.size p v) fs →
    cost_in weight c (phase_term (map (factor_term p v) fs)) ≡ p * shares_in weight c.modulus p v fs
phase-cost weight c p v [] positive h = omega arith
phase-cost weight c p v (f ∷ fs) positive h =
    ap₂ (λ a b. a + b) (factor-cost weight c p v f positive (All-head (HasLanes c.size p v) f fs h))
    (phase-cost weight c p v fs positive (All-tail (HasLanes c.size p v) f fs h))
    ∙ shared p (share_of weight c.modulus p v f) (shares_in weight c.modulus p v fs)
  where
    shared : (p a b : ℕ) → p * a + p * b ≡ p * (a + b)
    shared p a b = omega arith

-- the products at the end, of which each processor has s
last-more : (p b s e : ℕ) → e ≡ p * s → p * b + e ≡ p * (b + s)
last-more p b s e is = let after : p * (b + s) ≡ p * b + p * s = omega arith in omega (arith, after, is)

both-more : (p a b s e : ℕ) → e ≡ p * s → p * (a + b) + e ≡ p * (a + (b + s))
both-more p a b s e is = last-more p (a + b) s e is ∙ ap (λ n. p * n) (omega arith)

module _ (weight : ℕ) (c : Target) (p v : ℕ) (first second : List PlainFactor) where
  abbrev shares : List PlainFactor → ℕ
  shares fs = shares_in weight c.modulus p v fs

  -- the processors do the operations of a phase in equal shares
  abbrev IsShared : List PlainFactor → Type 0
  IsShared fs = cost_in weight c (phase_term (map (factor_term p v) fs)) ≡ p * shares fs

  -- one phase or two, the last of which has the products at the end
  phases-cost : (b : Bool) (o : Option ℕ) (s : ℕ) → IsShared (first ++ second) → IsShared first → IsShared second →
      closing_cost weight c.size o ≡ p * s →
      map (cost_in weight c) (closed_phases c.size o (map phase_term (map (map (factor_term p v))
      (if b then (first ++ second) ∷ [] else first ∷ second ∷ []))))
      ≡ map (λ k. p * k)
      (if b then (shares first + (shares second + s)) ∷ [] else shares first ∷ (shares second + s) ∷ [])
  phases-cost true None s all h k e =
      ap (λ x. x ∷ [])
      (all ∙ ap (λ n. p * n) (shares_in-append weight c.modulus p v first second)
      ∙ sym (add-zero _) ∙ both-more p (shares first) (shares second) s 0 e)
  phases-cost true (Some u) s all h k e =
      ap (λ x. x ∷ [])
      (ap (λ x. x + weight * c.size)
      (all ∙ ap (λ n. p * n) (shares_in-append weight c.modulus p v first second))
      ∙ both-more p (shares first) (shares second) s (weight * c.size) e)
  phases-cost false None s all h k e = ap₂ (λ x y. x ∷ y ∷ []) h (k ∙ sym (add-zero _) ∙ last-more p (shares second) s 0 e)
  phases-cost false (Some u) s all h k e =
      ap₂ (λ x y. x ∷ y ∷ []) h
      (ap (λ x. x + weight * c.size) k ∙ last-more p (shares second) s (weight * c.size) e)

-- the products at the end, of which each processor has an equal part
closing-exact : (weight n p : ℕ) (o : Option ℕ) → 0 < p → HasEqualParts n p o →
    closing_cost weight n o ≡ p * (closing_cost weight n o / p)
closing-exact weight n p None positive even = sym (ap (λ k. p * k) (zero-div p) ∙ omega arith)
closing-exact weight n p (Some v) positive even = sym (share-exact p weight n positive even)

whole-costs : (weight : ℕ) (c : Target) (w : Whole) → CanShareLayout c w.layout →
    phase_costs weight c.modulus (whole_sigma c w)
    ≡ map (λ k. c.procs * k) (vec_shares weight c.modulus (vec_of (smp_of c w)))
whole-costs weight c w shares =
    let g = vec_of (smp_of c w) in
    let p = c.procs in
    let v = c.lanes in
    let positive : 0 < p = omega (arith, shares.procs) in
    let Shaped : PlainFactor → Type 0 = HasLanes c.size p v in
    let laned = vec_shaped c (smp_of c w) (record { whole = w; shares = shares; form = refl }) in
    let shaped = laned.0 in
    phases-cost weight c p v g.first g.second (p == 1) w.factor (closing_cost weight c.size w.factor / p)
    (phase-cost weight c p v (g.first ++ g.second) positive shaped)
    (phase-cost weight c p v g.first positive (all-left Shaped g.first g.second shaped))
    (phase-cost weight c p v g.second positive (all-right Shaped g.first g.second shaped))
    (closing-exact weight c.size p w.factor positive laned.1)

-- phase by phase the processors do the operations of the terms in equal shares
pub vec_costs : (weight : ℕ) (c : Target) (g : PlainVec) → IsVecOf c g →
    phase_costs weight c.modulus (sigma_of g) ≡ map (λ k. c.procs * k) (vec_shares weight c.modulus g)
vec_costs weight c g h =
    subst
    (λ z. phase_costs weight c.modulus (sigma_of z) ≡ map (λ k. c.procs * k) (vec_shares weight c.modulus z))
    (sym h.form) (whole-costs weight c h.whole h.shares)
