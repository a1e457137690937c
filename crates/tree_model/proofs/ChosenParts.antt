-- The chosen tree of several dimensions is made of those of the first one and of the others, and so is the least cost.
use Rattle.std.proofs.Common.{◌≡◌, ◌≢◌, ℕ, zero, suc, ◌+◌, ◌-◌, ◌*◌, ◌≤◌, arith, refl, sym, ap, ap₂, ◌∙◌, subst}
use Rattle.std.proofs.Math.Nat.{mul-le-mul_left, le_of_mul-le-mul_left}
use Rattle.std.specs.declared.cmp.Ordering.{Ordering}
use Rattle.std.specs.declared.cmp.Ordering.TheVariants.{Less, Equal, Greater}
use Rattle.std.specs.Cmp.{nat_cmp_total}
use Rattle.std.specs.Ordering.{nat_cmp, ordering_then, ordering_reverse}
use Rattle.matrix_meaning.specs.declared.Dimensions.TheVariants.{One}
use Rattle.matrix_meaning.specs.declared.Request.{Request}
use Rattle.matrix_meaning.specs.Parts.{first_of, rest_of}
use Rattle.matrix_meaning.specs.Valid.{IsInRange}
use Rattle.matrix_meaning.proofs.Parts.{first_at_least_two, first_is_one, rest_at_least_two}
use Rattle.tree_model.specs.declared.tree.Rule.TheVariants.{Dim}
use Rattle.tree_model.specs.Breakdown.{Breakdown, node, size_of}
use Rattle.tree_model.specs.Chosen.{CanDivideWhole, IsWholeChosen, IsWholeLeast, IsWholeTree, whole_cost}
use Rattle.tree_model.specs.Laws.{ChosenOfParts, IsSumOfLeast, LeastOfParts}
use Rattle.tree_model.specs.Order.{ComesBefore, order_of}
use Rattle.tree_model.proofs.FlatTrees.{well_formed}
use Rattle.tree_model.proofs.OrderLaws.{order_flip, same_from_order}
use Rattle.tree_model.proofs.SeveralParts.{dim_cost, first_part, part_tree, whole_by_parts, whole_of_parts}

-- ---- the order

self_reverse : (o : Ordering) → o ≡ ordering_reverse o → o ≡ Equal
self_reverse Less e = cc
self_reverse Equal e = refl
self_reverse Greater e = cc

pub order_itself : (t : Breakdown) → order_of t t ≡ Equal
order_itself t = self_reverse (order_of t t) (order_flip t t)

nat_itself : (n : ℕ) → nat_cmp n n ≡ Equal
nat_itself n = self_reverse (nat_cmp n n) (nat_cmp_total.antisymm n n)

-- two dims whose left parts have one size: the left parts decide, and then the right ones
pub order_of_dims : (a b x y : Breakdown) → size_of a ≡ size_of x →
    order_of (node Dim a b) (node Dim x y) ≡ ordering_then (order_of a x) (order_of b y)
order_of_dims a b x y e =
    let parts = ordering_then (order_of a x) (order_of b y) in
    ap (λ o. ordering_then o (ordering_then (nat_cmp (size_of a) (size_of x)) parts)) (nat_itself 2)
    ∙ ap (λ o. ordering_then o parts) (ap (nat_cmp (size_of a)) (sym e) ∙ nat_itself (size_of a))

first_decides : (o p : Ordering) → p ≡ Equal → ordering_then o p ≡ Less → o ≡ Less
first_decides Less p e h = refl
first_decides Equal p e h = cc
first_decides Greater p e h = cc

others_decide : (o p : Ordering) → o ≡ Equal → ordering_then o p ≡ Less → p ≡ Less
others_decide Less p e h = cc
others_decide Equal p e h = h
others_decide Greater p e h = cc

-- ---- weighted sums

weighted_same : (s r f g i j : ℕ) → 1 ≤ s → 1 ≤ r → s * (f + i) + r * (g + j) ≡ s * f + r * g → (i ≡ 0) × (j ≡ 0)
weighted_same zero r f g i j hs hr e = absurd (omega arith)
weighted_same (suc s) zero f g i j hs hr e = absurd (omega arith)
weighted_same (suc s) (suc r) f g i j hs hr e =
    let left : suc s * (f + i) ≡ suc s * f + (s * i + i) = omega arith in
    let right : suc r * (g + j) ≡ suc r * g + (r * j + j) = omega arith in
    (omega (arith, e, left, right), omega (arith, e, left, right))

-- sums of costs that are no less are equal only where the costs are
parts_same : (s r f g x y : ℕ) → 1 ≤ s → 1 ≤ r → f ≤ x → g ≤ y → s * x + r * y ≡ s * f + r * g → (x ≡ f) × (y ≡ g)
parts_same s r f g x y hs hr p q e =
    let i_is : f + (x - f) ≡ x = omega arith in
    let j_is : g + (y - g) ≡ y = omega arith in
    let zeros = weighted_same s r f g (x - f) (y - g) hs hr (ap₂ (λ u v. s * u + r * v) i_is j_is ∙ e) in
    (omega (arith, zeros.0), omega (arith, zeros.1))

factor_le : (s x y : ℕ) → 1 ≤ s → s * x ≤ s * y → x ≤ y
factor_le s x y hs h = le_of_mul-le-mul_left {m = x} {n = y} {k = s} h hs

module _ (c : Request) (range : IsInRange c) (several : c.dimensions ≢ One) where
  some_first : 1 ≤ (first_of c).size
  some_first = let two = first_at_least_two c range several in omega (arith, two)

  some_rest : 1 ≤ (rest_of c).size
  some_rest = let two = rest_at_least_two c range several in omega (arith, two)

  -- what two parts cost together
  abbrev both_cost : ℕ → ℕ → ℕ
  both_cost x y = (rest_of c).size * x + (first_of c).size * y

  dim_costs : (a b : Breakdown) → IsWholeTree (first_of c) a → IsWholeTree (rest_of c) b →
      whole_cost c (node Dim a b) ≡ both_cost (whole_cost (first_of c) a) (whole_cost (rest_of c) b)
  dim_costs a b left right = dim_cost c a b range several left right

  both_le : (f g x y : ℕ) → f ≤ x → g ≤ y → both_cost f g ≤ both_cost x y
  both_le f g x y p q =
      let left : (rest_of c).size * f ≤ (rest_of c).size * x = mul-le-mul_left (rest_of c).size p in
      let right : (first_of c).size * g ≤ (first_of c).size * y = mul-le-mul_left (first_of c).size q in
      omega (arith, left, right)

  -- ---- from the parts to the whole

  module _ (a b : Breakdown) (left : IsWholeChosen (first_of c) a) (right : IsWholeChosen (rest_of c) b) where
    least_of_dim : (x y : Breakdown) → IsWholeTree (first_of c) x → IsWholeTree (rest_of c) y →
        whole_cost c (node Dim a b) ≤ whole_cost c (node Dim x y)
    least_of_dim x y h k =
        let mine = dim_costs a b left.tree right.tree in
        let other = dim_costs x y h k in
        let less = both_le (whole_cost (first_of c) a) (whole_cost (rest_of c) b) (whole_cost (first_of c) x)
        (whole_cost (rest_of c) y) (left.least x h) (right.least y k) in
        subst (λ n. n ≤ whole_cost c (node Dim x y)) (sym mine)
        (subst (λ n. both_cost (whole_cost (first_of c) a) (whole_cost (rest_of c) b) ≤ n) (sym other) less)

    decided : (x y : Breakdown) (o : Ordering) → order_of a x ≡ o →
        IsWholeTree (first_of c) x → IsWholeTree (rest_of c) y →
        whole_cost (first_of c) x ≡ whole_cost (first_of c) a → whole_cost (rest_of c) y ≡ whole_cost (rest_of c) b →
        node Dim x y ≢ node Dim a b → ordering_then (order_of a x) (order_of b y) ≡ Less
    decided x y Less e h k same_left same_right apart = ap (λ o. ordering_then o (order_of b y)) e
    decided x y Greater e h k same_left same_right apart =
        let other : x ≢ a = λ same. let here : order_of a x ≡ Equal = ap (order_of a) same ∙ order_itself a in cc in
        let before : order_of a x ≡ Less = left.first x h same_left other in
        cc
    decided x y Equal e h k same_left same_right apart =
        let one = first_is_one c several in
        let part = first_part c several in
        let mine = well_formed (first_of c) a one (part_tree (first_of c) a part left.tree) in
        let other = well_formed (first_of c) x one (part_tree (first_of c) x part h) in
        let here : a ≡ x = same_from_order (first_of c).kind a x mine other (left.tree.size ∙ sym h.size) e in
        ap (λ o. ordering_then o (order_of b y)) e
        ∙ right.first y k same_right (λ same. apart (ap₂ (node Dim) (sym here) same))

    first_of_dim : (x y : Breakdown) → IsWholeTree (first_of c) x → IsWholeTree (rest_of c) y →
        whole_cost c (node Dim x y) ≡ whole_cost c (node Dim a b) → node Dim x y ≢ node Dim a b →
        ComesBefore (node Dim a b) (node Dim x y)
    first_of_dim x y h k same apart =
        let costs = parts_same (rest_of c).size (first_of c).size (whole_cost (first_of c) a)
        (whole_cost (rest_of c) b) (whole_cost (first_of c) x) (whole_cost (rest_of c) y)
        some_rest some_first (left.least x h) (right.least y k)
        (sym (dim_costs x y h k) ∙ same ∙ dim_costs a b left.tree right.tree) in
        order_of_dims a b x y (left.tree.size ∙ sym h.size) ∙ decided x y (order_of a x) refl h k costs.0 costs.1 apart

    chosen_of_both : CanDivideWhole c → IsWholeChosen c (node Dim a b)
    chosen_of_both can = record {
      tree = whole_by_parts c a b range several can left.tree right.tree;
      least = λ u whole.
          let (x, y, e, h, k) = whole_of_parts c u range several whole in
          subst (λ v. whole_cost c (node Dim a b) ≤ whole_cost c v) (sym e) (least_of_dim x y h k);
      first = λ u whole same apart.
          let (x, y, e, h, k) = whole_of_parts c u range several whole in
          subst (λ v. ComesBefore (node Dim a b) v) (sym e)
          (first_of_dim x y h k (ap (whole_cost c) (sym e) ∙ same) (λ f. apart (e ∙ f)));
    }

  -- ---- from the whole to the parts

  pub dim_parts : (a b : Breakdown) → IsWholeTree c (node Dim a b) →
      IsWholeTree (first_of c) a × IsWholeTree (rest_of c) b
  dim_parts a b h =
      let (x, y, e, left, right) = whole_of_parts c (node Dim a b) range several h in
      let here : a ≡ x = cc in
      let there : b ≡ y = cc in (
        subst (λ t. IsWholeTree (first_of c) t) (sym here) left,
        subst (λ t. IsWholeTree (rest_of c) t) (sym there) right,
      )

  module _ (a b : Breakdown) (can : CanDivideWhole c)
      (left : IsWholeTree (first_of c) a) (right : IsWholeTree (rest_of c) b) where
    other_left : (u : Breakdown) → IsWholeTree (first_of c) u → IsWholeTree c (node Dim u b)
    other_left u h = whole_by_parts c u b range several can h right

    other_right : (u : Breakdown) → IsWholeTree (rest_of c) u → IsWholeTree c (node Dim a u)
    other_right u h = whole_by_parts c a u range several can left h

    -- a bound of the whole bounds the left part
    left_bound : (u : Breakdown) → IsWholeTree (first_of c) u →
        whole_cost c (node Dim a b) ≤ whole_cost c (node Dim u b) →
        whole_cost (first_of c) a ≤ whole_cost (first_of c) u
    left_bound u h less =
        let mine = dim_costs a b left right in
        let other = dim_costs u b h right in
        factor_le (rest_of c).size (whole_cost (first_of c) a) (whole_cost (first_of c) u) some_rest
        (omega (arith, less, mine, other))

    right_bound : (u : Breakdown) → IsWholeTree (rest_of c) u →
        whole_cost c (node Dim a b) ≤ whole_cost c (node Dim a u) →
        whole_cost (rest_of c) b ≤ whole_cost (rest_of c) u
    right_bound u h less =
        let mine = dim_costs a b left right in
        let other = dim_costs a u left h in
        factor_le (first_of c).size (whole_cost (rest_of c) b) (whole_cost (rest_of c) u) some_first
        (omega (arith, less, mine, other))

    chosen_left : IsWholeChosen c (node Dim a b) → IsWholeChosen (first_of c) a
    chosen_left h = record {
      tree = left;
      least = λ u whole. left_bound u whole (h.least (node Dim u b) (other_left u whole));
      first = λ u whole same apart.
          first_decides (order_of a u) (order_of b b) (order_itself b)
          (sym (order_of_dims a b u b (left.size ∙ sym whole.size))
          ∙ h.first (node Dim u b) (other_left u whole)
          (dim_costs u b whole right ∙ ap (λ x. both_cost x (whole_cost (rest_of c) b)) same
          ∙ sym (dim_costs a b left right))
          (λ e. apart (let inner : u ≡ a = cc in inner)));
    }

    chosen_right : IsWholeChosen c (node Dim a b) → IsWholeChosen (rest_of c) b
    chosen_right h = record {
      tree = right;
      least = λ u whole. right_bound u whole (h.least (node Dim a u) (other_right u whole));
      first = λ u whole same apart.
          others_decide (order_of a a) (order_of b u) (order_itself a)
          (sym (order_of_dims a b a u refl)
          ∙ h.first (node Dim a u) (other_right u whole)
          (dim_costs a u left whole ∙ ap (λ y. both_cost (whole_cost (first_of c) a) y) same
          ∙ sym (dim_costs a b left right))
          (λ e. apart (let inner : u ≡ b = cc in inner)));
    }

    -- ---- the least cost

    least_left : (k : ℕ) → whole_cost c (node Dim a b) ≡ k → ((u : Breakdown) → IsWholeTree c u → k ≤ whole_cost c u) →
        IsWholeLeast (first_of c) (whole_cost (first_of c) a)
    least_left k is bound = record {
      reached = (a, left, refl);
      bound = λ u whole.
          left_bound u whole
          (subst (λ n. n ≤ whole_cost c (node Dim u b)) (sym is) (bound (node Dim u b) (other_left u whole)));
    }

    least_right : (k : ℕ) → whole_cost c (node Dim a b) ≡ k → ((u : Breakdown) → IsWholeTree c u → k ≤ whole_cost c u) →
        IsWholeLeast (rest_of c) (whole_cost (rest_of c) b)
    least_right k is bound = record {
      reached = (b, right, refl);
      bound = λ u whole.
          right_bound u whole
          (subst (λ n. n ≤ whole_cost c (node Dim a u)) (sym is) (bound (node Dim a u) (other_right u whole)));
    }

  sum_of_least : (k : ℕ) → CanDivideWhole c → IsWholeLeast c k → IsSumOfLeast c k
  sum_of_least k can h =
      let (t, whole, is) = h.reached in
      let (a, b, e, left, right) = whole_of_parts c t range several whole in
      let here : whole_cost c (node Dim a b) ≡ k = ap (whole_cost c) (sym e) ∙ is in (
        whole_cost (first_of c) a,
        whole_cost (rest_of c) b,
        least_left a b can left right k here h.bound,
        least_right a b can left right k here h.bound,
        sym here ∙ dim_costs a b left right,
      )

  least_of_sum : (k : ℕ) → CanDivideWhole c → IsSumOfLeast c k → IsWholeLeast c k
  least_of_sum k can (x, y, left, right, is) =
      let (a, whole_a, cost_a) = left.reached in
      let (b, whole_b, cost_b) = right.reached in
      record {
        reached = (
          node Dim a b,
          whole_by_parts c a b range several can whole_a whole_b,
          dim_costs a b whole_a whole_b ∙ ap₂ both_cost cost_a cost_b ∙ sym is,
        );
        bound = λ u whole.
            let (p, q, e, h, j) = whole_of_parts c u range several whole in
            let less = both_le x y (whole_cost (first_of c) p) (whole_cost (rest_of c) q) (left.bound p h)
            (right.bound q j) in
            subst (λ n. n ≤ whole_cost c u) (sym is)
            (subst (λ n. both_cost x y ≤ n) (sym (ap (whole_cost c) e ∙ dim_costs p q h j)) less);
      }

pub chosen_of_parts : ChosenOfParts
chosen_of_parts c a b range several can = (
  λ h.
      let (left, right) = dim_parts c range several a b h.tree in
      (chosen_left c range several a b can left right h, chosen_right c range several a b can left right h),
  λ h. chosen_of_both c range several a b h.0 h.1 can,
)

pub least_of_parts : LeastOfParts
least_of_parts c k range several can = (sum_of_least c range several k can, least_of_sum c range several k can)
