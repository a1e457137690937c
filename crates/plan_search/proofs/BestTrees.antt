-- A best tree for each size that has a tree.
use Rattle.std.proofs.Common.{◌≡◌, ◌≢◌, ◌⊎◌, ℕ, zero, suc, ◌+◌, ◌*◌, ◌/◌, ◌%◌, ◌<◌, ◌≤◌}
use Rattle.std.proofs.Common.{refl, sym, ap, ◌∙◌, subst, inl, inr, arith}
use Rattle.std.proofs.lemmas.Bool.{cases_lt, cases_eq, cases_order}
use Rattle.std.specs.declared.cmp.Ordering.{Ordering}
use Rattle.std.specs.declared.cmp.Ordering.TheVariants.{Less, Equal, Greater}
use Rattle.std.specs.Ordering.{is_gt, ordering_reverse}
use Rattle.matrix_meaning.specs.declared.Kind.TheVariants.{Idft}
use Rattle.matrix_meaning.specs.declared.Request.{Request}
use Rattle.matrix_meaning.specs.Valid.{HasShape, IsValid}
use Rattle.tree_model.specs.declared.tree.Rule.{Rule}
use Rattle.tree_model.specs.Breakdown.{Breakdown, leaf, node, size_of}
use Rattle.tree_model.specs.Cost.{cost_of}
use Rattle.tree_model.specs.Order.{order_of}
use Rattle.tree_model.specs.Admissible.{AllowsLeafAt, CanDivide, IsCandidate, IsChosen, IsChosenFor}
use Rattle.tree_model.proofs.OrderLaws.{order_flip}
use Rattle.tree_model.proofs.Splits.{product_div, div_at_least_two}
use Rattle.plan_search.specs.Search.{IsNoWorse, AnyTree, IsLeaf, HasLeft, HasLeftBelow, IsBestRule}
use Rattle.plan_search.proofs.BestOf.{IsBestTree, best_node, none_by_rule, none_by_left, none_by_right}
use Rattle.plan_search.proofs.Chosen.{chosen_of_tree}
use Rattle.plan_search.proofs.Decisions.{decided_leaf, best_rule_of}
use Rattle.plan_search.proofs.Existence.{some_tree, inner_tree}
use Rattle.plan_search.proofs.NoWorse.{no_worse_itself, no_worse_trans}
use Rattle.plan_search.proofs.Parts.{candidate_of, left_cases, no_left, leaf_of_small, left_below_size}
use Rattle.plan_search.proofs.TableLaws.{quotient_below}

-- a best tree of those that have P, or none has it
abbrev pub HasBest : Request → ℕ → (Breakdown → Type 0) → Type 0
HasBest c d P = ((t : Breakdown) × IsBestTree c d P t) ⊎ ((u : Breakdown) → IsCandidate c d u → P u → ⊥)

best_of_fewer : (c : Request) (d : ℕ) (P Q : Breakdown → Type 0) → ((u : Breakdown) → IsCandidate c d u → Q u → P u) →
    HasBest c d P → HasBest c d Q
best_of_fewer c d P Q sub (inl h) = inl (h.0, record { candidate = h.1.candidate; best = λ u k q. h.1.best u k (sub u k q) })
best_of_fewer c d P Q sub (inr none) = inr (λ u k q. none u k (sub u k q))

-- ---- the better of two trees

by_order : (c : Request) (t u : Breakdown) (o : Ordering) → order_of t u ≡ o → cost_of c t ≡ cost_of c u →
    IsNoWorse c t u ⊎ IsNoWorse c u t
by_order c t u Less e same = inl (inr (same, ap is_gt e))
by_order c t u Equal e same = inl (inr (same, ap is_gt e))
by_order c t u Greater e same = inr (inr (sym same, ap is_gt (order_flip u t ∙ ap ordering_reverse e)))

no_worse_either : (c : Request) (t u : Breakdown) → IsNoWorse c t u ⊎ IsNoWorse c u t
no_worse_either c t u = elim (cases_order (cost_of c t) (cost_of c u)) [
  | inl same ↦ by_order c t u (order_of t u) refl same
  | inr (inl less) ↦ inl (inl less)
  | inr (inr more) ↦ inr (inl more)
]

module _ (c : Request) (d : ℕ) (P Q R : Breakdown → Type 0) (cases : (u : Breakdown) → R u → P u ⊎ Q u) where
  first_is_best : (t v : Breakdown) → IsBestTree c d P t → IsBestTree c d Q v → IsNoWorse c t v → IsBestTree c d R t
  first_is_best t v h k better = record {
    candidate = h.candidate;
    best = λ u candidate x. elim (cases u x) [
      | inl p ↦ h.best u candidate p
      | inr q ↦ no_worse_trans c t v u better (k.best u candidate q)
    ];
  }

  second_is_best : (t v : Breakdown) → IsBestTree c d P t → IsBestTree c d Q v → IsNoWorse c v t → IsBestTree c d R v
  second_is_best t v h k better = record {
    candidate = k.candidate;
    best = λ u candidate x. elim (cases u x) [
      | inl p ↦ no_worse_trans c v t u better (h.best u candidate p)
      | inr q ↦ k.best u candidate q
    ];
  }

  best_of_both : HasBest c d P → HasBest c d Q → HasBest c d R
  best_of_both (inl h) (inl k) = elim (no_worse_either c h.0 k.0) [
    | inl better ↦ inl (h.0, first_is_best h.0 k.0 h.1 k.1 better)
    | inr better ↦ inl (k.0, second_is_best h.0 k.0 h.1 k.1 better)
  ]
  best_of_both (inl h) (inr none) =
      inl (h.0, record { candidate = h.1.candidate; best = λ u k x. elim (cases u x) [ inl p ↦ h.1.best u k p | inr q ↦ absurd (none u k q) ] })
  best_of_both (inr none) (inl h) =
      inl (h.0, record { candidate = h.1.candidate; best = λ u k x. elim (cases u x) [ inl p ↦ absurd (none u k p) | inr q ↦ h.1.best u k q ] })
  best_of_both (inr none) (inr other) = inr (λ u k x. elim (cases u x) [ inl p ↦ none u k p | inr q ↦ other u k q ])

-- ---- leaves and nodes

same_leaf : (c : Request) (d : ℕ) (u : Breakdown) → IsCandidate c d u → IsLeaf u → IsNoWorse c (leaf d) u
same_leaf c d (leaf e) h k = subst (λ (n : ℕ). IsNoWorse c (leaf d) (leaf n)) (sym h.size) (no_worse_itself c (leaf d))
same_leaf c d (node rule a b) h k = absurd k

no_leaf : (c : Request) (d : ℕ) → (AllowsLeafAt c d → ⊥) → (u : Breakdown) → IsCandidate c d u → IsLeaf u → ⊥
no_leaf c d none (leaf e) h k =
    none (subst (λ (n : ℕ). AllowsLeafAt c n) h.size (record { leaf = h.well_formed; root = λ full spread. h.root (sym h.size ∙ full) spread }))
no_leaf c d none (node rule a b) h k = k

best_leaf : (c : Request) (d : ℕ) → HasBest c d IsLeaf
best_leaf c d = elim (decided_leaf c d) [
  | inl allowed ↦ inl (leaf d, record { candidate = record { well_formed = allowed.leaf; size = refl; root = allowed.root }; best = same_leaf c d })
  | inr not ↦ inr (no_leaf c d not)
]

module _ (c : Request) (r s : ℕ) (hr : 2 ≤ r) (hs : 2 ≤ s) (le : r * s ≤ c.size) where
  best_by_rule : (rule : Rule) → IsBestRule c r s rule → HasBest c r AnyTree → HasBest c s AnyTree →
      HasBest c (r * s) (HasLeft r)
  best_by_rule rule best (inl h) (inl k) = inl (
    node rule h.0 k.0,
    record {
      candidate = candidate_of c r s rule h.0 k.0 best.allowed h.1.candidate k.1.candidate;
      best = best_node c r s rule h.0 k.0 hr hs le best h.1 k.1;
    },
  )
  best_by_rule rule best (inl h) (inr none) = inr (none_by_right c r s hr le none)
  best_by_rule rule best (inr none) k = inr (none_by_left c r s hr le none)

  best_split : HasBest c r AnyTree → HasBest c s AnyTree → HasBest c (r * s) (HasLeft r)
  best_split h k = elim (best_rule_of c r s) [
    | inl best ↦ best_by_rule best.0 best.1 h k
    | inr none ↦ inr (none_by_rule c r s hr le none)
  ]

-- ---- all trees of a size

-- no left part is as large as the whole
not_left_from : (c : Request) (d r : ℕ) → d ≤ r → (u : Breakdown) → IsCandidate c d u → HasLeft r u → ⊥
not_left_from c d r le (leaf e) h k = k
not_left_from c d r le (node rule a b) h k =
    let below : size_of a < r = left_below_size c d r le (node rule a b) h tt in absurd (omega (arith, k))

module _ (c : Request) (d : ℕ) (high : d ≤ c.size) (smaller : (k : ℕ) → k < d → HasBest c k AnyTree) where
  best_at_divisor : (r : ℕ) → 2 ≤ r → r < d → d % r ≡ 0 → HasBest c d (HasLeft r)
  best_at_divisor r low less divides =
      let two : 2 ≤ d / r = div_at_least_two d r divides less in
      let product : r * (d / r) ≡ d = product_div d r divides in
      subst (λ (n : ℕ). HasBest c n (HasLeft r)) product
      (best_split c r (d / r) low two (omega (arith, product, high)) (smaller r less) (smaller (d / r) (quotient_below d r low less divides)))

  best_with_left : (r : ℕ) → 2 ≤ r → HasBest c d (HasLeft r)
  best_with_left r low = elim (cases_lt r d) [
    | inr over ↦ inr (not_left_from c d r over)
    | inl less ↦ elim (cases_eq (d % r) 0) [ inl divides ↦ best_at_divisor r low less divides | inr other ↦ inr (no_left c d r other) ]
  ]

  best_with_left_below : (n : ℕ) → HasBest c d (HasLeftBelow (n + 2))
  best_with_left_below zero = best_of_fewer c d IsLeaf (HasLeftBelow 2) (leaf_of_small c d) (best_leaf c d)
  best_with_left_below (suc n) =
      let next : n + 2 + 1 ≡ suc n + 2 = omega arith in
      subst (λ (r : ℕ). HasBest c d (HasLeftBelow r)) next
      (best_of_both c d (HasLeftBelow (n + 2)) (HasLeft (n + 2)) (HasLeftBelow (n + 2 + 1)) (left_cases (n + 2)) (best_with_left_below n) (best_with_left (n + 2) (omega arith)))

  best_from_smaller : HasBest c d AnyTree
  best_from_smaller = best_of_fewer c d (HasLeftBelow (d + 2)) AnyTree (left_below_size c d (d + 2) (omega arith)) (best_with_left_below d)

best_within : (c : Request) (n d : ℕ) → d < n → d ≤ c.size → HasBest c d AnyTree
best_within c zero d less high = absurd (omega arith)
best_within c (suc n) d less high = best_from_smaller c d high (λ k below. best_within c n k (omega arith) (omega arith))

-- ---- the laws

pub chosen_of_shape : (c : Request) → c.kind ≢ Idft → 1 ≤ c.size → HasShape c.kind c.size → CanDivide c →
    (t : Breakdown) × IsChosen c t
chosen_of_shape c proper low shape can = elim (best_within c (suc c.size) c.size (omega arith) (omega arith)) [
  | inl h ↦ (h.0, chosen_of_tree c c.size h.0 h.1)
  | inr none ↦ let tree = some_tree c proper low shape can in absurd (none tree.0 tree.1 tt)
]

pub chosen_exists : (c : Request) → IsValid c → c.kind ≢ Idft → CanDivide c → (t : Breakdown) × IsChosen c t
chosen_exists c valid proper can = chosen_of_shape c proper valid.in_range.size.0 valid.in_range.shape can

-- so has each smaller divisor of the size
pub chosen_at_divisor : (c : Request) (d : ℕ) → IsValid c → c.kind ≢ Idft → 1 ≤ d → d < c.size → c.size % d ≡ 0 →
    (t : Breakdown) × IsChosenFor c d t
chosen_at_divisor c d valid proper low less divides = elim (best_within c (suc d) d (omega arith) (omega arith)) [
  | inl h ↦ (h.0, chosen_of_tree c d h.0 h.1)
  | inr none ↦
      let tree = inner_tree c d (c.size / d) proper low (product_div c.size d divides) less valid.in_range.shape in
      absurd (none tree.0 tree.1 tt)
]
