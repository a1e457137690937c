-- What is decided: whether a request divides, and which rules and leaves it allows.
use Rattle.std.proofs.Common.{◌≡◌, ◌⊎◌, ℕ, zero, suc, ◌*◌, ◌/◌, ◌%◌, ◌<◌, ◌≤◌, Bool, true, false, refl, sym, subst, inl}
use Rattle.std.proofs.Common.{inr, arith}
use Rattle.std.specs.Int.{IsGcd}
use Rattle.std.proofs.lemmas.Bool.{cases_lt, cases_eq, cases_Bool}
use Rattle.std.proofs.lemmas.Nat.Gcd.{same_from_IsGcd}
use Rattle.matrix_meaning.specs.declared.Kind.{Kind}
use Rattle.matrix_meaning.specs.declared.Kind.TheVariants.{Dft, Wht, Idft}
use Rattle.matrix_meaning.specs.declared.Request.{Request}
use Rattle.tree_model.specs.declared.tree.Rule.{Rule}
use Rattle.tree_model.specs.declared.tree.Rule.TheVariants.{Gt, Ct, Split, Dim}
use Rattle.tree_model.specs.Breakdown.{AllowsLeaf, AllowsRule}
use Rattle.tree_model.specs.Cost.{is_plain, rule_cost}
use Rattle.tree_model.specs.Order.{rule_rank}
use Rattle.tree_model.specs.Admissible.{DividesBoth, Fits, CanDivide, RuleFits, AllowsLeafAt, AllowsNodeAt}
use Rattle.tree_model.proofs.Splits.{no_left_fits, fits_quotient}
use Rattle.plan_search.specs.Search.{IsBestRule}
use Rattle.plan_search.proofs.Gcds.{gcd_exists}
use Rattle.plan_search.proofs.Parts.{next_cases}

-- it holds, or it does not
abbrev pub IsDecidable : Type 0 → Type 0
IsDecidable A = A ⊎ (A → ⊥)

pub decided_as : {A B : Type 0} → (A → B) → (B → A) → IsDecidable A → IsDecidable B
decided_as to from (inl a) = inl (to a)
decided_as to from (inr not) = inr (λ b. not (from b))

pub decided_both : {A B : Type 0} → IsDecidable A → IsDecidable B → IsDecidable (A × B)
decided_both (inl a) (inl b) = inl (a, b)
decided_both (inl a) (inr not) = inr (λ both. not both.1)
decided_both (inr not) h = inr (λ both. not both.0)

pub decided_where : {A B : Type 0} → IsDecidable A → IsDecidable B → IsDecidable (A → B)
decided_where (inl a) (inl b) = inl (λ x. b)
decided_where (inl a) (inr not) = inr (λ f. not (f a))
decided_where (inr not) h = inl (λ a. absurd (not a))

pub decided_le : (a b : ℕ) → IsDecidable (a ≤ b)
decided_le a b = elim (cases_lt b a) [ inl over ↦ inr (λ le. omega arith) | inr le ↦ inl le ]

decided_false : (b : Bool) → IsDecidable (b ≡ false)
decided_false false = inl refl
decided_false true = inr (λ e. grind arith)

-- one of the numbers below n, or none
decided_below : (P : ℕ → Type 0) → ((k : ℕ) → IsDecidable (P k)) → (n : ℕ) →
    ((k : ℕ) × P k) ⊎ ((k : ℕ) → k < n → P k → ⊥)
decided_below P each zero = inr (λ k less p. omega arith)
decided_below P each (suc n) = elim (each n) [
  | inl p ↦ inl (n, p)
  | inr not ↦ elim (decided_below P each n) [
    | inl found ↦ inl found
    | inr none ↦ inr (λ k less p. elim (next_cases k n (omega arith)) [ inl before ↦ none k before p | inr here ↦ not (subst P here p) ])
  ]
]

decided_coprime : (r s : ℕ) → IsDecidable (IsGcd r s 1)
decided_coprime r s =
    let g = gcd_exists r s in
    elim (cases_eq g.0 1) [ inl one ↦ inl (subst (λ (k : ℕ). IsGcd r s k) one g.1) | inr other ↦ inr (λ h. other (same_from_IsGcd r s g.0 1 g.1 h)) ]

-- ---- roots

decided_divides_both : (q r s : ℕ) → IsDecidable (DividesBoth q r s)
decided_divides_both q r s = decided_both (cases_eq (r % q) 0) (cases_eq (s % q) 0)

pub decided_fits : (c : Request) (r s : ℕ) → IsDecidable (Fits c r s)
decided_fits c r s =
    decided_as
    (λ h. record { left = h.0.0; right = h.0.1; product = h.1.0; procs = h.1.1.0; lanes = h.1.1.1 })
    (λ f. ((f.left, f.right), (f.product, (f.procs, f.lanes))))
    (decided_both (decided_both (decided_le 2 r) (decided_le 2 s))
    (decided_both (cases_eq (r * s) c.size)
    (decided_both (decided_where (decided_le 2 c.procs) (decided_divides_both (c.procs * c.line) r s)) (decided_where (decided_le 2 c.lanes) (decided_divides_both c.lanes r s)))))

decided_left : (c : Request) (r : ℕ) → IsDecidable ((s : ℕ) × Fits c r s)
decided_left c r = decided_as (λ h. (c.size / r, h)) (fits_quotient c r) (decided_fits c r (c.size / r))

pub decided_divide : (c : Request) → IsDecidable (CanDivide c)
decided_divide c = elim (cases_Bool (is_plain c)) [
  | inl plain ↦ inl (inl plain)
  | inr spread ↦ elim (decided_below (λ r. (s : ℕ) × Fits c r s) (decided_left c) c.size) [
    | inl found ↦ inl (inr (found.0, found.1.0, found.1.1))
    | inr none ↦ inr (no_left_fits c c.size (omega arith) none (sym spread))
  ]
]

-- ---- leaves and rules

decided_leaf_of : (kind : Kind) (d : ℕ) → IsDecidable (AllowsLeaf kind d)
decided_leaf_of Dft d = decided_le 1 d
decided_leaf_of Wht d = decided_both (decided_le 1 d) (decided_le d 2)
decided_leaf_of Idft d = inr (λ none. none)

pub decided_leaf : (c : Request) (d : ℕ) → IsDecidable (AllowsLeafAt c d)
decided_leaf c d =
    decided_as (λ h. record { leaf = h.0; root = h.1 }) (λ h. (h.leaf, h.root))
    (decided_both (decided_leaf_of c.kind d) (decided_where (cases_eq d c.size) (decided_where (decided_false (is_plain c)) (inr (λ none. none)))))

decided_rule : (kind : Kind) (rule : Rule) (r s : ℕ) → IsDecidable (AllowsRule kind rule r s)
decided_rule Dft Gt r s = decided_coprime r s
decided_rule Dft Ct r s = inl tt
decided_rule Dft Split r s = inr (λ none. none)
decided_rule Dft Dim r s = inr (λ none. none)
decided_rule Wht Gt r s = inr (λ none. none)
decided_rule Wht Ct r s = inr (λ none. none)
decided_rule Wht Split r s = inl tt
decided_rule Wht Dim r s = inr (λ none. none)
decided_rule Idft rule r s = inr (λ none. none)

decided_root : (c : Request) (rule : Rule) (r s : ℕ) → IsDecidable (RuleFits c rule r s)
decided_root c Gt r s = inr (λ none. none)
decided_root c Ct r s = decided_fits c r s
decided_root c Split r s = decided_fits c r s
decided_root c Dim r s = decided_fits c r s

pub decided_node : (c : Request) (rule : Rule) (r s : ℕ) → IsDecidable (AllowsNodeAt c rule r s)
decided_node c rule r s =
    decided_as
    (λ h. record { split = record { left = h.0.0; right = h.0.1.0; allowed = h.0.1.1 }; root = h.1 })
    (λ h. ((h.split.left, (h.split.right, h.split.allowed)), h.root))
    (decided_both (decided_both (decided_le 2 r) (decided_both (decided_le 2 s) (decided_rule c.kind rule r s)))
    (decided_where (cases_eq (r * s) c.size) (decided_where (decided_false (is_plain c)) (decided_root c rule r s))))

-- ct and split are rules of different transforms
one_of_two : (kind : Kind) (r s : ℕ) → AllowsRule kind Ct r s → AllowsRule kind Split r s → ⊥
one_of_two Dft r s h k = k
one_of_two Wht r s h k = h
one_of_two Idft r s h k = h

-- dim takes no transform of one size apart
no_dim : (kind : Kind) (r s : ℕ) → AllowsRule kind Dim r s → ⊥
no_dim Dft r s h = h
no_dim Wht r s h = h
no_dim Idft r s h = h

rank_of_gt : (rule : Rule) → 1 ≤ rule_rank rule
rank_of_gt Gt = omega arith
rank_of_gt Ct = omega arith
rank_of_gt Split = omega arith
rank_of_gt Dim = omega arith

gt_is_best : (c : Request) (r s : ℕ) → AllowsNodeAt c Gt r s → IsBestRule c r s Gt
gt_is_best c r s h = record { allowed = h; first = λ other k. rank_of_gt other; cheapest = λ other k. omega arith }

first_but_gt : (c : Request) (r s : ℕ) (rule : Rule) → (AllowsNodeAt c Gt r s → ⊥) → rule_rank rule ≤ 2 →
    (other : Rule) → AllowsNodeAt c other r s → rule_rank rule ≤ rule_rank other
first_but_gt c r s rule no_gt low Gt k = absurd (no_gt k)
first_but_gt c r s rule no_gt low Ct k = omega arith
first_but_gt c r s rule no_gt low Split k = omega arith
first_but_gt c r s rule no_gt low Dim k = omega arith

ct_is_cheapest : (c : Request) (r s : ℕ) → (AllowsNodeAt c Gt r s → ⊥) → AllowsNodeAt c Ct r s → (other : Rule) →
    AllowsNodeAt c other r s → rule_cost c Ct r s ≤ rule_cost c other r s
ct_is_cheapest c r s no_gt h Gt k = absurd (no_gt k)
ct_is_cheapest c r s no_gt h Ct k = omega arith
ct_is_cheapest c r s no_gt h Split k = absurd (one_of_two c.kind r s h.split.allowed k.split.allowed)
ct_is_cheapest c r s no_gt h Dim k = absurd (no_dim c.kind r s k.split.allowed)

none_of_three : (c : Request) (r s : ℕ) → (AllowsNodeAt c Gt r s → ⊥) → (AllowsNodeAt c Ct r s → ⊥) →
    (AllowsNodeAt c Split r s → ⊥) → (rule : Rule) → AllowsNodeAt c rule r s → ⊥
none_of_three c r s no_gt no_ct no_split Gt = no_gt
none_of_three c r s no_gt no_ct no_split Ct = no_ct
none_of_three c r s no_gt no_ct no_split Split = no_split
none_of_three c r s no_gt no_ct no_split Dim = λ h. no_dim c.kind r s h.split.allowed

-- the best rule for these parts, or none
pub best_rule_of : (c : Request) (r s : ℕ) → ((rule : Rule) × IsBestRule c r s rule)
    ⊎ ((rule : Rule) → AllowsNodeAt c rule r s → ⊥)
best_rule_of c r s = elim (decided_node c Gt r s) [
  | inl gt ↦ inl (Gt, gt_is_best c r s gt)
  | inr no_gt ↦ elim (decided_node c Ct r s) [
    | inl ct ↦ inl (Ct, record { allowed = ct; first = first_but_gt c r s Ct no_gt (omega arith); cheapest = ct_is_cheapest c r s no_gt ct })
    | inr no_ct ↦ elim (decided_node c Split r s) [
      | inl split ↦ inl (Split, record { allowed = split; first = first_but_gt c r s Split no_gt (omega arith); cheapest = λ other k. omega arith })
      | inr no_split ↦ inr (none_of_three c r s no_gt no_ct no_split)
    ]
  ]
]
