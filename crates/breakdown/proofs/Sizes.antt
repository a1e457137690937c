-- Sizes of trees and of their formulas.
use Rattle.std.proofs.Common.{◌≡◌, ◌≢◌, ℕ, zero, suc, ◌+◌, ◌*◌, ◌/◌, ◌%◌, ◌≤◌, refl, sym, subst, arith, ap, ap₂, ◌∙◌}
use Rattle.std.proofs.Common.{mul_comm, mod-eq_of_lt, ⊎_elim}
use Rattle.std.specs.Int.{IsGcd}
use Rattle.std.proofs.Math.Nat.{zero-mod, mod_self}
use Rattle.std.proofs.lemmas.Bool.{cases_lt}
use Rattle.std.proofs.lemmas.Nat.{div-mul-add}
use Rattle.ring_mod.proofs.Congruence.{same-from_product}
use Rattle.matrix_meaning.specs.declared.Dimensions.TheVariants.{One}
use Rattle.matrix_meaning.specs.declared.Kind.{Kind}
use Rattle.matrix_meaning.specs.declared.Kind.TheVariants.{Dft, Wht, Idft}
use Rattle.matrix_meaning.specs.declared.Request.{Request}
use Rattle.matrix_meaning.specs.Kind.{IsPowerOfTwo}
use Rattle.matrix_meaning.specs.Valid.{IsValid}
use Rattle.tree_model.specs.declared.tree.Rule.{Rule}
use Rattle.tree_model.specs.declared.tree.Rule.TheVariants.{Gt, Ct, Split, Dim}
use Rattle.tree_model.specs.Breakdown.{Breakdown, leaf, node, size_of, AllowsLeaf, AllowsRule}
use Rattle.tree_model.specs.Cost.{node_root}
use Rattle.tree_model.specs.Whole.{left_of, right_of, AllowsRuleOf, IsTreeOf}
use Rattle.tree_model.proofs.Sizes.{left_le}
use Rattle.spl_ast.specs.Formula.{Formula, size_of as rows_of}
use Rattle.spl_ast.specs.Shape.{IsSize, IsMultiple}
use Rattle.breakdown.specs.Expansion.{expansion, leaf_formula, rule_formula, HasFactors}

-- ---- formulas

rows-leaf : (kind : Kind) (d w : ℕ) → rows_of (leaf_formula kind d w) ≡ d
rows-leaf Dft d w = refl
rows-leaf Wht d w = refl
rows-leaf Idft d w = refl

rows-rule : (rule : Rule) (r s w : ℕ) (a b : Formula) → rows_of a ≡ r → rows_of (rule_formula rule r s w a b) ≡ r * s
rows-rule Ct r s w a b e = ap (λ n. n * s) e
rows-rule Gt r s w a b e = refl
rows-rule Split r s w a b e = ap (λ n. n * s) e
rows-rule Dim r s w a b e = ap (λ n. n * s) e

-- a tree's formula has the tree's size
pub rows_of_expansion : (p : Request) (t : Breakdown) → rows_of (expansion p t) ≡ size_of t
rows_of_expansion p (leaf d) = rows-leaf p.kind d _
rows_of_expansion p (node rule a b) =
    rows-rule rule (size_of a) (size_of b) (node_root p (size_of a * size_of b))
    (expansion (left_of rule p) a) (expansion (right_of rule p) b) (rows_of_expansion (left_of rule p) a)

-- ---- factors

positive_first : (r s : ℕ) → 1 ≤ r * s → 1 ≤ r
positive_first zero s h = absurd (omega arith)
positive_first (suc r) s h = omega arith

positive_second : (r s : ℕ) → 1 ≤ r * s → 1 ≤ s
positive_second r zero h = absurd (omega arith)
positive_second r (suc s) h = omega arith

second_below : (r s n : ℕ) → 1 ≤ r → r * s ≤ n → s ≤ n
second_below zero s n pos h = absurd (omega arith)
second_below (suc r) s n pos h = let more : suc r * s ≡ s + r * s = omega arith in omega arith

pub second_size : (r s : ℕ) → IsSize (r * s) → IsSize s
second_size r s h = (positive_second r s h.0, second_below r s 1048576 (positive_first r s h.0) h.1)

pub first_size : (r s : ℕ) → IsSize (r * s) → IsSize r
first_size r s h = second_size s r (omega arith, omega arith)

pub multiple_of_second : (r s : ℕ) → IsSize (r * s) → IsMultiple (r * s) s
multiple_of_second r s h =
    let e : r * s ≡ r * s + 0 = omega arith in
    ap (λ n. n / s * s) e ∙ ap (λ n. n * s) (div-mul-add r s 0 (positive_second r s h.0))

pub multiple_of_first : (r s : ℕ) → IsSize (r * s) → IsMultiple (r * s) r
multiple_of_first r s h =
    ap (λ n. n / r * r) (mul_comm r s) ∙ multiple_of_second s r (omega arith, omega arith) ∙ mul_comm s r

-- ---- what divides the request's size

pub first_divides : (n r s : ℕ) → n % (r * s) ≡ 0 → n % r ≡ 0
first_divides n r s h = same-from_product r s n 0 (h ∙ sym (zero-mod (r * s))) ∙ zero-mod r

pub second_divides : (n r s : ℕ) → n % (r * s) ≡ 0 → n % s ≡ 0
second_divides n r s h = first_divides n s r (ap (λ k. n % k) (mul_comm s r) ∙ h)

divisor_below : (n d : ℕ) → 1 ≤ n → n % d ≡ 0 → d ≤ n
divisor_below n d pos h =
    ⊎_elim (λ l. let same : n % d ≡ n = mod-eq_of_lt l in absurd (omega arith)) (λ l. l) (cases_lt n d)

pub whole_divides : (n d : ℕ) → d ≡ n → n % d ≡ 0
whole_divides n d same = ap (λ k. n % k) same ∙ mod_self n

positive_leaf : (kind : Kind) (d : ℕ) → AllowsLeaf kind d → 1 ≤ d
positive_leaf Dft d h = h
positive_leaf Wht d h = h.0
positive_leaf Idft d h = absurd h

pub positive_tree : (p : Request) (t : Breakdown) → IsTreeOf p t → 1 ≤ size_of t
positive_tree p (leaf d) h = positive_leaf p.kind d h.1
positive_tree p (node rule a b) h =
    let left : size_of a ≤ size_of a * size_of b = left_le (size_of a) (size_of b) h.1 in omega (arith, h.0)

size_in : (p : Request) (d : ℕ) → IsValid p → 1 ≤ d → p.size % d ≡ 0 → IsSize d
size_in p d valid pos divides =
    let range = valid.in_range.size in (pos, omega (arith, divisor_below p.size d range.0 divides, range.1))

-- a node has a size
pub node_size : (p : Request) (t : Breakdown) → IsValid p → IsTreeOf p t → p.size % size_of t ≡ 0 → IsSize (size_of t)
node_size p t valid tree divides = size_in p (size_of t) valid (positive_tree p t tree) divides

pub leaf_size : (p : Request) (d : ℕ) → IsValid p → AllowsLeaf p.kind d → p.size % d ≡ 0 → IsSize d
leaf_size p d valid allowed divides = size_in p d valid (positive_leaf p.kind d allowed) divides

small_power : (d : ℕ) → 1 ≤ d → d ≤ 2 → IsPowerOfTwo d
small_power zero low high = absurd (omega arith)
small_power (suc zero) low high = (0, refl)
small_power (suc (suc zero)) low high = (1, refl)
small_power (suc (suc (suc d))) low high = absurd (omega arith)

-- the sizes of leaves of Walsh and Hadamard are powers of two
pub leaf_power : (kind : Kind) (d : ℕ) → kind ≡ Wht → AllowsLeaf kind d → IsPowerOfTwo d
leaf_power Dft d e h = absurd cc
leaf_power Wht d e h = small_power d h.0 h.1
leaf_power Idft d e h = absurd h

-- no leaf stands for an inverse
pub no_inverse_leaf : (kind : Kind) (d : ℕ) → kind ≡ Idft → AllowsLeaf kind d → ⊥
no_inverse_leaf Dft d e h = absurd cc
no_inverse_leaf Wht d e h = absurd cc
no_inverse_leaf Idft d e h = h

-- ---- the parts of a node

abbrev pub nodes_of : Breakdown → ℕ
nodes_of (leaf d) = 1
nodes_of (node rule a b) = nodes_of a + nodes_of b + 1

-- sizes of parts divide those of the requests that the parts are of
pub left_divides : (p : Request) (rule : Rule) (r s : ℕ) → AllowsRuleOf p rule r s → p.size % (r * s) ≡ 0 →
    (left_of rule p).size % r ≡ 0
left_divides p Gt r s h divides = first_divides p.size r s divides
left_divides p Ct r s h divides = first_divides p.size r s divides
left_divides p Split r s h divides = first_divides p.size r s divides
left_divides p Dim r s h divides = whole_divides _ r h.1

pub right_divides : (p : Request) (rule : Rule) (r s : ℕ) → AllowsRuleOf p rule r s → p.size % (r * s) ≡ 0 →
    (right_of rule p).size % s ≡ 0
right_divides p Gt r s h divides = second_divides p.size r s divides
right_divides p Ct r s h divides = second_divides p.size r s divides
right_divides p Split r s h divides = second_divides p.size r s divides
right_divides p Dim r s h divides = whole_divides _ s h.2

-- a dim is of several dimensions
pub dim_parts : (p : Request) (rule : Rule) (r s : ℕ) → AllowsRuleOf p rule r s → rule ≡ Dim → p.dimensions ≢ One
dim_parts p Gt r s h e = absurd cc
dim_parts p Ct r s h e = absurd cc
dim_parts p Split r s h e = absurd cc
dim_parts p Dim r s h e = h.0

coprime_factors : (kind : Kind) (r s : ℕ) → AllowsRule kind Gt r s → IsGcd r s 1
coprime_factors Dft r s h = h
coprime_factors Wht r s h = absurd h
coprime_factors Idft r s h = absurd h

factors-rule : (p : Request) (rule : Rule) (r s : ℕ) → 2 ≤ r → 2 ≤ s → AllowsRuleOf p rule r s → HasFactors rule r s
factors-rule p Gt r s left right h = record { first = left; second = right; coprime = coprime_factors p.kind r s h.1 }
factors-rule p Ct r s left right h = tt
factors-rule p Split r s left right h = tt
factors-rule p Dim r s left right h = tt

-- a node by a rule, with formulas of its parts
module _ (p : Request) (rule : Rule) (a b : Breakdown) (f g : Formula)
    (left : f ≡ expansion (left_of rule p) a) (right : g ≡ expansion (right_of rule p) b) where
  left_rows : rows_of f ≡ size_of a
  left_rows = ap rows_of left ∙ rows_of_expansion (left_of rule p) a

  right_rows : rows_of g ≡ size_of b
  right_rows = ap rows_of right ∙ rows_of_expansion (right_of rule p) b

  pub product_size : IsValid p → IsTreeOf p (node rule a b) → p.size % (size_of a * size_of b) ≡ 0 →
      IsSize (rows_of f * rows_of g)
  product_size valid tree divides =
      let sizes : rows_of f * rows_of g ≡ size_of a * size_of b = ap₂ (λ x y. x * y) left_rows right_rows in
      subst IsSize (sym sizes) (node_size p (node rule a b) valid tree divides)

  pub rule_factors : IsTreeOf p (node rule a b) → HasFactors rule (rows_of f) (rows_of g)
  rule_factors tree =
      subst (λ r. HasFactors rule r (rows_of g)) (sym left_rows)
      (subst (λ s. HasFactors rule (size_of a) s) (sym right_rows)
      (factors-rule p rule (size_of a) (size_of b) tree.0 tree.1 tree.2))

  pub node_expansion : (h : Formula) →
      h ≡ rule_formula rule (rows_of f) (rows_of g) (node_root p (rows_of f * rows_of g)) f g →
      h ≡ expansion p (node rule a b)
  node_expansion h made =
      made
      ∙ ap₂ (λ r s. rule_formula rule r s (node_root p (r * s)) f g) left_rows right_rows
      ∙ ap₂ (λ x y. rule_formula rule (size_of a) (size_of b) (node_root p (size_of a * size_of b)) x y) left right
