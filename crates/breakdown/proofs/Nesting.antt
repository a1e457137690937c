-- The formula of a tree has a text.
use Rattle.std.proofs.Common.{◌≡◌, ℕ, zero, suc, ◌+◌, ◌*◌, ◌^◌, ◌<◌, ◌≤◌, arith, pow-suc}
use Rattle.std.specs.Prelude.{◌==◌, Bool, true, false, if◌then◌else◌}
use Rattle.std.proofs.Math.Nat.{mul-le-mul_left}
use Rattle.matrix_meaning.specs.declared.Kind.{Kind}
use Rattle.matrix_meaning.specs.declared.Kind.TheVariants.{Dft, Wht, Idft}
use Rattle.matrix_meaning.specs.declared.Request.{Request}
use Rattle.matrix_meaning.specs.Parts.{forward_of}
use Rattle.tree_model.specs.declared.tree.Rule.{Rule}
use Rattle.tree_model.specs.declared.tree.Rule.TheVariants.{Gt, Ct, Split, Dim}
use Rattle.tree_model.specs.Breakdown.{Breakdown, leaf, node, size_of}
use Rattle.tree_model.specs.Cost.{node_root}
use Rattle.tree_model.specs.Whole.{left_of, right_of, IsTreeOf}
use Rattle.spl_ast.specs.Formula.{Formula}
use Rattle.spl_ast.specs.Nesting.{nesting_of, IsComplete, IsPrintable}
use Rattle.breakdown.specs.Expansion.{closed_formula, expansion, formula_of, leaf_formula, rule_formula}
use Rattle.breakdown.proofs.Sizes.{positive_tree}

complete-leaf : (kind : Kind) (d w : ℕ) → IsComplete (leaf_formula kind d w)
complete-leaf Dft d w = tt
complete-leaf Wht d w = tt
complete-leaf Idft d w = tt

complete-rule : (rule : Rule) (r s w : ℕ) (a b : Formula) → IsComplete a → IsComplete b →
    IsComplete (rule_formula rule r s w a b)
complete-rule Ct r s w a b h k = (h, (tt, (k, tt)))
complete-rule Gt r s w a b h k = (tt, (h, (k, tt)))
complete-rule Split r s w a b h k = (h, k)
complete-rule Dim r s w a b h k = (h, k)

complete : (p : Request) (t : Breakdown) → IsComplete (expansion p t)
complete p (leaf d) = complete-leaf p.kind d _
complete p (node rule a b) =
    complete-rule rule (size_of a) (size_of b) (node_root p (size_of a * size_of b))
    (expansion (left_of rule p) a) (expansion (right_of rule p) b)
    (complete (left_of rule p) a) (complete (right_of rule p) b)

nesting-leaf : (kind : Kind) (d w : ℕ) → nesting_of (leaf_formula kind d w) ≤ 1
nesting-leaf Dft d w = omega arith
nesting-leaf Wht d w = omega arith
nesting-leaf Idft d w = omega arith

-- each rule opens four parentheses at most
nesting-rule : (rule : Rule) (r s w k : ℕ) (a b : Formula) → 1 ≤ k → nesting_of a ≤ k → nesting_of b ≤ k →
    nesting_of (rule_formula rule r s w a b) ≤ k + 4
nesting-rule Ct r s w k a b pos h g = omega arith
nesting-rule Gt r s w k a b pos h g = omega arith
nesting-rule Split r s w k a b pos h g = omega arith
nesting-rule Dim r s w k a b pos h g = omega arith

-- a part of a node has half the size at most
half_first : (r s k : ℕ) → 2 ≤ s → r * s < 2 ^ suc k → r < 2 ^ k
half_first r s k h below =
    let more : r * 2 ≤ r * s = mul-le-mul_left r h in
    let twice : 2 ^ suc k ≡ 2 ^ k * 2 = pow-suc 2 k in
    omega arith

half_second : (r s k : ℕ) → 2 ≤ r → r * s < 2 ^ suc k → s < 2 ^ k
half_second r s k h below = half_first s r k h (omega arith)

nesting_below : (p : Request) (t : Breakdown) (k : ℕ) → IsTreeOf p t → size_of t < 2 ^ k →
    nesting_of (expansion p t) ≤ 4 * k + 1
nesting_below p (leaf d) k tree below = omega (arith, nesting-leaf p.kind d (node_root p d))
nesting_below p (node rule a b) zero tree below = absurd (omega (arith, positive_tree p (node rule a b) tree))
nesting_below p (node rule a b) (suc k) tree below =
    omega (
      arith,
      nesting-rule rule (size_of a) (size_of b) (node_root p (size_of a * size_of b)) (4 * k + 1)
          (expansion (left_of rule p) a) (expansion (right_of rule p) b) (omega arith)
          (nesting_below (left_of rule p) a k tree.3 (half_first (size_of a) (size_of b) k tree.1 below))
          (nesting_below (right_of rule p) b k tree.4 (half_second (size_of a) (size_of b) k tree.0 below)),
    )

printable : (p : Request) (t : Breakdown) → IsTreeOf p t → size_of t ≤ 1048576 → IsPrintable (expansion p t)
printable p t tree small = record {
  complete = complete p t;
  shallow = omega (arith, nesting_below p t 21 tree (omega arith));
}

-- the factor opens at most three parentheses
printable_closed : (kind : Kind) (p : Request) (t : Breakdown) (m n : ℕ) → IsTreeOf p t → size_of t ≤ 1048576 →
    IsPrintable (closed_formula kind m n (expansion p t))
printable_closed Dft p t m n tree small = printable p t tree small
printable_closed Wht p t m n tree small = printable p t tree small
printable_closed Idft p t m n tree small = record {
  complete = (tt, complete p t);
  shallow = omega (arith, nesting_below p t 21 tree (omega arith));
}

either_printable : (b : Bool) (f g : Formula) → IsPrintable f → IsPrintable g → IsPrintable (if b then f else g)
either_printable true f g h k = h
either_printable false f g h k = k

-- so has the formula of a tree in a request
pub formula_printable : (c : Request) (t : Breakdown) → IsTreeOf (forward_of c) t → size_of t ≤ 1048576 →
    IsPrintable (formula_of c t)
formula_printable c t tree small =
    either_printable (size_of t == c.size) _ _
    (printable_closed c.kind (forward_of c) t c.modulus c.size tree small) (printable (forward_of c) t tree small)
