-- The formula of a breakdown tree.
use Rattle.std.specs.Prelude.{[], ◌∷◌, ℕ, ◌*◌, ◌==◌, if◌then◌else◌}
use Rattle.matrix_meaning.specs.declared.Kind.{Kind}
use Rattle.matrix_meaning.specs.declared.Kind.TheVariants.{Dft, Wht, Idft}
use Rattle.matrix_meaning.specs.declared.Request.{Request}
use Rattle.matrix_meaning.specs.Parts.{forward_of}
use Rattle.ring_mod.specs.Inverse.{inverse_mod}
use Rattle.tree_model.specs.declared.tree.Rule.{Rule}
use Rattle.tree_model.specs.declared.tree.Rule.TheVariants.{Gt, Ct, Split, Dim}
use Rattle.tree_model.specs.Breakdown.{Breakdown, leaf, node, size_of}
use Rattle.tree_model.specs.Cost.{node_root}
use Rattle.tree_model.specs.Whole.{left_of, right_of}
use Rattle.spl_ast.specs.Shape.{AreGoodThomasFactors}
use Rattle.spl_ast.specs.Formula.{Formula, Fourier, Hadamard, Twiddles, Diagonal, Stride, GoodThomasIn, GoodThomasOut}
use Rattle.spl_ast.specs.Formula.{Product, TensorLeft, TensorRight}

-- a transform of size d, by its definition; an inverse has no leaves
abbrev pub leaf_formula : Kind → ℕ → ℕ → Formula
leaf_formula Dft d w = Fourier d w
leaf_formula Wht d w = Hadamard d
leaf_formula Idft d w = Fourier d w

-- a transform of size r * s with the root w by a rule, from the formulas of its two parts
abbrev pub rule_formula : Rule → ℕ → ℕ → ℕ → Formula → Formula → Formula
rule_formula Ct r s w a b =
    Product (TensorLeft a s) (Product (Twiddles (r * s) s w) (Product (TensorRight r b) (Stride (r * s) r)))
rule_formula Gt r s w a b =
    Product (GoodThomasOut r s) (Product (TensorLeft a s) (Product (TensorRight r b) (GoodThomasIn r s)))
rule_formula Split r s w a b = Product (TensorLeft a s) (TensorRight r b)
rule_formula Dim r s w a b = Product (TensorLeft a s) (TensorRight r b)

-- sizes of parts that a rule may have: for that of Good and Thomas they are coprime
abbrev pub HasFactors : Rule → ℕ → ℕ → Type 0
HasFactors Ct r s = Unit {0}
HasFactors Gt r s = AreGoodThomasFactors r s
HasFactors Split r s = Unit {0}
HasFactors Dim r s = Unit {0}

-- the formula of a tree of the request, or of a node of it, down to the leaves
abbrev pub expansion : Request → Breakdown → Formula
expansion p (leaf d) = leaf_formula p.kind d (node_root p d)
expansion p (node rule a b) =
    rule_formula rule (size_of a) (size_of b) (node_root p (size_of a * size_of b))
    (expansion (left_of rule p) a) (expansion (right_of rule p) b)

-- a formula of size n, divided by n: then n's inverse modulo m times each item
abbrev pub divided : ℕ → ℕ → Formula → Formula
divided m n f = Product (TensorRight n (Diagonal (inverse_mod m n ∷ []))) f

abbrev pub closed_formula : Kind → ℕ → ℕ → Formula → Formula
closed_formula Dft m n f = f
closed_formula Wht m n f = f
closed_formula Idft m n f = divided m n f

-- a formula of size d in the request: an inverse divides that of the whole size
abbrev pub closed_at : Request → ℕ → Formula → Formula
closed_at c d f = if d == c.size then closed_formula c.kind c.modulus c.size f else f

-- the formula of a tree in the request
abbrev pub formula_of : Request → Breakdown → Formula
formula_of c t = closed_at c (size_of t) (expansion (forward_of c) t)
