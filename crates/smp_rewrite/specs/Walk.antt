-- The steps of a tree by a walk over its formula: tensor products go to its parts, and other matrices are steps.
use Rattle.std.specs.Prelude.{ℕ, ◌*◌, ◌/◌, Bool, true, if◌then◌else◌, List, [], ◌∷◌, ◌++◌, Option, Some, None}
use Rattle.matrix_meaning.specs.declared.Request.{Request}
use Rattle.smp_rewrite.specs.Layout.Tree.{node_work}
use Rattle.smp_rewrite.specs.Layout.Step.{PlainStep, step, piece, turns, twiddles, thomas_in, thomas_out}
use Rattle.spl_ast.specs.Formula.{Formula, Identity, Fourier, Hadamard, Twiddles, Diagonal, Stride, Permutation}
use Rattle.spl_ast.specs.Formula.{GoodThomasIn, GoodThomasOut, Product, TensorLeft, TensorRight, DirectSum, Pending}
use Rattle.operators.specs.declared.paths.Tensor.TheVariants.{Blocks, Columns}
use Rattle.operators.specs.Paths.Tensors.{Path}
use Rattle.tree_model.specs.Breakdown.{Breakdown, leaf, node, size_of}
use Rattle.tree_model.specs.Cost.{is_kernel}
use Rattle.tree_model.specs.Whole.{left_of, right_of}

-- a leaf is one piece, and so is a kernel
abbrev pub is_piece : Request → Breakdown → Bool
is_piece p (leaf d) = true
is_piece p (node rule a b) = is_kernel p (size_of a * size_of b)

-- the parts of a node; a leaf has none
abbrev pub left_part : Breakdown → Breakdown
left_part (leaf d) = leaf d
left_part (node rule a b) = a

abbrev pub right_part : Breakdown → Breakdown
right_part (leaf d) = leaf d
right_part (node rule a b) = b

-- the requests that they are of
abbrev pub left_request : Request → Breakdown → Request
left_request p (leaf d) = p
left_request p (node rule a b) = left_of rule p

abbrev pub right_request : Request → Breakdown → Request
right_request p (leaf d) = p
right_request p (node rule a b) = right_of rule p

-- a piece is one step, and another tree has these
abbrev pub piece_or : Request → Path → Breakdown → List PlainStep → List PlainStep
piece_or p path t steps = if is_piece p t then step path (piece (node_work p t)) ∷ [] else steps

-- the steps of a node's formula under the tensors of the path; that of a tree has no others
abbrev pub node_steps : Request → Path → Breakdown → Formula → List PlainStep
node_steps p path t (Product a b) = node_steps p path t b ++ node_steps p path t a
node_steps p path t (TensorLeft a k) =
    piece_or (left_request p t) (path ++ Columns k ∷ []) (left_part t)
    (node_steps (left_request p t) (path ++ Columns k ∷ []) (left_part t) a)
node_steps p path t (TensorRight k a) =
    piece_or (right_request p t) (path ++ Blocks k ∷ []) (right_part t)
    (node_steps (right_request p t) (path ++ Blocks k ∷ []) (right_part t) a)
node_steps p path t (Stride n r) = step path (turns r (n / r)) ∷ []
node_steps p path t (Twiddles n s w) = step path (twiddles (n / s) s w) ∷ []
node_steps p path t (GoodThomasIn r s) = step path (thomas_in r s) ∷ []
node_steps p path t (GoodThomasOut r s) = step path (thomas_out r s) ∷ []
node_steps p path t (Identity n) = []
node_steps p path t (Fourier n w) = []
node_steps p path t (Hadamard n) = []
node_steps p path t (Diagonal c) = []
node_steps p path t (Permutation k) = []
node_steps p path t (DirectSum a b) = []
node_steps p path t (Pending a) = []

-- the steps of a tree's formula
abbrev pub tree_steps : Request → Path → Breakdown → Formula → List PlainStep
tree_steps p path t f = piece_or p path t (node_steps p path t f)

-- ---- the factor at the end

abbrev pub one_in : List ℕ → Option ℕ
one_in [] = None
one_in (v ∷ []) = Some v
one_in (v ∷ w ∷ vs) = None

abbrev pub value_in : Formula → Option ℕ
value_in (Diagonal c) = one_in c
value_in f = None

-- what `I_n tensor diag(v)` multiplies each word by
abbrev pub factor_in : Formula → Option ℕ
factor_in (TensorRight n f) = value_in f
factor_in f = None

-- the factor after a formula
abbrev pub closing_in : Formula → Option ℕ
closing_in (Product a b) = factor_in a
closing_in f = None

abbrev pub before : Option ℕ → Formula → Formula → Formula
before None f b = f
before (Some v) f b = b

-- the formula before it
abbrev pub body_of : Formula → Formula
body_of (Product a b) = before (factor_in a) (Product a b) b
body_of f = f
