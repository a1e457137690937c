-- Trees with their roots, as contracts see them, and the tensor product of their transforms.
use Rattle.std.specs.Prelude.{ℕ, ◌*◌, ◌^◌, ◌<◌}
use Rattle.matrix_meaning.specs.declared.Kind.{Kind}
use Rattle.matrix_meaning.specs.Kind.{transform}
use Rattle.operators.specs.Operator.{Operator, on_blocks, on_columns}
use Rattle.tree_model.specs.Breakdown.{Breakdown, size_of, HasWordSizes}

-- a tree for each dimension, the last one fastest
pub data PlainTrees : Type 0 where
  single : (kind : Kind) (root : ℕ) (tree : Breakdown) → PlainTrees
  tensor : (kind : Kind) (root : ℕ) (tree : Breakdown) (others : PlainTrees) → PlainTrees

-- the product of the sizes
abbrev pub trees_size : PlainTrees → ℕ
trees_size (single kind root tree) = size_of tree
trees_size (tensor kind root tree others) = size_of tree * trees_size others

-- the transforms of the other dimensions on each row, and then that of the first on each column, modulo m
abbrev pub trees_on : ℕ → PlainTrees → Operator
trees_on m (single kind root tree) x = transform kind m (size_of tree) root x
trees_on m (tensor kind root tree others) x =
    on_columns (size_of tree) (trees_size others) (transform kind m (size_of tree) root)
    (on_blocks (size_of tree) (trees_size others) (trees_on m others) x)

-- the sizes of the trees' parts and of their products are words
abbrev pub AreWords : PlainTrees → Type 0
AreWords (single kind root tree) = HasWordSizes tree
AreWords (tensor kind root tree others) =
    HasWordSizes tree × AreWords others × (size_of tree * trees_size others < 2 ^ 64)
