-- What a loop does to each of its copies.
use Rattle.std.specs.Prelude.{ℕ, ◌*◌, ◌^◌, ◌<◌, Bool, true, false, slice_index}
use Rattle.matrix_meaning.specs.declared.Kind.{Kind}
use Rattle.matrix_meaning.specs.declared.Kind.TheVariants.{Dft}
use Rattle.matrix_meaning.specs.declared.Request.{Request}
use Rattle.matrix_meaning.specs.Kind.{transform}
use Rattle.operators.specs.Identities.{turn}
use Rattle.operators.specs.Operator.{Operator}
use Rattle.operators.specs.Sum.{list_below}
use Rattle.tree_model.specs.Breakdown.{Breakdown, leaf}
use Rattle.tree_model.specs.Trees.{PlainTrees, single, trees_size, trees_on, AreWords}
use Rattle.tree_model.specs.Whole.{rooted_of}

-- trees in straight-line code: that of a node of a request, or a short leaf by any root
pub data PlainKernel : Type 0 where
  node_of : (p : Request) (t : Breakdown) → PlainKernel
  short : (kind : Kind) (root size : ℕ) → PlainKernel

-- with their roots, one for each dimension
abbrev pub trees_of : PlainKernel → PlainTrees
trees_of (node_of p t) = rooted_of p t
trees_of (short kind root size) = single kind root (leaf size)

pub data PlainWork : Type 0 where
  -- the tensor product of the trees' transforms, in straight-line code
  kernel : (k : PlainKernel) → PlainWork
  -- a longer leaf by its rows: the sum of the items' products with powers of a root of this size
  rows : (root size : ℕ) → PlainWork
  -- the same transform for any root, each row by Horner's rule
  horner : (root size : ℕ) → PlainWork
  -- the stride permutation L(lanes * lanes, lanes), in registers
  tile : (lanes : ℕ) → PlainWork
  -- the items as they are
  copy : (size : ℕ) → PlainWork

abbrev pub work_size : PlainWork → ℕ
work_size (kernel k) = trees_size (trees_of k)
work_size (rows root size) = size
work_size (horner root size) = size
work_size (tile lanes) = lanes * lanes
work_size (copy size) = size

-- what it makes of the items of a copy, modulo m
abbrev pub work_on : ℕ → PlainWork → Operator
work_on m (kernel k) x = trees_on m (trees_of k) x
work_on m (rows root size) x = transform Dft m size root x
work_on m (horner root size) x = transform Dft m size root x
work_on m (tile lanes) x = turn lanes lanes x
work_on m (copy size) x = list_below size (slice_index x)

-- whether the code of a copy names its items one by one; the others
-- have a loop over their rows, and in it one over their items
abbrev pub is_straight : PlainWork → Bool
is_straight (rows root size) = false
is_straight (horner root size) = false
is_straight work = true

-- how many registers the items of a copy of straight work fill: a tile has its items themselves on the lanes
abbrev pub vectors_of : PlainWork → ℕ
vectors_of (tile lanes) = lanes
vectors_of work = work_size work

-- the numbers of a copy are words
abbrev pub HasWords : PlainWork → Type 0
HasWords (kernel k) = AreWords (trees_of k)
HasWords (tile lanes) = lanes * lanes < 2 ^ 64
HasWords work = Unit {0}
