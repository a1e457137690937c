-- The laws of the tensor product of transforms: how many items it has, and that it looks at residues and leaves residues.
use Rattle.std.proofs.Common.{◌≡◌, ℕ, ◌+◌, ◌*◌, ◌/◌, ◌%◌, ◌<◌, sym, ap, ◌∙◌, List, mod-lt, div-lt_iff_lt-mul}
use Rattle.std.specs.Prelude.{slice_index}
use Rattle.std.proofs.lemmas.Nat.{mul-mod_second}
use Rattle.matrix_meaning.specs.declared.Kind.{Kind}
use Rattle.matrix_meaning.specs.Kind.{entry_of, transform}
use Rattle.operators.specs.Operator.{column, block, on_blocks, on_columns}
use Rattle.operators.proofs.Lists.{at-list_below, list_below-same, place_below, factor_positive}
use Rattle.operators.proofs.Lists.{by_rows, at-on_columns}
use Rattle.operators.proofs.Matrices.{at-matrix_times}
use Rattle.operators.proofs.Sums.{same-sum_below}
use Rattle.tree_model.specs.Breakdown.{size_of}
use Rattle.tree_model.specs.Trees.{PlainTrees, single, tensor, trees_size, trees_on}

transform-below : (kind : Kind) (m n root : ℕ) (x : List ℕ) (k : ℕ) → 0 < m → k < n →
    slice_index (transform kind m n root x) k < m
transform-below kind m n root x k modulus below = rw (at-matrix_times m n (entry_of kind m n root) x k below) (mod-lt _ modulus)

pub trees-below : (m : ℕ) (trees : PlainTrees) (x : List ℕ) (k : ℕ) → 0 < m → k < trees_size trees →
    slice_index (trees_on m trees x) k < m
trees-below m (single kind root tree) x k modulus below = transform-below kind m (size_of tree) root x k modulus below
trees-below m (tensor kind root tree others) x k modulus below =
    let r = size_of tree in
    let s = trees_size others in
    let inner = on_blocks r s (trees_on m others) x in
    by_rows r s (λ p. slice_index (on_columns r s (transform kind m r root) inner) p < m)
    (λ a b row within.
    rw (at-on_columns r s (transform kind m r root) inner a b row within)
    (transform-below kind m r root (column r s b inner) a modulus row))
    k below
