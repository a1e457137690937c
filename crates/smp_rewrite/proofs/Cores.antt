-- The matrix of a step gives as many items as it reads.
use Rattle.std.proofs.Common.{◌≡◌, ℕ, ◌*◌, ◌%◌, ◌<◌, refl, ap, List}
use Rattle.std.specs.Prelude.{slice_index}
use Rattle.matrix_meaning.specs.declared.Kind.{Kind}
use Rattle.matrix_meaning.specs.declared.Kind.TheVariants.{Dft}
use Rattle.matrix_meaning.specs.Kind.{transform, entry_of}
use Rattle.operators.specs.Identities.{HasSize}
use Rattle.operators.specs.Operator.{Operator, gather, on_columns, scale, stride, good_thomas_in, good_thomas_out}
use Rattle.operators.proofs.Lists.{at-list_below, list_below-same, length-list_below}
use Rattle.operators.proofs.Places.{stride_below}
use Rattle.operators.proofs.Sums.{sum_below-same}
use Rattle.sigma_spl.specs.Work.{PlainWork, kernel, rows, horner, tile, copy, trees_of, work_size, work_on}
use Rattle.tree_model.specs.Trees.{PlainTrees, single, tensor, trees_size, trees_on}
use Rattle.smp_rewrite.specs.Layout.Meaning.{core_size, core_on}
use Rattle.smp_rewrite.specs.Layout.Step.{PlainCore, piece, turns, twiddles, thomas_in, thomas_out}
use Rattle.smp_rewrite.specs.Laws.{IsPermutation}
use Rattle.smp_rewrite.proofs.Tensors.{reads-one_under}
use Rattle.operators.specs.Paths.Tensors.{Reads}
use Rattle.operators.specs.declared.paths.Tensor.TheVariants.{Blocks}
use Rattle.tree_model.specs.Breakdown.{size_of}
use Rattle.kernel_gen.proofs.Trees.{good_thomas_out_below, good_thomas_in_below}
use Rattle.sigma_spl.proofs.PlainLemmas.Copies.{gather_reads}

reads-transform : (kind : Kind) (m n w : ℕ) → Reads n (transform kind m n w)
reads-transform kind m n w x =
    list_below-same n _ _ (λ k row. ap (λ y. y % m) (sum_below-same n _ _ (λ l below. ap (λ y. entry_of kind m n w k l * y) (at-list_below n (slice_index x) l below))))

reads-scale : (m n : ℕ) (c : ℕ → ℕ) → Reads n (scale m n c)
reads-scale m n c x = list_below-same n _ _ (λ i below. ap (λ y. (c i * y) % m) (at-list_below n (slice_index x) i below))

trees-read : (m : ℕ) (trees : PlainTrees) → Reads (trees_size trees) (trees_on m trees)
trees-read m (single kind root tree) x = reads-transform kind m (size_of tree) root x
trees-read m (tensor kind root tree others) x =
    ap (on_columns (size_of tree) (trees_size others) (transform kind m (size_of tree) root)) (reads-one_under (Blocks (size_of tree)) (trees_size others) (trees_on m others) x)

work-reads : (m : ℕ) (w : PlainWork) → Reads (work_size w) (work_on m w)
work-reads m (kernel k) x = trees-read m (trees_of k) x
work-reads m (rows root size) x = reads-transform Dft m size root x
work-reads m (horner root size) x = reads-transform Dft m size root x
work-reads m (tile lanes) x = gather_reads (lanes * lanes) _ (λ i below. (stride_below lanes lanes i below).1) x
work-reads m (copy size) x = list_below-same size _ _ (λ i below. at-list_below size (slice_index x) i below)

trees-give : (m : ℕ) (trees : PlainTrees) → HasSize (trees_size trees) (trees_on m trees)
trees-give m (single kind root tree) x = length-list_below _ _
trees-give m (tensor kind root tree others) x = length-list_below _ _

work-gives : (m : ℕ) (w : PlainWork) → HasSize (work_size w) (work_on m w)
work-gives m (kernel k) x = trees-give m (trees_of k) x
work-gives m (rows root size) x = length-list_below _ _
work-gives m (horner root size) x = length-list_below _ _
work-gives m (tile lanes) x = length-list_below _ _
work-gives m (copy size) x = length-list_below _ _

pub core-reads : (m : ℕ) (k : PlainCore) → Reads (core_size k) (core_on m k)
core-reads m (piece w) = work-reads m w
core-reads m (turns r s) = gather_reads (r * s) _ (λ i below. (stride_below r s i below).1)
core-reads m (twiddles r s w) = reads-scale m (r * s) _
core-reads m (thomas_in r s) = gather_reads (r * s) _ (good_thomas_in_below r s)
core-reads m (thomas_out r s) = gather_reads (r * s) _ (good_thomas_out_below r s)

-- a matrix that takes the item for each of n places from one of them
pub record IsGather (n : ℕ) (a : Operator) : Type 0 where
  pub from : ℕ → ℕ
  pub below : (i : ℕ) → i < n → from i < n
  pub gathers : (x : List ℕ) → a x ≡ gather n from x

pub core-gathers : (m : ℕ) (k : PlainCore) → IsPermutation k → IsGather (core_size k) (core_on m k)
core-gathers m (piece w) h = absurd h
core-gathers m (turns r s) h = record { from = stride r s; below = λ i below. (stride_below r s i below).1; gathers = λ x. refl }
core-gathers m (twiddles r s w) h = absurd h
core-gathers m (thomas_in r s) h = record { from = good_thomas_in r s; below = good_thomas_in_below r s; gathers = λ x. refl }
core-gathers m (thomas_out r s) h = record { from = good_thomas_out r s; below = good_thomas_out_below r s; gathers = λ x. refl }

pub core-gives : (m : ℕ) (k : PlainCore) → HasSize (core_size k) (core_on m k)
core-gives m (piece w) x = work-gives m w x
core-gives m (turns r s) x = length-list_below _ _
core-gives m (twiddles r s w) x = length-list_below _ _
core-gives m (thomas_in r s) x = length-list_below _ _
core-gives m (thomas_out r s) x = length-list_below _ _
