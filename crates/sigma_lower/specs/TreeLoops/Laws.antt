-- What the passes of a layout count.
use Rattle.std.specs.Prelude.{◌≡◌, ℕ, ◌+◌, ◌*◌, nat_le, List, [], ◌∷◌, ◌++◌, if◌then◌else◌, Option, Some, None, Bool}
use Rattle.std.specs.Prelude.{true, false}
use Rattle.sigma_lower.specs.TreeLoops.Merge.{PlainDiagonal, PlainPass}
use Rattle.matrix_meaning.specs.Valid.{IsValid}
use Rattle.matrix_meaning.specs.declared.Request.{Request}
use Rattle.sigma_spl.specs.Work.{PlainWork, kernel, rows, horner, tile, copy}
use Rattle.smp_rewrite.specs.Layout.Tree.{Layout, work, by, layout_size}
use Rattle.sigma_spl.specs.Shared.Costs.{work_cost}
use Rattle.operators.specs.Paths.Tensors.{copies_of}
use Rattle.tree_model.specs.Admissible.{RootFits}
use Rattle.tree_model.specs.Breakdown.{Breakdown, size_of}
use Rattle.tree_model.specs.Cost.{is_plain}
use Rattle.tree_model.specs.Whole.{IsTreeOf}
use Rattle.tree_model.specs.WholePasses.{RequestPass, cost_of_pass, loads_of_pass}
use Rattle.tree_model.specs.declared.tree.Rule.{Rule}
use Rattle.tree_model.specs.declared.tree.Rule.TheVariants.{Gt, Ct, Split, Dim}

abbrev pub has_diagonal : Option PlainDiagonal → Bool
has_diagonal None = false
has_diagonal (Some d) = true

-- ---- the passes of a layout, by what they count

-- a pass over all words: a work a number of times, or tiles; then the diagonal of a ct, or none
pub data Counted : Type 0 where
  works : (copies : ℕ) (does : PlainWork) (twiddled : Bool) → Counted
  tiles : (twiddled : Bool) → Counted

abbrev pub with_twiddles : Counted → Counted
with_twiddles (works n w b) = works n w true
with_twiddles (tiles b) = tiles true

-- the last pass with the diagonal after it
abbrev pub twiddle_last : List Counted → List Counted
twiddle_last [] = []
twiddle_last (p ∷ []) = with_twiddles p ∷ []
twiddle_last (p ∷ q ∷ ps) = p ∷ twiddle_last (q ∷ ps)

abbrev pub twiddle_by : Rule → List Counted → List Counted
twiddle_by Gt ps = ps
twiddle_by Ct ps = twiddle_last ps
twiddle_by Split ps = ps
twiddle_by Dim ps = ps

-- the passes of a number of copies of a layout: one of a work, else those of the right part and then of the left one
abbrev pub passes_of : ℕ → Layout → List Counted
passes_of n (work w) = works n w false ∷ []
passes_of n (by rule root a b) = twiddle_by rule (passes_of (n * layout_size a) b) ++ passes_of (n * layout_size b) a

-- those of the root on several lanes, with passes over tiles
abbrev pub tiled_passes : Layout → List Counted
tiled_passes (work w) = passes_of 1 (work w)
tiled_passes (by Gt root a b) = passes_of 1 (by Gt root a b)
tiled_passes (by Ct root a b) = passes_of (layout_size a) b ++ (tiles true ∷ passes_of (layout_size b) a)
tiled_passes (by Split root a b) =
    tiles false ∷ (passes_of (layout_size a) b ++ (tiles false ∷ passes_of (layout_size b) a))
tiled_passes (by Dim root a b) =
    tiles false ∷ (passes_of (layout_size a) b ++ (tiles false ∷ passes_of (layout_size b) a))

-- those of the whole layout
abbrev pub whole_passes : ℕ → Layout → List Counted
whole_passes lanes l = if nat_le lanes 1 then passes_of 1 l else tiled_passes l

-- ---- what merging makes

abbrev pub counted_as : ℕ → PlainWork → Bool → Counted
counted_as n (kernel ts) b = works n (kernel ts) b
counted_as n (rows root size) b = works n (rows root size) b
counted_as n (horner root size) b = works n (horner root size) b
counted_as n (tile v) b = tiles b
counted_as n (copy size) b = works n (copy size) b

abbrev pub counted : PlainPass → Counted
counted p = counted_as (copies_of p.path) p.work (has_diagonal p.diagonal)

-- ---- as the cost model counts them

-- the operations of a pass over n words, modulo m, where a product counts as `weight`
abbrev pub counted_cost : ℕ → ℕ → ℕ → Counted → ℕ
counted_cost weight m n (works k w b) = k * work_cost weight m w + (if b then weight * n else 0)
counted_cost weight m n (tiles b) = if b then weight * n else 0

-- the words that a work loads where all its copies have n items:
-- a loop over rows reads them once for each of its outputs
abbrev pub loads_by : ℕ → PlainWork → ℕ
loads_by n (kernel ts) = n
loads_by n (rows root size) = n * size
loads_by n (horner root size) = n * size
loads_by n (tile v) = n
loads_by n (copy size) = n

abbrev pub counted_loads : ℕ → Counted → ℕ
counted_loads n (works k w b) = loads_by n w
counted_loads n (tiles b) = n

-- a pass has the operations and the loads of one of the cost model
pub record CountsAs (p : Request) (of : Counted) (pass : RequestPass) : Type 0 where
  pub operations : counted_cost p.weight p.modulus p.size of ≡ cost_of_pass p.size pass
  pub loads : counted_loads p.size of ≡ loads_of_pass p.size pass

-- one by one
abbrev pub AllCount : Request → List Counted → List RequestPass → Type 0
AllCount p [] [] = Unit {0}
AllCount p [] (q ∷ qs) = ⊥
AllCount p (z ∷ zs) [] = ⊥
AllCount p (z ∷ zs) (q ∷ qs) = CountsAs p z q × AllCount p zs qs

-- a tree for the whole of a valid request that is no inverse
pub record IsForwardTree (p : Request) (t : Breakdown) : Type 0 where
  pub valid : IsValid p
  pub tree : IsTreeOf p t
  pub size : size_of t ≡ p.size
  pub root : is_plain p ≡ false → RootFits p t
