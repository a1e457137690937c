-- Loops as code has them: counts, and the places of their items as sums of their variables. A pass is a list of them,
-- and a pass leaves what all of them store together.
use Rattle.std.specs.Prelude.{ℕ, ◌+◌, ◌-◌, ◌*◌, ◌/◌, ◌%◌, List, [], ◌∷◌, ◌++◌, map, length, slice_index, slice_index_or}
use Rattle.std.specs.Prelude.{Option, Some, None}
use Rattle.index_fn.specs.Mapping.{Mapping, Same, Always, Paired, at}
use Rattle.matrix_meaning.specs.Laws.{twiddle}
use Rattle.operators.specs.Operator.{Operator}
use Rattle.operators.specs.Sum.{list_below}
use Rattle.perm_algebra.specs.Affine.{Sum, constant, value}
use Rattle.sigma_spl.specs.Copies.{Copies, pass_on}
use Rattle.sigma_spl.specs.Work.{PlainWork, rows, horner, tile, work_size, work_on}
use Rattle.operators.specs.declared.paths.Tensor.TheVariants.{Blocks, Columns}
use Rattle.operators.specs.Paths.Tensors.{Path, size_under}

-- which item of its copy stands at a place, for copies of size n
abbrev pub inner_of : Path → ℕ → Mapping
inner_of [] n = Same
inner_of (Blocks c ∷ path) n = Paired (Always 0) 0 (inner_of path n) (size_under path n)
inner_of (Columns c ∷ path) n = Paired (inner_of path n) 1 (Always 0) c

-- the factors of a diagonal: these values, the twiddles of a ct of size rows * cols by this root, one value a number of
-- times, or those of a diagonal under tensors
pub data PlainFactors : Type 0 where
  values : (entries : List ℕ) → PlainFactors
  twiddles : (rows cols root : ℕ) → PlainFactors
  repeated : (value count : ℕ) → PlainFactors
  spread : (path : Path) (factors : PlainFactors) → PlainFactors

abbrev pub factor_count : PlainFactors → ℕ
factor_count (values entries) = length entries
factor_count (twiddles r s root) = r * s
factor_count (repeated v n) = n
factor_count (spread path factors) = size_under path (factor_count factors)

abbrev pub factor_at : ℕ → PlainFactors → ℕ → ℕ
factor_at m (values entries) i = slice_index entries i
factor_at m (twiddles r s root) i = twiddle m s root i
factor_at m (repeated v n) i = v
factor_at m (spread path factors) i = factor_at m factors (at (inner_of path (factor_count factors)) i)

-- the place in the diagonal of each item that is stored
pub record PlainMultiplier : Type 0 where
  pub factors : PlainFactors
  pub places : List Sum

-- Straight work has a sum for each register. Work by rows has one for all: it
-- stores by the variable after those of the loops, and loads by the next one
pub record PlainNest : Type 0 where
  pub counts : List ℕ
  pub work : PlainWork
  pub gathers : List Sum
  pub multiplier : Option PlainMultiplier
  pub scatters : List Sum

-- the value of the sum number i
abbrev pub sum_value : List Sum → ℕ → List ℕ → ℕ
sum_value sums i vs = value (slice_index_or sums i (constant 0)) (slice_index vs)

-- where the item k of a copy comes from: Horner's rule takes the last item first
abbrev pub load_place : PlainWork → List Sum → List ℕ → ℕ → ℕ
load_place (rows root size) sums vs k = sum_value sums 0 (vs ++ 0 ∷ k ∷ [])
load_place (horner root size) sums vs k = sum_value sums 0 (vs ++ 0 ∷ (size - 1 - k) ∷ [])
load_place (tile lanes) sums vs k = sum_value sums (k / lanes) vs + k % lanes
load_place work sums vs k = sum_value sums k vs

-- and where it goes, or its factor is
abbrev pub store_place : PlainWork → List Sum → List ℕ → ℕ → ℕ
store_place (rows root size) sums vs k = sum_value sums 0 (vs ++ k ∷ [])
store_place (horner root size) sums vs k = sum_value sums 0 (vs ++ k ∷ [])
store_place (tile lanes) sums vs k = sum_value sums (k / lanes) vs + k % lanes
store_place work sums vs k = sum_value sums k vs

-- a copy's work, and the diagonal after it
abbrev pub multiplied_on : ℕ → PlainNest → Option PlainMultiplier → List ℕ → Operator
multiplied_on m z None vs y = work_on m z.work y
multiplied_on m z (Some d) vs y =
    list_below (work_size z.work)
    (λ k. (factor_at m d.factors (store_place z.work d.places vs k) * slice_index (work_on m z.work y) k) % m)

abbrev pub copies_of : ℕ → PlainNest → Copies
copies_of m z = record {
  counts = z.counts;
  size = work_size z.work;
  from = load_place z.work z.gathers;
  does = multiplied_on m z z.multiplier;
  to = store_place z.work z.scatters;
}

-- what a pass makes of a list of n items, and what several make of it, the latest first
abbrev pub nests_on : ℕ → ℕ → List PlainNest → Operator
nests_on m n zs x = pass_on m n (map (copies_of m) zs) x

abbrev pub passes_on : ℕ → ℕ → List (List PlainNest) → Operator
passes_on m n [] x = x
passes_on m n (p ∷ ps) x = nests_on m n p (passes_on m n ps x)
