-- What a term does to one copy under the tensors of its path.
use Rattle.std.specs.Prelude.{ℕ, suc, ◌+◌, ◌*◌, ◌%◌, ◌==◌, if◌then◌else◌, List, [], length, slice_index}
use Rattle.index_fn.specs.Mapping.{at}
use Rattle.operators.specs.Operator.{Operator, gather, on_blocks, on_columns}
use Rattle.operators.specs.Sum.{sum_below, list_below}
use Rattle.sigma_spl.specs.Copies.{both}
use Rattle.sigma_spl.specs.Nest.{PlainFactors, factor_at, factor_count, inner_of}
use Rattle.sigma_spl.specs.Term.{PlainTerm, nest, move, product, beside, term_on}
use Rattle.sigma_spl.specs.Work.{work_size, work_on}
use Rattle.sigma_spl.specs.declared.plain.works.Alone.{Alone}
use Rattle.tree_model.specs.Breakdown.{Breakdown, leaf, node}
use Rattle.tree_model.specs.Trees.{PlainTrees, single, trees_on, trees_size}
use Rattle.operators.specs.Paths.Tensors.{Path, size_under, under}

-- how many items a copy has
abbrev pub copy_size : PlainTerm → ℕ
copy_size (nest path w) = work_size w
copy_size (move path ks) = length ks
copy_size (beside path k a l b) = k + l
copy_size t = 0

-- what it becomes, modulo m
abbrev pub copy_on : ℕ → PlainTerm → Operator
copy_on m (nest path w) x = work_on m w x
copy_on m (move path ks) x = gather (length ks) (slice_index ks) x
copy_on m (beside path k a l b) x = both k l (term_on m k a) (term_on m l b) x
copy_on m t x = []

-- modulo m, the first d items i of x at the places f i of a list of n, and 0 elsewhere
abbrev pub scatter_mod : ℕ → ℕ → ℕ → (ℕ → ℕ) → Operator
scatter_mod m n d f x = list_below n (λ p. sum_below d (λ i. if f i == p then slice_index x i else 0) % m)

-- ---- under tensors

-- the copies under the tensors of a path
abbrev pub part_size : Path → PlainTerm → ℕ
part_size path t = size_under path (copy_size t)

abbrev pub part_on : ℕ → Path → PlainTerm → Operator
part_on m path t = under path (copy_size t) (copy_on m t)

-- the same in each of a number of rows, and in each of a number of columns
abbrev pub rows_on : ℕ → ℕ → Path → PlainTerm → Operator
rows_on m count path t = on_blocks count (part_size path t) (part_on m path t)

abbrev pub cols_on : ℕ → ℕ → Path → PlainTerm → Operator
cols_on m count path t = on_columns (part_size path t) count (part_on m path t)

-- a transform of one size by its root
abbrev pub alone : Alone → PlainTrees
alone t = single t.kind t.root (leaf t.size)

abbrev pub trees_rows : ℕ → ℕ → PlainTrees → Operator
trees_rows m count trees = on_blocks count (trees_size trees) (trees_on m trees)

abbrev pub trees_columns : ℕ → ℕ → PlainTrees → Operator
trees_columns m count trees = on_columns (trees_size trees) count (trees_on m trees)

-- a diagonal of n items: the item at the place w, and all of them
abbrev pub scaled_at : ℕ → Path → PlainFactors → List ℕ → ℕ → ℕ
scaled_at m path factors x w = (factor_at m factors (at (inner_of path (factor_count factors)) w) * slice_index x w) % m

abbrev pub scaled : ℕ → ℕ → Path → PlainFactors → Operator
scaled m n path factors x = list_below n (scaled_at m path factors x)

-- ---- measures

-- a term's parts, and the tensors around them
abbrev pub weight : PlainTerm → ℕ
weight (nest path w) = 3 * length path + 3
weight (move path ks) = 3 * length path + 3
weight (product a b) = weight a + weight b + 1
weight (beside path k a l b) = 3 * length path + (weight a + weight b) + 3
weight t = 0

-- the parts of one copy
abbrev pub copy_weight : PlainTerm → ℕ
copy_weight (beside path k a l b) = weight a + weight b
copy_weight t = 0

-- how often the right parts are taken apart
abbrev pub parts_in : Breakdown → ℕ
parts_in (leaf d) = 0
parts_in (node rule a b) = suc (parts_in b)
