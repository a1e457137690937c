-- The passes that the tree of a request becomes, of one size or of several dimensions.
use Rattle.std.specs.Prelude.{ℕ, ◌+◌, ◌*◌, false, if◌then◌else◌, nat_le, List, [], ◌∷◌, ◌++◌, length, map, sum_by}
use Rattle.matrix_meaning.specs.declared.Kind.{Kind}
use Rattle.matrix_meaning.specs.declared.Kind.TheVariants.{Dft, Wht, Idft}
use Rattle.matrix_meaning.specs.declared.Request.{Request}
use Rattle.matrix_meaning.specs.Parts.{first_of, forward_of, rest_of}
use Rattle.tree_model.specs.declared.tree.Rule.TheVariants.{Gt, Ct, Split, Dim}
use Rattle.tree_model.specs.Breakdown.{Breakdown, leaf, node, size_of}
use Rattle.tree_model.specs.Cost.{is_plain, mul_cost_of}
use Rattle.tree_model.specs.Passes.{Pass, nodes, tiles, pass_loads, passes_of, twiddle_last, whole_passes}
use Rattle.tree_model.specs.Whole.{cost_in}

-- a pass, and the request that its nodes are of
pub data RequestPass : Type 0 where
  pass_of : (of : Request) → (pass : Pass) → RequestPass

abbrev pub pass_cost_in : Request → ℕ → Pass → ℕ
pass_cost_in p n (nodes count tree t) = count * cost_in p tree + (if t then mul_cost_of p * n else 0)
pass_cost_in p n (tiles t) = if t then mul_cost_of p * n else 0

-- its operations over n words
abbrev pub cost_of_pass : ℕ → RequestPass → ℕ
cost_of_pass n (pass_of p pass) = pass_cost_in p n pass

-- the words that it loads
abbrev pub loads_of_pass : ℕ → RequestPass → ℕ
loads_of_pass n (pass_of p pass) = pass_loads p n pass

-- the passes of a number of copies of a tree of one size
abbrev pub node_passes : Request → ℕ → Breakdown → List RequestPass
node_passes p count t = map (pass_of p) (passes_of p count t)

-- Those of any tree, on one processor and one lane. Several dimensions together are one pass of straight-line code where they
-- have no more words than the request unrolls, else the passes of the others on each row, and then those of the first on each column
abbrev pub passes_in : Request → ℕ → Breakdown → List RequestPass
passes_in p count (leaf d) = node_passes p count (leaf d)
passes_in p count (node Gt a b) = node_passes p count (node Gt a b)
passes_in p count (node Ct a b) = node_passes p count (node Ct a b)
passes_in p count (node Split a b) = node_passes p count (node Split a b)
passes_in p count (node Dim a b) =
    if nat_le (size_of a * size_of b) p.unroll then pass_of p (nodes count (node Dim a b) false) ∷ []
    else passes_in (rest_of p) (count * size_of a) b ++ node_passes (first_of p) (count * size_of b) a

-- those of a dim that processors and lanes share; on several lanes the rows stand between passes over tiles
abbrev pub shared_passes : Request → Breakdown → Breakdown → List RequestPass
shared_passes c a b =
    let rows = passes_in (rest_of c) (size_of a) b in
    let columns = node_passes (first_of c) (size_of b) a in
    if nat_le c.lanes 1 then rows ++ columns
    else pass_of c (tiles false) ∷ (rows ++ (pass_of c (tiles false) ∷ columns))

-- the last pass of an inverse has its products as a diagonal
abbrev pub closed_by : Kind → List Pass → List Pass
closed_by Dft ps = ps
closed_by Wht ps = ps
closed_by Idft ps = twiddle_last ps

-- those of one size
abbrev pub flat_passes : Request → Breakdown → List RequestPass
flat_passes c t = map (pass_of (forward_of c)) (closed_by c.kind (whole_passes (forward_of c) t))

-- the passes of the whole tree
abbrev pub request_passes : Request → Breakdown → List RequestPass
request_passes c (leaf d) = flat_passes c (leaf d)
request_passes c (node Gt a b) = flat_passes c (node Gt a b)
request_passes c (node Ct a b) = flat_passes c (node Ct a b)
request_passes c (node Split a b) = flat_passes c (node Split a b)
request_passes c (node Dim a b) = if is_plain c then passes_in c 1 (node Dim a b) else shared_passes c a b

-- the words that all passes load
abbrev pub whole_loads : Request → Breakdown → ℕ
whole_loads c t = sum_by (loads_of_pass c.size) (request_passes c t)

-- and store: each stores every word once
abbrev pub whole_stores : Request → Breakdown → ℕ
whole_stores c t = c.size * length (request_passes c t)
