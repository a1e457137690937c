-- The passes that a tree of one size becomes.
use Rattle.std.specs.Prelude.{ℕ, ◌+◌, ◌*◌, Bool, true, false, if◌then◌else◌, nat_le, List, [], ◌∷◌, ◌++◌, length}
use Rattle.matrix_meaning.specs.declared.Request.{Request}
use Rattle.tree_model.specs.declared.tree.Rule.{Rule}
use Rattle.tree_model.specs.declared.tree.Rule.TheVariants.{Gt, Ct, Split, Dim}
use Rattle.tree_model.specs.Breakdown.{Breakdown, leaf, node, size_of}
use Rattle.tree_model.specs.Cost.{is_kernel, mul_cost_of, cost_of}

-- a pass over all words: a node a number of times, or tiles; then the diagonal of a ct, or none
pub data Pass : Type 0 where
  nodes : (count : ℕ) → (tree : Breakdown) → (twiddled : Bool) → Pass
  tiles : (twiddled : Bool) → Pass

abbrev pub with_twiddles : Pass → Pass
with_twiddles (nodes count tree t) = nodes count tree true
with_twiddles (tiles t) = tiles true

-- the last pass with the diagonal after it
abbrev pub twiddle_last : List Pass → List Pass
twiddle_last [] = []
twiddle_last (p ∷ []) = with_twiddles p ∷ []
twiddle_last (p ∷ q ∷ ps) = p ∷ twiddle_last (q ∷ ps)

abbrev pub twiddle_by : Rule → List Pass → List Pass
twiddle_by Gt ps = ps
twiddle_by Ct ps = twiddle_last ps
twiddle_by Split ps = ps
twiddle_by Dim ps = ps

-- the passes of a number of copies of a node: one of a kernel or a leaf, else those of the right part and then of the
-- left one
abbrev pub passes_of : Request → ℕ → Breakdown → List Pass
passes_of c count (leaf d) = nodes count (leaf d) false ∷ []
passes_of c count (node rule a b) =
    if is_kernel c (size_of a * size_of b) then nodes count (node rule a b) false ∷ []
    else twiddle_by rule (passes_of c (count * size_of a) b) ++ passes_of c (count * size_of b) a

-- the operations of a pass over n words
abbrev pub pass_cost : Request → ℕ → Pass → ℕ
pass_cost c n (nodes count tree t) = count * cost_of c tree + (if t then mul_cost_of c * n else 0)
pass_cost c n (tiles t) = if t then mul_cost_of c * n else 0

abbrev pub passes_cost : Request → ℕ → List Pass → ℕ
passes_cost c n [] = 0
passes_cost c n (p ∷ ps) = pass_cost c n p + passes_cost c n ps

-- the passes of the root on several lanes, with passes over tiles
abbrev pub tiled_passes : Request → Breakdown → List Pass
tiled_passes c (leaf d) = passes_of c 1 (leaf d)
tiled_passes c (node Gt a b) = passes_of c 1 (node Gt a b)
tiled_passes c (node Ct a b) = passes_of c (size_of a) b ++ (tiles true ∷ passes_of c (size_of b) a)
tiled_passes c (node Split a b) = tiles false ∷ (passes_of c (size_of a) b ++ (tiles false ∷ passes_of c (size_of b) a))
tiled_passes c (node Dim a b) = tiles false ∷ (passes_of c (size_of a) b ++ (tiles false ∷ passes_of c (size_of b) a))

-- the passes of the whole tree
abbrev pub whole_passes : Request → Breakdown → List Pass
whole_passes c t = if nat_le c.lanes 1 then passes_of c 1 t else tiled_passes c t

-- the words that a pass loads: a leaf that is a loop reads them once for each of its outputs
abbrev pub node_loads : Request → ℕ → Breakdown → ℕ
node_loads c n (leaf d) = if nat_le d c.unroll then n else n * d
node_loads c n (node rule a b) = n

abbrev pub pass_loads : Request → ℕ → Pass → ℕ
pass_loads c n (nodes count tree t) = node_loads c n tree
pass_loads c n (tiles t) = n

abbrev pub loads_in : Request → List Pass → ℕ
loads_in c [] = 0
loads_in c (p ∷ ps) = pass_loads c c.size p + loads_in c ps

abbrev pub loads_of : Request → Breakdown → ℕ
loads_of c t = loads_in c (whole_passes c t)

-- each pass stores every word once
abbrev pub stores_of : Request → Breakdown → ℕ
stores_of c t = c.size * length (whole_passes c t)
