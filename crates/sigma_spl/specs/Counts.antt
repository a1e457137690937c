-- How many operations passes and terms have, where each work has a cost, and a product counts as several.
use Rattle.std.specs.Prelude.{◌≡◌, ℕ, ◌+◌, ◌*◌, ◌<◌, List, [], ◌∷◌, Option, Some, None}
use Rattle.sigma_spl.specs.Good.{IsGoodTerm}
use Rattle.sigma_spl.specs.Merge.{Room, passes_within}
use Rattle.sigma_spl.specs.Nest.{PlainMultiplier, PlainNest}
use Rattle.sigma_spl.specs.Term.{PlainTerm, same, gath, scat, diag, nest, move, product, beside}
use Rattle.sigma_spl.specs.Work.{PlainWork, copy, work_size}
use Rattle.operators.specs.Paths.Tensors.{copies_of}

-- how many copies a nest has
abbrev pub copies_in : List ℕ → ℕ
copies_in [] = 1
copies_in (c ∷ counts) = c * copies_in counts

-- a diagonal multiplies each item
abbrev pub multiplier_cost : ℕ → Option PlainMultiplier → PlainWork → ℕ
multiplier_cost weight None w = 0
multiplier_cost weight (Some d) w = weight * work_size w

abbrev pub nest_cost : ℕ → (PlainWork → ℕ) → PlainNest → ℕ
nest_cost weight cost z = copies_in z.counts * (cost z.work + multiplier_cost weight z.multiplier z.work)

abbrev pub pass_cost : ℕ → (PlainWork → ℕ) → List PlainNest → ℕ
pass_cost weight cost [] = 0
pass_cost weight cost (z ∷ zs) = nest_cost weight cost z + pass_cost weight cost zs

abbrev pub passes_cost : ℕ → (PlainWork → ℕ) → List (List PlainNest) → ℕ
passes_cost weight cost [] = 0
passes_cost weight cost (zs ∷ ps) = pass_cost weight cost zs + passes_cost weight cost ps

-- permutations cost nothing, a diagonal a product for each item
abbrev pub term_cost : ℕ → (PlainWork → ℕ) → ℕ → PlainTerm → ℕ
term_cost weight cost n same = 0
term_cost weight cost n (gath f) = 0
term_cost weight cost n (scat f) = 0
term_cost weight cost n (diag path factors) = weight * n
term_cost weight cost n (nest path w) = copies_of path * cost w
term_cost weight cost n (move path ks) = 0
term_cost weight cost n (product a b) = term_cost weight cost n a + term_cost weight cost n b
term_cost weight cost n (beside path k a l b) = copies_of path * (term_cost weight cost k a + term_cost weight cost l b)

-- a copy costs nothing
abbrev pub CopiesAreFree : (PlainWork → ℕ) → Type 0
CopiesAreFree cost = (d : ℕ) → cost (copy d) ≡ 0

-- merging keeps the operations
abbrev pub MergeCounts : Type 0
MergeCounts =
    (lanes m n : ℕ) (room : Room) (t : PlainTerm) (weight : ℕ) (cost : PlainWork → ℕ) → 0 < m → 0 < n →
    CopiesAreFree cost → IsGoodTerm lanes n t →
    passes_cost weight cost (passes_within room n t) ≡ term_cost weight cost n t
