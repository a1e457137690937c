-- Where passes load and store: places as sums of the variables of loops.
use Rattle.std.specs.Prelude.{ℕ, ◌*◌, ◌==◌, if◌then◌else◌, List, [], ◌∷◌, ◌++◌, length}
use Rattle.index_fn.specs.Back.{unit_below}
use Rattle.perm_algebra.specs.Affine.{Sum, constant, variable, scaled, added, reduced}
use Rattle.tree_model.specs.declared.tree.Rule.{Rule}
use Rattle.tree_model.specs.declared.tree.Rule.TheVariants.{Gt, Ct}

-- ---- loops, as their counts from the outside in

-- one more loop inside; a loop that runs once is not written
abbrev pub inside : List ℕ → ℕ → List ℕ
inside counts n = if n == 1 then counts else counts ++ n ∷ []

-- and its variable, which is 0 where the loop runs once
abbrev pub turn_of : List ℕ → ℕ → Sum
turn_of counts n = if n == 1 then constant 0 else variable 1 (length counts) (constant 0)

-- ---- place functions

-- the place in an array of a part's own place k, which is a sum too, where the variables run below these counts
abbrev pub PlaceFunction : Type 0
PlaceFunction = (ℕ → ℕ) → Sum → Sum

abbrev pub same : PlaceFunction
same counts k = k

-- g first
abbrev pub after : PlaceFunction → PlaceFunction → PlaceFunction
after f g counts k = f counts (g counts k)

-- i*s + k
abbrev pub blocks : ℕ → Sum → PlaceFunction
blocks s i counts k = added (scaled s i) k

-- k*s + j
abbrev pub columns : ℕ → Sum → PlaceFunction
columns s j counts k = added (scaled s k) j

-- ---- the rules, on r*s places

-- where the right part's turn i loads its place k
abbrev pub right_in : Rule → ℕ → ℕ → Sum → PlaceFunction
right_in Gt r s i counts k = reduced counts (r * s) (added (scaled s i) (scaled r k))
right_in Ct r s i counts k = columns r i counts k
right_in rule r s i counts k = blocks s i counts k

-- where the left part's turn j stores its place k: by a gt at k times what is 1 modulo r and 0 modulo s, plus j times
-- what is 0 and 1
abbrev pub left_out : Rule → ℕ → ℕ → Sum → PlaceFunction
left_out Gt r s j counts k = reduced counts (r * s) (added (scaled (unit_below r s r) k) (scaled (unit_below s r s) j))
left_out rule r s j counts k = columns s j counts k
