-- Transforms of several dimensions. A place is written in mixed radix, with a digit for each size, the last size fastest.
use Rattle.std.specs.Prelude.{ℕ, ◌*◌, ◌/◌, ◌%◌, List, [], ◌∷◌, map}
use Rattle.ring_mod.specs.Residue.{product_mod}
use Rattle.operators.specs.Operator.{Operator, matrix_times}
use Rattle.matrix_meaning.specs.declared.Dimension.{Dimension}
use Rattle.matrix_meaning.specs.declared.Dimensions.{Dimensions}
use Rattle.matrix_meaning.specs.declared.Dimensions.TheVariants.{One, Two, Three, Four}
use Rattle.matrix_meaning.specs.declared.Kind.{Kind}
use Rattle.matrix_meaning.specs.declared.Request.{Request}
use Rattle.matrix_meaning.specs.Kind.{entry_of}

-- n times the product of the sizes
abbrev pub product_from : ℕ → List ℕ → ℕ
product_from n [] = n
product_from n (s ∷ sizes) = n * product_from s sizes

-- the product of the sizes: that of one is this size itself
abbrev pub product_of : List ℕ → ℕ
product_of [] = 1
product_of (n ∷ sizes) = product_from n sizes

-- The entry in row k and column l, where the first size is n and its root w. The first digits of row and column pick an entry of
-- the first transform, their other digits one of the others, and the entry is the product
abbrev pub entry_from : Kind → ℕ → ℕ → ℕ → List ℕ → List ℕ → ℕ → ℕ → ℕ
entry_from kind m n w [] roots k l = entry_of kind m n w k l
entry_from kind m n w (s ∷ sizes) [] k l = 0
entry_from kind m n w (s ∷ sizes) (v ∷ roots) k l =
    product_mod m
    (entry_of kind m n w (k / product_from s sizes) (l / product_from s sizes))
    (entry_from kind m s v sizes roots (k % product_from s sizes) (l % product_from s sizes))

-- the entry of the transform of these sizes, each with its root
abbrev pub entry_in : Kind → ℕ → List ℕ → List ℕ → ℕ → ℕ → ℕ
entry_in kind m (n ∷ sizes) (w ∷ roots) k l = entry_from kind m n w sizes roots k l
entry_in kind m sizes roots k l = 0

-- the matrix of these entries, times a list, modulo m
abbrev pub transform_in : Kind → ℕ → List ℕ → List ℕ → Operator
transform_in kind m sizes roots = matrix_times m (product_of sizes) (entry_in kind m sizes roots)

-- the dimensions: of one size that size with its root
abbrev pub dims_by : ℕ → ℕ → Dimensions → List Dimension
dims_by n w One = record { size = n; root = w } ∷ []
dims_by n w (Two a b) = a ∷ b ∷ []
dims_by n w (Three a b c) = a ∷ b ∷ c ∷ []
dims_by n w (Four a b c d) = a ∷ b ∷ c ∷ d ∷ []

abbrev pub dims_of : Request → List Dimension
dims_of r = dims_by r.size r.root r.dimensions

abbrev pub sizes_of : Request → List ℕ
sizes_of r = map (λ (d : Dimension). d.size) (dims_of r)

abbrev pub roots_of : Request → List ℕ
roots_of r = map (λ (d : Dimension). d.root) (dims_of r)
