-- Requests of any kind and of several dimensions: their sizes and roots, and their trees.
use Rattle.std.proofs.Common.{◌≡◌, ℕ, ◌%◌, ◌^◌, ◌<◌, ◌≤◌, List, [], arith, refl, sym, ap, subst}
use Rattle.std.proofs.Math.Nat.{mod_self}
use Rattle.std.proofs.lemmas.List.Elements.{All-cons, All-nil}
use Rattle.std.specs.Prelude.{All, length, map}
use Rattle.matrix_meaning.specs.declared.Dimension.{Dimension}
use Rattle.matrix_meaning.specs.declared.Dimensions.{Dimensions}
use Rattle.matrix_meaning.specs.declared.Dimensions.TheVariants.{One, Two, Three, Four}
use Rattle.matrix_meaning.specs.declared.Request.{Request}
use Rattle.matrix_meaning.specs.Dimensions.{dims_by, product_of, roots_of, sizes_of}
use Rattle.matrix_meaning.specs.Valid.{AreDimensions, IsInRange}
use Rattle.tree_model.specs.Breakdown.{Breakdown, size_of}
use Rattle.tree_model.specs.Chosen.{IsWholeTree, StandsIn}

-- ---- sizes and roots

abbrev sizes_in : ℕ → ℕ → Dimensions → List ℕ
sizes_in n w ds = map (λ (d : Dimension). d.size) (dims_by n w ds)

abbrev roots_in : ℕ → ℕ → Dimensions → List ℕ
roots_in n w ds = map (λ (d : Dimension). d.root) (dims_by n w ds)

product_by : (r : Request) (ds : Dimensions) → r.dimensions ≡ ds → AreDimensions r ds → product_of (sizes_of r) ≡ r.size
product_by r One is several = ap (λ ds. product_of (sizes_in r.size r.root ds)) is
product_by r (Two a b) is several = sym several.size
product_by r (Three a b c) is several = sym several.size
product_by r (Four a b c d) is several = sym several.size

-- the sizes have the size of the request as their product
pub product_is_size : (r : Request) → IsInRange r → product_of (sizes_of r) ≡ r.size
product_is_size r range = product_by r r.dimensions refl range.dimensions

roots_by : (r : Request) (ds : Dimensions) → r.dimensions ≡ ds → r.root < r.modulus → AreDimensions r ds →
    All (λ w. w < r.modulus) (roots_of r)
roots_by r One is below several =
    subst (λ ds. All (λ w. w < r.modulus) (roots_in r.size r.root ds)) (sym is)
    (All-cons (λ w. w < r.modulus) r.root [] below (All-nil (λ w. w < r.modulus)))
roots_by r (Two a b) is below several = several.roots
roots_by r (Three a b c) is below several = several.roots
roots_by r (Four a b c d) is below several = several.roots

-- each root is a residue
pub roots_are_below : (r : Request) → IsInRange r → All (λ w. w < r.modulus) (roots_of r)
roots_are_below r range = roots_by r r.dimensions refl range.root range.dimensions

pairs_by : (n w : ℕ) (ds : Dimensions) → length (roots_in n w ds) ≡ length (sizes_in n w ds)
pairs_by n w One = refl
pairs_by n w (Two a b) = refl
pairs_by n w (Three a b c) = refl
pairs_by n w (Four a b c d) = refl

-- as many roots as sizes
pub roots_and_sizes : (r : Request) → length (roots_of r) ≡ length (sizes_of r)
roots_and_sizes r = pairs_by r.size r.root r.dimensions

some_by : (n w : ℕ) (ds : Dimensions) → 1 ≤ length (sizes_in n w ds)
some_by n w One = omega arith
some_by n w (Two a b) = omega arith
some_by n w (Three a b c) = omega arith
some_by n w (Four a b c d) = omega arith

-- at least one size
pub some_size : (r : Request) → 1 ≤ length (sizes_of r)
some_size r = some_by r.size r.root r.dimensions

-- ---- trees

pub whole_stands : (c : Request) (t : Breakdown) → IsWholeTree c t → StandsIn c t
whole_stands c t h = (h.tree, subst (λ n. n % size_of t ≡ 0) h.size (mod_self (size_of t)))

pub whole_fits : (c : Request) (t : Breakdown) → IsInRange c → IsWholeTree c t → size_of t < 2 ^ 64
whole_fits c t range h =
    let high = range.size.1 in
    let size = h.size in
    omega (arith, high, size)
