-- The rules by which a transform of size r * s is made of transforms of the sizes r and s.
use Rattle.std.specs.Prelude.{◌≡◌, ◌≢◌, ℕ, ◌*◌, ◌/◌, ◌%◌, ◌<◌, List, ◌∷◌}
use Rattle.std.specs.Int.{IsGcd}
use Rattle.ring_mod.specs.Residue.{power_mod}
use Rattle.ring_mod.specs.Inverse.{inverse_mod}
use Rattle.matrix_meaning.specs.declared.Dimensions.TheVariants.{One}
use Rattle.matrix_meaning.specs.declared.Kind.{Kind}
use Rattle.matrix_meaning.specs.declared.Kind.TheVariants.{Dft, Wht, Idft}
use Rattle.matrix_meaning.specs.declared.Request.{Request}
use Rattle.matrix_meaning.specs.Asked.{asked_of}
use Rattle.matrix_meaning.specs.Dimensions.{product_from, transform_in}
use Rattle.matrix_meaning.specs.Kind.{inverse_root, transform, IsPowerOfTwo}
use Rattle.matrix_meaning.specs.Parts.{first_of, forward_of, inverted, rest_of}
use Rattle.matrix_meaning.specs.Valid.{IsInRange, IsValid}
use Rattle.operators.specs.Operator.{gather, scale, on_columns, on_blocks, stride, good_thomas_in, good_thomas_out}

-- the diagonal T(r * s, s, w): w to the power i * k at the place i * s + k
abbrev pub twiddle : ℕ → ℕ → ℕ → ℕ → ℕ
twiddle m s w p = power_mod m w ((p / s) * (p % s))

-- `DFT(r * s, w)` is `(DFT(r, w^s) tensor I_s) T(r * s, s, w) (I_r tensor DFT(s, w^r)) L(r * s, r)`
abbrev pub CooleyTukey : Type 0
CooleyTukey =
    (m r s w : ℕ) (x : List ℕ) → power_mod m w (r * s) ≡ 1 % m →
    transform Dft m (r * s) w x
    ≡ on_columns r s (transform Dft m r (power_mod m w s)) (scale m (r * s) (twiddle m s w) (on_blocks r s (transform Dft m s (power_mod m w r)) (gather (r * s) (stride r s) x)))

-- `WHT(r * s)` is `(WHT(r) tensor I_s) (I_r tensor WHT(s))`
abbrev pub Split : Type 0
Split =
    (m r s w : ℕ) (x : List ℕ) → 0 < m → IsPowerOfTwo s →
    transform Wht m (r * s) w x ≡ on_columns r s (transform Wht m r w) (on_blocks r s (transform Wht m s w) x)

-- `DFT(r * s, w)` is `GTOUT (DFT(r, w^s) tensor I_s) (I_r tensor DFT(s, w^r)) GTIN`, where r and s are coprime
abbrev pub GoodThomas : Type 0
GoodThomas =
    (m r s w : ℕ) (x : List ℕ) → power_mod m w (r * s) ≡ 1 % m → IsGcd r s 1 →
    transform Dft m (r * s) w x
    ≡ gather (r * s) (good_thomas_out r s) (on_columns r s (transform Dft m r (power_mod m w s)) (on_blocks r s (transform Dft m s (power_mod m w r)) (gather (r * s) (good_thomas_in r s) x)))

-- The inverse transform is the transform with the inverse root, and then 1 / n times each item
abbrev pub InverseTransform : Type 0
InverseTransform =
    (m n w : ℕ) (x : List ℕ) →
    transform Idft m n w x ≡ scale m n (λ _. inverse_mod m n) (transform Dft m n (inverse_root m n w) x)

-- the inverse root is a root too
abbrev pub InverseRoot : Type 0
InverseRoot = (m n w : ℕ) → power_mod m w n ≡ 1 % m → power_mod m (inverse_root m n w) n ≡ 1 % m

-- The transform of several dimensions is `(A tensor I_s) (I_n tensor B)`, where A is the transform of the first one, of size n, and
-- B that of the others, of s words
abbrev pub DimensionByDimension : Type 0
DimensionByDimension =
    (kind : Kind) (m n s w v : ℕ) (sizes roots x : List ℕ) →
    transform_in kind m (n ∷ s ∷ sizes) (w ∷ v ∷ roots) x
    ≡ on_columns n (product_from s sizes) (transform kind m n w)
    (on_blocks n (product_from s sizes) (transform_in kind m (s ∷ sizes) (v ∷ roots)) x)

-- what a request of one size asks for
abbrev pub AskedOfOne : Type 0
AskedOfOne =
    (r : Request) (x : List ℕ) → r.dimensions ≡ One → asked_of r x ≡ transform r.kind r.modulus r.size r.root x

-- an inverse one asks for what the forward one does, and 1 / n times each item
abbrev pub AskedByForward : Type 0
AskedByForward =
    (r : Request) (x : List ℕ) → IsInRange r → r.kind ≡ Idft →
    asked_of r x ≡ scale r.modulus r.size (λ _. inverse_mod r.modulus r.size) (asked_of (forward_of r) x)

-- one of several dimensions asks for what those for the first one and for the others do
abbrev pub AskedByParts : Type 0
AskedByParts =
    (r : Request) (x : List ℕ) → IsInRange r → r.dimensions ≢ One →
    asked_of r x
    ≡ on_columns (first_of r).size (rest_of r).size (asked_of (first_of r))
    (on_blocks (first_of r).size (rest_of r).size (asked_of (rest_of r)) x)

-- the request with the inverse root is valid
abbrev pub InverseIsValid : Type 0
InverseIsValid = (r : Request) → r.kind ≢ Wht → r.dimensions ≡ One → IsValid r → IsValid (inverted r)
