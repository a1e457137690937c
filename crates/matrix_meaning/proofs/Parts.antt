-- The requests for the first of several dimensions and for the others.
use Rattle.std.proofs.Common.{◌≡◌, ◌≢◌, ℕ, ◌*◌, ◌<◌, ◌≤◌, ◌^◌, arith, refl, sym, ap, subst, ◌∙◌, List, [], ◌∷◌}
use Rattle.std.proofs.Math.Nat.{mul-le-mul}
use Rattle.std.proofs.lemmas.List.Elements.{All-cons, All-head, All-nil, All-tail}
use Rattle.std.specs.Prelude.{map, All}
use Rattle.matrix_meaning.specs.declared.Dimension.{Dimension}
use Rattle.matrix_meaning.specs.declared.Dimensions.{Dimensions}
use Rattle.matrix_meaning.specs.declared.Dimensions.TheVariants.{One, Two, Three, Four}
use Rattle.matrix_meaning.specs.declared.Kind.TheVariants.{Dft}
use Rattle.matrix_meaning.specs.declared.Request.{Request}
use Rattle.matrix_meaning.specs.Dimensions.{dims_by, product_of}
use Rattle.matrix_meaning.specs.Parts.{first_in, first_of, part_of, parts_in, parts_of, rest_in, rest_of, together}
use Rattle.matrix_meaning.specs.Valid.{AreDimensions, IsBetween, IsInRange, IsSeveral, IsValid}
use Rattle.matrix_meaning.proofs.Roots.{HasItsRoot, one_is_root}
use Rattle.operators.specs.Sizes.{max_size}

-- ---- what is known of several dimensions

several_in : (r : Request) (ds : Dimensions) → ds ≢ One → AreDimensions r ds → IsSeveral r
several_in r One some several = absurd (some refl)
several_in r (Two a b) some several = several
several_in r (Three a b c) some several = several
several_in r (Four a b c d) some several = several

pub several : (r : Request) → IsInRange r → r.dimensions ≢ One → IsSeveral r
several r in_range some = several_in r r.dimensions some in_range.dimensions

-- they are those of a Fourier transform
pub several_kind : (r : Request) → IsInRange r → r.dimensions ≢ One → r.kind ≡ Dft
several_kind r in_range some = (several r in_range some).kind

sizes_by : Request → Dimensions → List ℕ
sizes_by r ds = map (λ (d : Dimension). d.size) (dims_by r.size r.root ds)

roots_by : Request → Dimensions → List ℕ
roots_by r ds = map (λ (d : Dimension). d.root) (dims_by r.size r.root ds)

-- the same, where the dimensions are named
record AreKnown (r : Request) (ds : Dimensions) : Type 0 where
  size : r.size ≡ product_of (sizes_by r ds)
  sizes : All (IsBetween 2 max_size) (sizes_by r ds)
  roots : All (λ w. w < r.modulus) (roots_by r ds)

known : (r : Request) → IsInRange r → r.dimensions ≢ One → AreKnown r r.dimensions
unfolding sizes_by roots_by
known r in_range some =
    let s = several r in_range some in
    record { size = s.size; sizes = s.sizes; roots = s.roots }

-- ---- products of sizes

two_by_two : (a b : ℕ) → 2 ≤ a → 2 ≤ b → 2 ≤ a * b
two_by_two a b first second = let more : 2 * 2 ≤ a * b = mul-le-mul first second in omega (arith, more)

factor_below : (a s n high : ℕ) → 2 ≤ a → n ≡ a * s → n ≤ high → s ≤ high
factor_below a s n high two is below =
    let once : 2 * s ≤ a * s = mul-le-mul two (omega arith) in
    omega (arith, once, is, below)

-- ---- the sizes of both

first_two : (r : Request) (ds : Dimensions) → ds ≢ One → AreKnown r ds → 2 ≤ (first_in r ds).size
unfolding sizes_by
first_two r One some k = absurd (some refl)
first_two r (Two a b) some k = (All-head (IsBetween 2 max_size) a.size (b.size ∷ []) k.sizes).0
first_two r (Three a b c) some k = (All-head (IsBetween 2 max_size) a.size (b.size ∷ c.size ∷ []) k.sizes).0
first_two r (Four a b c d) some k = (All-head (IsBetween 2 max_size) a.size (b.size ∷ c.size ∷ d.size ∷ []) k.sizes).0

rest_two : (r : Request) (ds : Dimensions) → ds ≢ One → AreKnown r ds → 2 ≤ (rest_in r ds).size
unfolding sizes_by
rest_two r One some k = absurd (some refl)
rest_two r (Two a b) some k =
    (k.sizes 1 0 (omega arith)).0
rest_two r (Three a b c) some k =
    two_by_two b.size c.size (k.sizes 1 0 (omega arith)).0 (k.sizes 2 0 (omega arith)).0
rest_two r (Four a b c d) some k =
    two_by_two b.size (c.size * d.size) (k.sizes 1 0 (omega arith)).0
    (two_by_two c.size d.size (k.sizes 2 0 (omega arith)).0 (k.sizes 3 0 (omega arith)).0)

size_by_both : (r : Request) (ds : Dimensions) → ds ≢ One → AreKnown r ds →
    r.size ≡ (first_in r ds).size * (rest_in r ds).size
unfolding sizes_by
size_by_both r One some k = absurd (some refl)
size_by_both r (Two a b) some k = k.size
size_by_both r (Three a b c) some k = k.size
size_by_both r (Four a b c d) some k = k.size

-- the size is the product of both sizes
pub parts_size : (r : Request) → IsInRange r → r.dimensions ≢ One → r.size ≡ (first_of r).size * (rest_of r).size
parts_size r in_range some = size_by_both r r.dimensions some (known r in_range some)

pub first_at_least_two : (r : Request) → IsInRange r → r.dimensions ≢ One → 2 ≤ (first_of r).size
first_at_least_two r in_range some = first_two r r.dimensions some (known r in_range some)

pub rest_at_least_two : (r : Request) → IsInRange r → r.dimensions ≢ One → 2 ≤ (rest_of r).size
rest_at_least_two r in_range some = rest_two r r.dimensions some (known r in_range some)

-- ---- both are in range

part_in_range : (r : Request) (d : Dimension) → IsInRange r → IsBetween 2 max_size d.size → d.root < r.modulus →
    IsInRange (part_of r d)
part_in_range r d h size root = record {
  size = (omega (arith, size.0), size.1);
  modulus = h.modulus;
  root = root;
  procs = (omega arith, omega arith);
  line = (omega arith, omega arith);
  lanes = (omega arith, omega arith);
  unroll = h.unroll;
  budget = h.budget;
  weight = h.weight;
  shape = tt;
  lanes_in_line = λ more. absurd (omega (arith, more));
  unit = tt;
  dimensions = tt;
}

together_in_range : (r : Request) (n : ℕ) (ds : Dimensions) → IsInRange r → IsBetween 2 max_size n →
    AreDimensions (together r n ds) ds → IsInRange (together r n ds)
together_in_range r n ds h size dimensions = record {
  size = (omega (arith, size.0), size.1);
  modulus = h.modulus;
  root = omega (arith, h.modulus.0);
  procs = (omega arith, omega arith);
  line = (omega arith, omega arith);
  lanes = (omega arith, omega arith);
  unroll = h.unroll;
  budget = h.budget;
  weight = h.weight;
  shape = tt;
  lanes_in_line = λ more. absurd (omega (arith, more));
  unit = tt;
  dimensions = dimensions;
}

first_in-in_range : (r : Request) (ds : Dimensions) → ds ≢ One → IsInRange r → AreKnown r ds →
    IsInRange (first_in r ds)
unfolding sizes_by roots_by
first_in-in_range r One some h k = absurd (some refl)
first_in-in_range r (Two a b) some h k =
    part_in_range r a h (k.sizes 0 0 (omega arith)) (k.roots 0 0 (omega arith))
first_in-in_range r (Three a b c) some h k =
    part_in_range r a h (k.sizes 0 0 (omega arith)) (k.roots 0 0 (omega arith))
first_in-in_range r (Four a b c d) some h k =
    part_in_range r a h (k.sizes 0 0 (omega arith)) (k.roots 0 0 (omega arith))

rest_between : (r : Request) (ds : Dimensions) → ds ≢ One → IsInRange r → AreKnown r ds →
    IsBetween 2 max_size (rest_in r ds).size
rest_between r ds some h k = (
  rest_two r ds some k,
  factor_below (first_in r ds).size (rest_in r ds).size r.size max_size (first_two r ds some k)
      (size_by_both r ds some k) h.size.1,
)

rest_in-in_range : (r : Request) (ds : Dimensions) → ds ≢ One → IsInRange r → AreKnown r ds → IsInRange (rest_in r ds)
unfolding sizes_by roots_by
rest_in-in_range r One some h k = absurd (some refl)
rest_in-in_range r (Two a b) some h k = part_in_range r b h (k.sizes 1 0 (omega arith)) (k.roots 1 0 (omega arith))
rest_in-in_range r (Three a b c) some h k =
    together_in_range r (b.size * c.size) (Two b c) h (rest_between r (Three a b c) some h k)
    (record {
      kind = refl;
      size = refl;
      root = refl;
      sizes = All-tail (IsBetween 2 max_size) a.size (b.size ∷ c.size ∷ []) k.sizes;
      roots = All-tail (λ w. w < r.modulus) a.root (b.root ∷ c.root ∷ []) k.roots;
    })
rest_in-in_range r (Four a b c d) some h k =
    together_in_range r (b.size * (c.size * d.size)) (Three b c d) h (rest_between r (Four a b c d) some h k)
    (record {
      kind = refl;
      size = refl;
      root = refl;
      sizes = All-tail (IsBetween 2 max_size) a.size (b.size ∷ c.size ∷ d.size ∷ []) k.sizes;
      roots = All-tail (λ w. w < r.modulus) a.root (b.root ∷ c.root ∷ d.root ∷ []) k.roots;
    })

pub first_in_range : (r : Request) → IsInRange r → r.dimensions ≢ One → IsInRange (first_of r)
first_in_range r in_range some = first_in-in_range r r.dimensions some in_range (known r in_range some)

pub rest_in_range : (r : Request) → IsInRange r → r.dimensions ≢ One → IsInRange (rest_of r)
rest_in_range r in_range some = rest_in-in_range r r.dimensions some in_range (known r in_range some)

-- ---- both are valid

first_in-root : (r : Request) (ds : Dimensions) → ds ≢ One → All HasItsRoot (parts_in r ds) →
    HasItsRoot (first_in r ds)
first_in-root r One some h = absurd (some refl)
first_in-root r (Two a b) some h = All-head HasItsRoot (part_of r a) (part_of r b ∷ []) h
first_in-root r (Three a b c) some h = All-head HasItsRoot (part_of r a) (part_of r b ∷ part_of r c ∷ []) h
first_in-root r (Four a b c d) some h =
    All-head HasItsRoot (part_of r a) (part_of r b ∷ part_of r c ∷ part_of r d ∷ []) h

first_in-parts : (r : Request) (ds : Dimensions) → ds ≢ One → parts_of (first_in r ds) ≡ first_in r ds ∷ []
first_in-parts r One some = absurd (some refl)
first_in-parts r (Two a b) some = refl
first_in-parts r (Three a b c) some = refl
first_in-parts r (Four a b c d) some = refl

rest_in-parts : (r : Request) (ds : Dimensions) → ds ≢ One → parts_in r ds ≡ first_in r ds ∷ parts_of (rest_in r ds)
rest_in-parts r One some = absurd (some refl)
rest_in-parts r (Two a b) some = refl
rest_in-parts r (Three a b c) some = refl
rest_in-parts r (Four a b c d) some = refl

-- the part requests are that for the first dimension, and those for the others
pub parts_by_first : (r : Request) → r.dimensions ≢ One → parts_of r ≡ first_of r ∷ parts_of (rest_of r)
parts_by_first r some = rest_in-parts r r.dimensions some

others_have_roots : (r : Request) (ds : Dimensions) → ds ≢ One → All HasItsRoot (parts_in r ds) →
    All HasItsRoot (parts_of (rest_in r ds))
others_have_roots r ds some h =
    All-tail HasItsRoot (first_in r ds) (parts_of (rest_in r ds))
    (subst (All HasItsRoot) (rest_in-parts r ds some) h)

rest_in-root : (r : Request) (ds : Dimensions) → ds ≢ One → 2 ≤ r.modulus → All HasItsRoot (parts_in r ds) →
    HasItsRoot (rest_in r ds)
rest_in-root r One some two h = absurd (some refl)
rest_in-root r (Two a b) some two h = All-head HasItsRoot (part_of r b) [] (others_have_roots r (Two a b) some h)
rest_in-root r (Three a b c) some two h = one_is_root r.modulus (b.size * c.size) two
rest_in-root r (Four a b c d) some two h = one_is_root r.modulus (b.size * (c.size * d.size)) two

pub first_is_valid : (r : Request) → IsValid r → r.dimensions ≢ One → IsValid (first_of r)
first_is_valid r valid some =
    let root = first_in-root r r.dimensions some valid.parts in
    record {
      in_range = first_in_range r valid.in_range some;
      root = root;
      parts =
          subst (All HasItsRoot) (sym (first_in-parts r r.dimensions some))
          (All-cons HasItsRoot (first_of r) [] root (All-nil HasItsRoot));
    }

pub rest_is_valid : (r : Request) → IsValid r → r.dimensions ≢ One → IsValid (rest_of r)
rest_is_valid r valid some = record {
  in_range = rest_in_range r valid.in_range some;
  root = rest_in-root r r.dimensions some valid.in_range.modulus.0 valid.parts;
  parts = others_have_roots r r.dimensions some valid.parts;
}

-- ---- both, where the dimensions are named

pub both_in_range : (r : Request) (ds : Dimensions) (p q : Request) → r.dimensions ≡ ds → ds ≢ One →
    p ≡ first_in r ds → q ≡ rest_in r ds → IsInRange r → IsInRange p × IsInRange q
both_in_range r ds p q is some first rest h =
    let several : r.dimensions ≢ One = λ one. some (sym is ∙ one) in (
      subst (λ (z : Request). IsInRange z) (ap (first_in r) is ∙ sym first) (first_in_range r h several),
      subst (λ (z : Request). IsInRange z) (ap (rest_in r) is ∙ sym rest) (rest_in_range r h several),
    )

pub both_valid : (r : Request) (ds : Dimensions) (p q : Request) → r.dimensions ≡ ds → ds ≢ One →
    p ≡ first_in r ds → q ≡ rest_in r ds → IsValid r → IsValid p × IsValid q
both_valid r ds p q is some first rest h =
    let several : r.dimensions ≢ One = λ one. some (sym is ∙ one) in (
      subst (λ (z : Request). IsValid z) (ap (first_in r) is ∙ sym first) (first_is_valid r h several),
      subst (λ (z : Request). IsValid z) (ap (rest_in r) is ∙ sym rest) (rest_is_valid r h several),
    )

-- the last two of four sizes
pub last_two_fit : (r : Request) (a b c d : Dimension) → r.dimensions ≡ Four a b c d → IsInRange r →
    c.size * d.size < 2 ^ 64
unfolding sizes_by
last_two_fit r a b c d is h =
    let some : r.dimensions ≢ One = λ one. absurd cc in
    let k = subst (AreKnown r) is (known r h some) in
    let below : c.size * d.size ≤ max_size * max_size =
    mul-le-mul (k.sizes 2 0 (omega arith)).1 (k.sizes 3 0 (omega arith)).1 in
    omega (arith, below)

-- ---- the lists of the dimensions

first_in-one : (r : Request) (ds : Dimensions) → ds ≢ One → (first_in r ds).dimensions ≡ One
first_in-one r One some = absurd (some refl)
first_in-one r (Two a b) some = refl
first_in-one r (Three a b c) some = refl
first_in-one r (Four a b c d) some = refl

-- the request for the first dimension is of one size
pub first_is_one : (r : Request) → r.dimensions ≢ One → (first_of r).dimensions ≡ One
first_is_one r some = first_in-one r r.dimensions some

first_in-kind : (r : Request) (ds : Dimensions) → ds ≢ One → (first_in r ds).kind ≡ Dft
first_in-kind r One some = absurd (some refl)
first_in-kind r (Two a b) some = refl
first_in-kind r (Three a b c) some = refl
first_in-kind r (Four a b c d) some = refl

pub first_kind : (r : Request) → r.dimensions ≢ One → (first_of r).kind ≡ Dft
first_kind r some = first_in-kind r r.dimensions some

rest_in-kind : (r : Request) (ds : Dimensions) → ds ≢ One → (rest_in r ds).kind ≡ Dft
rest_in-kind r One some = absurd (some refl)
rest_in-kind r (Two a b) some = refl
rest_in-kind r (Three a b c) some = refl
rest_in-kind r (Four a b c d) some = refl

pub rest_kind : (r : Request) → r.dimensions ≢ One → (rest_of r).kind ≡ Dft
rest_kind r some = rest_in-kind r r.dimensions some

-- a Walsh-Hadamard transform and an inverse one are of one size
one_size : (r : Request) (ds : Dimensions) → AreDimensions r ds → r.kind ≢ Dft → ds ≡ One
one_size r One h other = refl
one_size r (Two a b) h other = absurd (other h.kind)
one_size r (Three a b c) h other = absurd (other h.kind)
one_size r (Four a b c d) h other = absurd (other h.kind)

pub is_of_one_size : (r : Request) → IsInRange r → r.kind ≢ Dft → r.dimensions ≡ One
is_of_one_size r in_range other = one_size r r.dimensions in_range.dimensions other
