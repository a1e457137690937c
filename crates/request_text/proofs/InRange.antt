-- A request in range passes the tests.
use Rattle.std.proofs.Common.{◌≡◌, ℕ, suc, ◌*◌, ◌<◌, ◌≤◌, ◌%◌, Bool, true, false, cond, eqb, leb, List, []}
use Rattle.std.proofs.Common.{◌∷◌, Result, Ok, Err, refl, sym, ap, subst, arith}
use Rattle.std.specs.Prelude.{All}
use Rattle.std.specs.Int.{IsGcd}
use Rattle.std.proofs.lemmas.Bool.{leb-false, le-leb, lt-ltb, and_from}
use Rattle.std.proofs.lemmas.Nat.{mul-le}
use Rattle.std.proofs.Math.Nat.{mul_assoc, le-mul_of_pos_right}
use Rattle.matrix_meaning.specs.declared.Dimension.{Dimension}
use Rattle.matrix_meaning.specs.declared.Dimensions.{Dimensions}
use Rattle.matrix_meaning.specs.declared.Dimensions.TheVariants.{One, Two, Three, Four}
use Rattle.matrix_meaning.specs.declared.Kind.{Kind}
use Rattle.matrix_meaning.specs.declared.Kind.TheVariants.{Dft, Wht, Idft}
use Rattle.matrix_meaning.specs.declared.Request.{Request}
use Rattle.matrix_meaning.specs.Convolving.{IsConvRequest}
use Rattle.matrix_meaning.specs.Dimensions.{dims_by, dims_of, product_of}
use Rattle.matrix_meaning.specs.Valid.{AreDimensions, HasShape, HasUnit, IsBetween, IsInRange, IsSeveral}
use Rattle.operators.specs.Sizes.{max_size}
use Rattle.request_text.specs.declared.fault.Field.{Field}
use Rattle.request_text.specs.declared.fault.Field.TheVariants.{Size, Mod, Root, Procs, Line, Lanes, Unroll, Budget}
use Rattle.request_text.specs.declared.fault.Field.TheVariants.{Weight}
use Rattle.request_text.specs.declared.fault.RequestFault.{RequestFault}
use Rattle.request_text.specs.declared.fault.RequestFault.TheVariants.{Range, Shape, LanesLine, NotUnit}
use Rattle.request_text.specs.Laws.{RangeIsTable, value_of}
use Rattle.request_text.specs.Limits.{◌>>◌, limits, between, within, below, sizes_within, products_within, sized}
use Rattle.request_text.specs.Limits.{roots_below, shaped}
use Rattle.request_text.specs.Limits.{divided, coprime, divisible, limited, tested, judged, judged_conv}
use Rattle.request_text.proofs.CommonFactor.{common_factor_is}
use Rattle.request_text.proofs.Limits.{passed}
use Rattle.request_text.proofs.Said.{roots_in, sizes_in}

-- ---- one test

between_ok : (field : Field) (v low high : ℕ) → IsBetween low high v → between field v low high ≡ passed
between_ok field v low high h = ap (λ b. cond b passed (Err (Range field v)))
    (and_from (leb low v) (leb v high) (le-leb low v h.0) (le-leb v high h.1))

within_ok : (field : Field) (v : ℕ) → IsBetween (limits field).0 (limits field).1 v → within field v ≡ passed
within_ok field v h = between_ok field v (limits field).0 (limits field).1 h

below_ok : (field : Field) (v limit : ℕ) → v < limit → below field v limit ≡ passed
below_ok field v limit h = ap (λ b. cond b passed (Err (Range field v))) (lt-ltb v limit h)

divided_ok : (procs line lanes : ℕ) → (1 < procs → line % lanes ≡ 0) → divided procs line lanes ≡ passed
divided_ok procs line lanes h = cases (leb procs 1) refl
  where
    cases : (k : Bool) → leb procs 1 ≡ k
        → cond k passed (cond (eqb (line % lanes) 0) passed (Err (LanesLine lanes line))) ≡ passed
    cases true e = refl
    cases false e = ap (λ n. cond (eqb n 0) passed (Err (LanesLine lanes line))) (h (leb-false procs 1 e))

shaped_ok : (kind : Kind) (size : ℕ) → HasShape kind size → shaped kind size ≡ passed
shaped_ok Dft size h = refl
shaped_ok Wht size h = ap (λ b. cond b passed (Err (Shape size))) h
shaped_ok Idft size h = refl

coprime_ok : (size modulus : ℕ) → 1 ≤ size → IsGcd size modulus 1 → coprime size modulus ≡ passed
coprime_ok size modulus some h =
    ap (λ n. cond (eqb n 1) passed (Err (NotUnit n))) (common_factor_is size modulus 1 h some)

divisible_ok : (kind : Kind) (size modulus : ℕ) → 1 ≤ size → HasUnit kind modulus size
    → divisible kind size modulus ≡ passed
divisible_ok Dft size modulus some h = refl
divisible_ok Wht size modulus some h = refl
divisible_ok Idft size modulus some h = coprime_ok size modulus some h

then_ok : {A B : Type 0} (t : Result A RequestFault) (n : Result B RequestFault) (x : A) (y : B) → t ≡ Ok x → n ≡ Ok y
    → (t >> n) ≡ Ok y
then_ok (Ok z) n x y e f = f
then_ok (Err fault) n x y e f = absurd (cc)

-- ---- all dimensions

first_of : (P : ℕ → Type 0) (n : ℕ) (ns : List ℕ) → All P (n ∷ ns) → P n
first_of P n ns all = all 0 n (omega arith)

others_of : (P : ℕ → Type 0) (n : ℕ) (ns : List ℕ) → All P (n ∷ ns) → All P ns
others_of P n ns all = λ k e lt. all (suc k) e (omega (arith, lt))

abbrev IsSize : ℕ → Type 0
IsSize n = IsBetween 2 max_size n

sizes_ok : (ds : List Dimension) → All IsSize (sizes_in ds) → sizes_within ds ≡ passed
sizes_ok [] all = refl
sizes_ok (d ∷ ds) all =
    then_ok _ _ tt tt (between_ok Size d.size 2 max_size (first_of IsSize d.size (sizes_in ds) all))
    (sizes_ok ds (others_of IsSize d.size (sizes_in ds) all))

sizes_positive : (d : Dimension) (ds : List Dimension) → All IsSize (sizes_in (d ∷ ds))
    → 1 ≤ product_of (sizes_in (d ∷ ds))
sizes_positive d [] all = omega (arith, (first_of IsSize d.size [] all).0)
sizes_positive d (f ∷ ds) all =
    mul-le 1 1 d.size (product_of (sizes_in (f ∷ ds)))
    (omega (arith, (first_of IsSize d.size (sizes_in (f ∷ ds)) all).0))
    (sizes_positive f ds (others_of IsSize d.size (sizes_in (f ∷ ds)) all))

-- no product is over that of all
products_ok : (before : ℕ) (d : Dimension) (ds : List Dimension) → 1 ≤ before → All IsSize (sizes_in (d ∷ ds))
    → before * product_of (sizes_in (d ∷ ds)) ≤ max_size
    → (n : ℕ) × (products_within before (d ∷ ds) ≡ Ok n)
products_ok before d [] some all fits =
    let low : 2 ≤ before * d.size = mul-le 1 2 before d.size some (first_of IsSize d.size [] all).0 in
    (before * d.size, then_ok _ _ tt (before * d.size) (between_ok Size (before * d.size) 2 max_size (low, fits)) refl)
products_ok before d (f ∷ ds) some all fits =
    let others = others_of IsSize d.size (sizes_in (f ∷ ds)) all in
    let low : 2 ≤ before * d.size = mul-le 1 2 before d.size some (first_of IsSize d.size (sizes_in (f ∷ ds)) all).0 in
    let whole : before * d.size * product_of (sizes_in (f ∷ ds)) ≤ max_size =
    subst (λ n. n ≤ max_size) (sym (mul_assoc before d.size (product_of (sizes_in (f ∷ ds))))) fits in
    let part : before * d.size ≤ before * d.size * product_of (sizes_in (f ∷ ds)) =
    le-mul_of_pos_right (before * d.size) (sizes_positive f ds others) in
    let rest = products_ok (before * d.size) f ds (omega (arith, low)) others whole in (
      rest.0,
      then_ok _ _ tt rest.0 (between_ok Size (before * d.size) 2 max_size (low, omega (arith, part, whole)))
          rest.1,
    )

several_ok : (d : Dimension) (f : Dimension) (ds : List Dimension) → All IsSize (sizes_in (d ∷ f ∷ ds))
    → product_of (sizes_in (d ∷ f ∷ ds)) ≤ max_size
    → (n : ℕ) × (sized (d ∷ f ∷ ds) ≡ Ok n)
several_ok d f ds all fits =
    let p = products_ok 1 d (f ∷ ds) (omega arith) all (omega (arith, fits)) in
    (p.0, then_ok _ _ tt p.0 (sizes_ok (d ∷ f ∷ ds) all) p.1)

roots_ok : (m : ℕ) (ds : List Dimension) → All (λ w. w < m) (roots_in ds) → roots_below m ds ≡ passed
roots_ok m [] all = refl
roots_ok m (d ∷ ds) all =
    then_ok _ _ tt tt (below_ok Root d.root m (first_of (λ w. w < m) d.root (roots_in ds) all))
    (roots_ok m ds (others_of (λ w. w < m) d.root (roots_in ds) all))

-- ---- those of a request

sizes_of_several : (r : Request) (ds : Dimensions) → r.dimensions ≡ ds → IsSeveral r
    → All IsSize (sizes_in (dims_by r.size r.root ds))
sizes_of_several r ds e s = subst (λ x. All IsSize (sizes_in (dims_by r.size r.root x))) e s.sizes

product_fits : (r : Request) (ds : Dimensions) → r.dimensions ≡ ds → r.size ≤ max_size → IsSeveral r
    → product_of (sizes_in (dims_by r.size r.root ds)) ≤ max_size
product_fits r ds e fits s = subst (λ x. product_of (sizes_in (dims_by r.size r.root x)) ≤ max_size) e
    (subst (λ n. n ≤ max_size) s.size fits)

sized_ok : (r : Request) (ds : Dimensions) → r.dimensions ≡ ds → IsBetween 1 max_size r.size → AreDimensions r ds
    → (n : ℕ) × (sized (dims_by r.size r.root ds) ≡ Ok n)
sized_ok r One e size s = (r.size, then_ok _ _ tt r.size (within_ok Size r.size size) refl)
sized_ok r (Two a b) e size s =
    several_ok a b [] (sizes_of_several r (Two a b) e s) (product_fits r (Two a b) e size.1 s)
sized_ok r (Three a b c) e size s =
    several_ok a b (c ∷ []) (sizes_of_several r (Three a b c) e s) (product_fits r (Three a b c) e size.1 s)
sized_ok r (Four a b c d) e size s =
    several_ok a b (c ∷ d ∷ []) (sizes_of_several r (Four a b c d) e s) (product_fits r (Four a b c d) e size.1 s)

roots_of_several : (r : Request) (ds : Dimensions) → r.dimensions ≡ ds → IsSeveral r
    → roots_below r.modulus (dims_by r.size r.root ds) ≡ passed
roots_of_several r ds e s =
    roots_ok r.modulus (dims_by r.size r.root ds)
    (subst (λ x. All (λ w. w < r.modulus) (roots_in (dims_by r.size r.root x))) e s.roots)

all_roots_ok : (r : Request) (ds : Dimensions) → r.dimensions ≡ ds → r.root < r.modulus → AreDimensions r ds
    → roots_below r.modulus (dims_by r.size r.root ds) ≡ passed
all_roots_ok r One e root s = then_ok _ _ tt tt (below_ok Root r.root r.modulus root) refl
all_roots_ok r (Two a b) e root s = roots_of_several r (Two a b) e s
all_roots_ok r (Three a b c) e root s = roots_of_several r (Three a b c) e s
all_roots_ok r (Four a b c d) e root s = roots_of_several r (Four a b c d) e s

limited_ok : (r : Request) → IsInRange r → limited r ≡ passed
unfolding limited
limited_ok r v =
    then_ok (within Mod r.modulus) _ tt tt (within_ok Mod r.modulus v.modulus)
    (then_ok (roots_below r.modulus (dims_of r)) _ tt tt (all_roots_ok r r.dimensions refl v.root v.dimensions)
    (then_ok (within Procs r.procs) _ tt tt (within_ok Procs r.procs v.procs)
    (then_ok (within Line r.line) _ tt tt (within_ok Line r.line v.line)
    (then_ok (within Lanes r.lanes) _ tt tt (within_ok Lanes r.lanes v.lanes)
    (then_ok (within Unroll r.unroll) _ tt tt (within_ok Unroll r.unroll v.unroll)
    (then_ok (within Budget r.budget) _ tt tt (within_ok Budget r.budget v.budget)
    (then_ok (within Weight r.weight) _ tt tt (within_ok Weight r.weight v.weight)
    (then_ok (shaped r.kind r.size) _ tt tt (shaped_ok r.kind r.size v.shape)
    (then_ok (divided r.procs r.line r.lanes) _ tt tt (divided_ok r.procs r.line r.lanes v.lanes_in_line)
    (divisible_ok r.kind r.size r.modulus v.size.0 v.unit))))))))))

tested_ok : (r : Request) → IsInRange r → tested r ≡ passed
tested_ok r v =
    let s = sized_ok r r.dimensions refl v.size v.dimensions in
    then_ok (sized (dims_of r)) (limited r) s.0 tt s.1 (limited_ok r v)

-- a request in range has no fault
pub judged_ok : (r : Request) → IsInRange r → judged r ≡ Ok r
judged_ok r v = then_ok (tested r) (Ok r) tt r (tested_ok r v) refl

-- nor has one for a convolution
pub judged_conv_ok : (r : Request) → IsConvRequest r → judged_conv r ≡ Ok r
judged_conv_ok r v =
    then_ok (tested r) (coprime r.size r.modulus >> Ok r) tt r (tested_ok r v.in_range)
    (then_ok (coprime r.size r.modulus) (Ok r) tt r (coprime_ok r.size r.modulus v.in_range.size.0 v.unit) refl)

-- ---- the table of limits

field_in_range : (r : Request) → IsInRange r → (field : Field) → IsBetween (limits field).0 (limits field).1
    (value_of r field)
field_in_range r v Size = v.size
field_in_range r v Mod = v.modulus
field_in_range r v Root = (omega arith, omega (arith, v.root, v.modulus.1))
field_in_range r v Procs = v.procs
field_in_range r v Line = v.line
field_in_range r v Lanes = v.lanes
field_in_range r v Unroll = v.unroll
field_in_range r v Budget = v.budget
field_in_range r v Weight = v.weight

pub range_is_table : RangeIsTable
range_is_table r = (
  λ v. record {
    fields = field_in_range r v;
    root = v.root;
    shape = v.shape;
    lanes_in_line = v.lanes_in_line;
    unit = v.unit;
    dimensions = v.dimensions;
  },
  λ v. record {
    size = v.fields Size;
    modulus = v.fields Mod;
    root = v.root;
    procs = v.fields Procs;
    line = v.fields Line;
    lanes = v.fields Lanes;
    unroll = v.fields Unroll;
    budget = v.fields Budget;
    weight = v.fields Weight;
    shape = v.shape;
    lanes_in_line = v.lanes_in_line;
    unit = v.unit;
    dimensions = v.dimensions;
  },
)
