-- What the tests of a request say.
use Rattle.std.proofs.Common.{◌≡◌, ℕ, ◌*◌, ◌<◌, ◌≤◌, ◌%◌, Bool, true, false, cond, eqb, ltb, leb, ◌&&◌, List}
use Rattle.std.proofs.Common.{[], ◌∷◌, Result, Ok, Err, refl, sym, subst, ◌∙◌, arith}
use Rattle.std.specs.Prelude.{All}
use Rattle.std.specs.Int.{is_power_of_two, IsGcd}
use Rattle.std.proofs.lemmas.Bool.{leb-true, ltb-true, eqb-true, and_parts}
use Rattle.std.proofs.lemmas.List.Elements.{All-nil, All-cons}
use Rattle.std.proofs.Math.Nat.{mul_assoc}
use Rattle.matrix_meaning.specs.declared.Dimension.{Dimension}
use Rattle.matrix_meaning.specs.declared.Dimensions.{Dimensions}
use Rattle.matrix_meaning.specs.declared.Dimensions.TheVariants.{One, Two, Three, Four}
use Rattle.matrix_meaning.specs.declared.Kind.{Kind}
use Rattle.matrix_meaning.specs.declared.Kind.TheVariants.{Dft, Wht, Idft}
use Rattle.matrix_meaning.specs.declared.Request.{Request}
use Rattle.matrix_meaning.specs.Dimensions.{dims_by, dims_of, product_of}
use Rattle.matrix_meaning.specs.Valid.{AreDimensions, HasShape, HasUnit, IsBetween, IsInRange, IsSeveral}
use Rattle.operators.specs.Sizes.{max_size}
use Rattle.request_text.specs.declared.fault.Field.{Field}
use Rattle.request_text.specs.declared.fault.Field.TheVariants.{Size, Mod, Root, Procs, Line, Lanes, Unroll, Budget}
use Rattle.request_text.specs.declared.fault.Field.TheVariants.{Weight}
use Rattle.request_text.specs.declared.fault.RequestFault.{RequestFault}
use Rattle.request_text.specs.declared.fault.RequestFault.TheVariants.{Range, Shape, LanesLine, NotUnit}
use Rattle.request_text.specs.Limits.{◌>>◌, limits, between, within, below, sizes_within, products_within, sized}
use Rattle.request_text.specs.Limits.{roots_below, shaped}
use Rattle.request_text.specs.Limits.{divided, common_factor, coprime, divisible, limited, tested}
use Rattle.request_text.proofs.CommonFactor.{common_factor_is, gcd_exists}
use Rattle.request_text.proofs.Said.{IsProduct, IsSaid, roots_in, sizes_in}

-- ---- one test after the other

pub passes : {A : Type 0} (t : Result (Unit {0}) RequestFault) (n : Result A RequestFault) (q : A) → (t >> n) ≡ Ok q
    → (t ≡ Ok tt) × (n ≡ Ok q)
passes (Ok x) n q e = (refl, e)
passes (Err f) n q e = absurd cc

-- the same of a test that gives a value
pub gives : {A B : Type 0} (t : Result A RequestFault) (n : Result B RequestFault) (q : B) → (t >> n) ≡ Ok q
    → (p : A) × (t ≡ Ok p) × (n ≡ Ok q)
gives (Ok p) n q e = (p, refl, e)
gives (Err f) n q e = absurd cc

abbrev pub passed : Result (Unit {0}) RequestFault
passed = Ok tt

-- ---- each test

guard : (b : Bool) (f : RequestFault) → cond b passed (Err f) ≡ passed → b ≡ true
guard true f e = refl
guard false f e = absurd cc

between_is : (field : Field) (v low high : ℕ) → between field v low high ≡ Ok tt → IsBetween low high v
between_is field v low high e =
    let both = and_parts (leb low v) (leb v high) (guard (leb low v && leb v high) (Range field v) e) in
    (leb-true low v both.0, leb-true v high both.1)

within_is : (field : Field) (v : ℕ) → within field v ≡ Ok tt → IsBetween (limits field).0 (limits field).1 v
within_is field v e = between_is field v (limits field).0 (limits field).1 e

below_is : (field : Field) (v limit : ℕ) → below field v limit ≡ Ok tt → v < limit
below_is field v limit e = ltb-true v limit (guard (ltb v limit) (Range field v) e)

shaped_is : (kind : Kind) (size : ℕ) → shaped kind size ≡ Ok tt → HasShape kind size
shaped_is Dft size e = tt
shaped_is Wht size e = guard (is_power_of_two size) (Shape size) e
shaped_is Idft size e = tt

divided_is : (procs line lanes : ℕ) → divided procs line lanes ≡ Ok tt → 1 < procs → line % lanes ≡ 0
divided_is procs line lanes e more = cases (leb procs 1) refl e
  where
    cases : (k : Bool) → leb procs 1 ≡ k
        → cond k passed (cond (eqb (line % lanes) 0) passed (Err (LanesLine lanes line))) ≡ passed → line % lanes ≡ 0
    cases true h e = absurd (omega (arith, leb-true procs 1 h, more))
    cases false h e = eqb-true (line % lanes) 0 (guard (eqb (line % lanes) 0) (LanesLine lanes line) e)

pub coprime_is : (size modulus : ℕ) → 1 ≤ size → coprime size modulus ≡ Ok tt → IsGcd size modulus 1
coprime_is size modulus some e =
    let g = gcd_exists size modulus in
    let one : common_factor size modulus ≡ 1 =
    eqb-true (common_factor size modulus) 1
    (guard (eqb (common_factor size modulus) 1) (NotUnit (common_factor size modulus)) e) in
    subst (IsGcd size modulus) (sym (common_factor_is size modulus g.0 g.1 some) ∙ one) g.1

divisible_is : (kind : Kind) (size modulus : ℕ) → 1 ≤ size → divisible kind size modulus ≡ Ok tt
    → HasUnit kind modulus size
divisible_is Dft size modulus some e = tt
divisible_is Wht size modulus some e = tt
divisible_is Idft size modulus some e = coprime_is size modulus some e

-- ---- the sizes and the roots

sizes_are : (ds : List Dimension) → sizes_within ds ≡ passed → All (IsBetween 2 max_size) (sizes_in ds)
sizes_are [] e = All-nil (IsBetween 2 max_size)
sizes_are (d ∷ ds) e =
    let s = passes (between Size d.size 2 max_size) (sizes_within ds) tt e in
    All-cons (IsBetween 2 max_size) d.size (sizes_in ds) (between_is Size d.size 2 max_size s.0) (sizes_are ds s.1)

-- the last product is that of all sizes
products_are : (before : ℕ) (d : Dimension) (ds : List Dimension) (n : ℕ) → products_within before (d ∷ ds) ≡ Ok n →
    (n ≡ before * product_of (sizes_in (d ∷ ds))) × IsBetween 2 max_size n
products_are before d [] n e =
    let s = passes (between Size (before * d.size) 2 max_size) (Ok (before * d.size)) n e in
    let same : before * d.size ≡ n = cc in
    (sym same, subst (IsBetween 2 max_size) same (between_is Size (before * d.size) 2 max_size s.0))
products_are before d (f ∷ ds) n e =
    let s = passes (between Size (before * d.size) 2 max_size) (products_within (before * d.size) (f ∷ ds)) n e in
    let rest = products_are (before * d.size) f ds n s.1 in
    (rest.0 ∙ mul_assoc before d.size (product_of (sizes_in (f ∷ ds))), rest.1)

pub sized_is : (ds : List Dimension) (n : ℕ) → sized ds ≡ Ok n → (n ≡ product_of (sizes_in ds)) × IsBetween 1 max_size n
sized_is [] n e = let same : 1 ≡ n = cc in (sym same, subst (IsBetween 1 max_size) same (omega arith, omega arith))
sized_is (d ∷ []) n e =
    let s = passes (within Size d.size) (Ok d.size) n e in
    let same : d.size ≡ n = cc in
    (sym same, subst (IsBetween 1 max_size) same (within_is Size d.size s.0))
sized_is (d ∷ f ∷ ds) n e =
    let s = passes (sizes_within (d ∷ f ∷ ds)) (products_within 1 (d ∷ f ∷ ds)) n e in
    let p = products_are 1 d (f ∷ ds) n s.1 in
    let one : 1 * product_of (sizes_in (d ∷ f ∷ ds)) ≡ product_of (sizes_in (d ∷ f ∷ ds)) = omega arith in
    (p.0 ∙ one, (omega (arith, p.1.0), p.1.1))

roots_are : (m : ℕ) (ds : List Dimension) → roots_below m ds ≡ passed → All (λ w. w < m) (roots_in ds)
roots_are m [] e = All-nil (λ w. w < m)
roots_are m (d ∷ ds) e =
    let s = passes (below Root d.root m) (roots_below m ds) tt e in
    All-cons (λ w. w < m) d.root (roots_in ds) (below_is Root d.root m s.0) (roots_are m ds s.1)

-- ---- a request in range

size_said : (r : Request) (ds : Dimensions) → IsSaid r ds → r.size ≡ product_of (sizes_in (dims_by r.size r.root ds))
size_said r One said = refl
size_said r (Two a b) said = said.size
size_said r (Three a b c) said = said.size
size_said r (Four a b c d) said = said.size

root_said : (r : Request) (ds : Dimensions) → IsSaid r ds → 2 ≤ r.modulus
    → roots_below r.modulus (dims_by r.size r.root ds) ≡ passed → r.root < r.modulus
root_said r One said some e = below_is Root r.root r.modulus (passes (below Root r.root r.modulus) passed tt e).0
root_said r (Two a b) said some e = omega (arith, said.root, some)
root_said r (Three a b c) said some e = omega (arith, said.root, some)
root_said r (Four a b c d) said some e = omega (arith, said.root, some)

-- several dimensions, which all passed
several_by : (r : Request) (ds : Dimensions) (n : ℕ) → IsSaid r ds → sized (dims_by r.size r.root ds) ≡ Ok n
    → (IsProduct r ds → sizes_within (dims_by r.size r.root ds) ≡ passed → IsSeveral r) → AreDimensions r ds
several_by r One n said e all = tt
several_by r (Two a b) n said e all =
    all said (passes (sizes_within (a ∷ b ∷ [])) (products_within 1 (a ∷ b ∷ [])) n e).0
several_by r (Three a b c) n said e all =
    all said (passes (sizes_within (a ∷ b ∷ c ∷ [])) (products_within 1 (a ∷ b ∷ c ∷ [])) n e).0
several_by r (Four a b c d) n said e all =
    all said (passes (sizes_within (a ∷ b ∷ c ∷ d ∷ [])) (products_within 1 (a ∷ b ∷ c ∷ d ∷ [])) n e).0

pub in_range : (r : Request) → IsSaid r r.dimensions → tested r ≡ Ok tt → IsInRange r
unfolding limited
in_range r said e =
    let s0 = gives (sized (dims_of r)) (limited r) tt e in
    let s1 = passes (within Mod r.modulus) _ tt s0.2 in
    let s2 = passes (roots_below r.modulus (dims_of r)) _ tt s1.1 in
    let s3 = passes (within Procs r.procs) _ tt s2.1 in
    let s4 = passes (within Line r.line) _ tt s3.1 in
    let s5 = passes (within Lanes r.lanes) _ tt s4.1 in
    let s6 = passes (within Unroll r.unroll) _ tt s5.1 in
    let s7 = passes (within Budget r.budget) _ tt s6.1 in
    let s8 = passes (within Weight r.weight) _ tt s7.1 in
    let s9 = passes (shaped r.kind r.size) _ tt s8.1 in
    let s10 = passes (divided r.procs r.line r.lanes) _ tt s9.1 in
    let sizes = sized_is (dims_of r) s0.0 s0.1 in
    let size : IsBetween 1 max_size r.size =
    subst (IsBetween 1 max_size) (sizes.0 ∙ sym (size_said r r.dimensions said)) sizes.1 in
    let modulus = within_is Mod r.modulus s1.0 in
    record {
      size = size;
      modulus = modulus;
      root = root_said r r.dimensions said modulus.0 s2.0;
      procs = within_is Procs r.procs s3.0;
      line = within_is Line r.line s4.0;
      lanes = within_is Lanes r.lanes s5.0;
      unroll = within_is Unroll r.unroll s6.0;
      budget = within_is Budget r.budget s7.0;
      weight = within_is Weight r.weight s8.0;
      shape = shaped_is r.kind r.size s9.0;
      lanes_in_line = divided_is r.procs r.line r.lanes s10.0;
      unit = divisible_is r.kind r.size r.modulus size.0 s10.1;
      dimensions = several_by r r.dimensions s0.0 said s0.1 (λ p all. record {
        kind = p.kind;
        size = p.size;
        root = p.root;
        sizes = sizes_are (dims_of r) all;
        roots = roots_are r.modulus (dims_of r) s2.0;
      });
    }
