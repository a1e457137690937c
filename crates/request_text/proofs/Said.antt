-- What a line says of every request that it spells.
use Rattle.std.proofs.Common.{◌≡◌, ℕ, suc, ◌≤◌, List, [], ◌∷◌, length, map, refl, sym, ap, ◌∙◌, subst, arith, codes}
use Rattle.std.proofs.Common.{◌^◌}
use Rattle.matrix_meaning.specs.declared.Dimension.{Dimension}
use Rattle.matrix_meaning.specs.declared.Dimensions.{Dimensions}
use Rattle.matrix_meaning.specs.declared.Dimensions.TheVariants.{One, Two, Three, Four}
use Rattle.matrix_meaning.specs.declared.Kind.{Kind}
use Rattle.matrix_meaning.specs.declared.Kind.TheVariants.{Dft, Wht, Idft}
use Rattle.matrix_meaning.specs.declared.Request.{Request}
use Rattle.matrix_meaning.specs.Dimensions.{dims_by, product_of}
use Rattle.request_text.specs.ConvLine.{conv_line}
use Rattle.request_text.specs.Line.{dimensions, more_sizes, request_line, request_of, rooted, rootless}
use Rattle.schedules.proofs.ScheduleWord.{few_more}

abbrev pub sizes_in : List Dimension → List ℕ
sizes_in ds = map (λ (d : Dimension). d.size) ds

abbrev pub roots_in : List Dimension → List ℕ
roots_in ds = map (λ (d : Dimension). d.root) ds

-- its size is the product of those of its dimensions
pub record IsProduct (r : Request) (ds : Dimensions) : Type 0 where
  pub kind : r.kind ≡ Dft
  pub size : r.size ≡ product_of (sizes_in (dims_by r.size r.root ds))
  pub root : r.root ≡ 1

-- where there are several
abbrev pub IsSaid : Request → Dimensions → Type 0
IsSaid r One = Unit {0}
IsSaid r (Two a b) = IsProduct r (Two a b)
IsSaid r (Three a b c) = IsProduct r (Three a b c)
IsSaid r (Four a b c d) = IsProduct r (Four a b c d)

said_of : (kind : Kind) (ds : List Dimension) (modulus : ℕ) (options : List ℕ) → (2 ≤ length ds → kind ≡ Dft)
    → length ds ≤ 4
    → (let r = request_of kind ds modulus options in IsSaid r r.dimensions)
said_of kind [] modulus options dft few = tt
said_of kind (a ∷ []) modulus options dft few = tt
said_of kind (a ∷ b ∷ []) modulus options dft few = record { kind = dft (omega arith); size = refl; root = refl }
said_of kind (a ∷ b ∷ c ∷ []) modulus options dft few = record { kind = dft (omega arith); size = refl; root = refl }
said_of kind (a ∷ b ∷ c ∷ d ∷ []) modulus options dft few =
    record { kind = dft (omega arith); size = refl; root = refl }
said_of kind (a ∷ b ∷ c ∷ d ∷ e ∷ others) modulus options dft few = absurd (omega (arith, few))

-- ---- how many dimensions there are

rooted_many : (word sizes text : List ℕ) (ds : List Dimension) → rooted word sizes text ds → length ds ≡ length sizes
rooted_many word [] text ds l = ap length l.1
rooted_many word (n ∷ sizes) text ds l =
    ap length l.ends.ends.1 ∙ ap suc (rooted_many (codes "x") sizes l.ends.front l.ends.spelt l.ends.begins)

rootless_many : (sizes : List ℕ) → length (map rootless sizes) ≡ length sizes
rootless_many [] = refl
rootless_many (n ∷ sizes) = ap suc (rootless_many sizes)

many_dimensions : (kind : Kind) (sizes text : List ℕ) (ds : List Dimension) → dimensions kind sizes text ds
    → length ds ≡ length sizes
many_dimensions Dft sizes text ds l = rooted_many (codes " root ") sizes text ds l
many_dimensions Wht sizes text ds l = ap length l.1 ∙ rootless_many sizes
many_dimensions Idft sizes text ds l = rooted_many (codes " root ") sizes text ds l

several_kind : (kind : Kind) (n : ℕ) → n ≤ suc (more_sizes kind) → 2 ≤ n → kind ≡ Dft
several_kind Dft n few several = refl
several_kind Wht n few several = absurd (omega (arith, few, several))
several_kind Idft n few several = absurd (omega (arith, few, several))

four_at_most : (kind : Kind) (n : ℕ) → n ≤ suc (more_sizes kind) → n ≤ 4
four_at_most Dft n few = omega (arith, few)
four_at_most Wht n few = omega (arith, few)
four_at_most Idft n few = omega (arith, few)

pub request_said : (text : List ℕ) (r : Request) → request_line text r → IsSaid r r.dimensions
request_said text r l =
    let kind : Kind = l.spelt in
    let sizes = l.ends.begins in
    let ds = l.ends.ends.ends.spelt in
    let same = l.ends.ends.ends.ends.ends.1 in
    let more = few_more (codes "x") (2 ^ 64) (more_sizes kind) sizes.ends.front sizes.ends.spelt sizes.ends.begins in
    let few : length ds ≤ suc (more_sizes kind) =
    omega (
      arith,
      many_dimensions kind l.ends.spelt l.ends.ends.ends.front ds l.ends.ends.ends.begins,
      ap length sizes.ends.ends.1,
      more,
    ) in
    subst (λ (q : Request). IsSaid q q.dimensions) (sym same)
    (said_of kind ds l.ends.ends.spelt l.ends.ends.ends.ends.spelt (several_kind kind (length ds) few)
    (four_at_most kind (length ds) few))

-- ---- of a convolution

pub record IsAlone (r : Request) : Type 0 where
  pub kind : r.kind ≡ Dft
  pub dimensions : r.dimensions ≡ One
  pub procs : r.procs ≡ 1
  pub line : r.line ≡ 1
  pub lanes : r.lanes ≡ 1

pub conv_said : (text : List ℕ) (r : Request) → conv_line text r → IsAlone r
conv_said text r l =
    let e = l.ends.ends.ends.ends.1 in record {
      kind = ap (λ q. q.kind) e;
      dimensions = ap (λ q. q.dimensions) e;
      procs = ap (λ q. q.procs) e;
      line = ap (λ q. q.line) e;
      lanes = ap (λ q. q.lanes) e;
    }
