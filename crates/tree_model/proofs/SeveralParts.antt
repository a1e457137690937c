-- The trees of several dimensions: a dim of a tree for the first dimension and one for the others.
use Rattle.std.proofs.Common.{◌≡◌, ◌≢◌, ◌+◌, ◌*◌, ◌≤◌, true, false, inl, inr, arith, refl, sym, ap₂, ◌∙◌, subst}
use Rattle.matrix_meaning.specs.declared.Dimensions.{Dimensions}
use Rattle.matrix_meaning.specs.declared.Dimensions.TheVariants.{One, Two, Three, Four}
use Rattle.matrix_meaning.specs.declared.Kind.TheVariants.{Dft, Idft}
use Rattle.matrix_meaning.specs.declared.Request.{Request}
use Rattle.matrix_meaning.specs.Parts.{first_in, first_of, rest_in, rest_of}
use Rattle.matrix_meaning.specs.Valid.{IsInRange}
use Rattle.matrix_meaning.proofs.Parts.{first_at_least_two, first_kind, parts_size, rest_at_least_two, rest_kind}
use Rattle.matrix_meaning.proofs.Parts.{several_kind}
use Rattle.tree_model.specs.declared.tree.Rule.TheVariants.{Gt, Ct, Split, Dim}
use Rattle.tree_model.specs.Admissible.{Fits}
use Rattle.tree_model.specs.Breakdown.{Breakdown, leaf, node, size_of}
use Rattle.tree_model.specs.Chosen.{CanDivideBy, CanDivideWhole, IsWholeTree, SharesDimensions, whole_cost}
use Rattle.tree_model.specs.Cost.{is_plain}
use Rattle.tree_model.specs.Laws.{WholeOfParts}
use Rattle.tree_model.specs.Whole.{IsTreeOf, cost_in}
use Rattle.tree_model.proofs.Sharing.{shares_of_whole}
use Rattle.tree_model.proofs.WholeTrees.{cost_itself, forward_itself}

-- ---- both parts

-- a request for a Fourier transform is no inverse
pub dft_forward : (c : Request) → c.kind ≡ Dft → c.kind ≢ Idft
dft_forward c e f = let clash : Dft ≡ Idft = sym e ∙ f in cc

-- nor is one of several dimensions
pub several_forward : (c : Request) → IsInRange c → c.dimensions ≢ One → c.kind ≢ Idft
several_forward c range several = dft_forward c (several_kind c range several)

-- a request for a Fourier transform on one processor and one lane
pub record IsPlainDft (p : Request) : Type 0 where
  pub kind : p.kind ≡ Dft
  pub plain : is_plain p ≡ true

first_plain : (c : Request) (ds : Dimensions) → ds ≢ One → is_plain (first_in c ds) ≡ true
first_plain c One h = absurd (h refl)
first_plain c (Two a b) h = refl
first_plain c (Three a b d) h = refl
first_plain c (Four a b d e) h = refl

rest_plain : (c : Request) (ds : Dimensions) → ds ≢ One → is_plain (rest_in c ds) ≡ true
rest_plain c One h = absurd (h refl)
rest_plain c (Two a b) h = refl
rest_plain c (Three a b d) h = refl
rest_plain c (Four a b d e) h = refl

pub first_part : (c : Request) → c.dimensions ≢ One → IsPlainDft (first_of c)
first_part c h = record { kind = first_kind c h; plain = first_plain c c.dimensions h }

pub rest_part : (c : Request) → c.dimensions ≢ One → IsPlainDft (rest_of c)
rest_part c h = record { kind = rest_kind c h; plain = rest_plain c c.dimensions h }

-- ---- trees

-- a part admits each of its trees of its size
pub part_whole : (p : Request) (t : Breakdown) → IsPlainDft p → IsTreeOf p t → size_of t ≡ p.size → IsWholeTree p t
part_whole p t part h size = record {
  tree = subst (λ q. IsTreeOf q t) (sym (forward_itself p (dft_forward p part.kind))) h;
  size = size;
  root = λ spread. let clash : true ≡ false = sym part.plain ∙ spread in cc;
}

-- and these are trees of it
pub part_tree : (p : Request) (t : Breakdown) → IsPlainDft p → IsWholeTree p t → IsTreeOf p t
part_tree p t part h = subst (λ q. IsTreeOf q t) (forward_itself p (dft_forward p part.kind)) h.tree

abbrev IsMadeOfParts : Request → Breakdown → Type 0
IsMadeOfParts c t = (a b : Breakdown) × (t ≡ node Dim a b) × IsWholeTree (first_of c) a × IsWholeTree (rest_of c) b

made_of_parts : (c : Request) (t : Breakdown) → c.dimensions ≢ One → IsTreeOf c t → IsMadeOfParts c t
made_of_parts c (leaf d) several h = absurd (several h.0)
made_of_parts c (node Gt a b) several h = absurd (several h.2.0)
made_of_parts c (node Ct a b) several h = absurd (several h.2.0)
made_of_parts c (node Split a b) several h = absurd (several h.2.0)
made_of_parts c (node Dim a b) several h = (
  a,
  b,
  refl,
  part_whole (first_of c) a (first_part c several) h.3 h.2.1,
  part_whole (rest_of c) b (rest_part c several) h.4 h.2.2,
)

pub whole_of_parts : WholeOfParts
whole_of_parts c t range several h =
    made_of_parts c t several (subst (λ q. IsTreeOf q t) (forward_itself c (several_forward c range several)) h.tree)

-- a dim of trees that the parts admit, which processors and lanes may share
pub whole_of_dim : (c : Request) (a b : Breakdown) → IsInRange c → c.dimensions ≢ One →
    (is_plain c ≡ false → Fits c (size_of a) (size_of b)) →
    IsWholeTree (first_of c) a → IsWholeTree (rest_of c) b → IsWholeTree c (node Dim a b)
whole_of_dim c a b range several fits left right =
    let tree : IsTreeOf c (node Dim a b) = (
      subst (λ n. 2 ≤ n) (sym left.size) (first_at_least_two c range several),
      subst (λ n. 2 ≤ n) (sym right.size) (rest_at_least_two c range several),
      (several, left.size, right.size),
      part_tree (first_of c) a (first_part c several) left,
      part_tree (rest_of c) b (rest_part c several) right,
    ) in
    record {
      tree = subst (λ q. IsTreeOf q (node Dim a b)) (sym (forward_itself c (several_forward c range several))) tree;
      size = ap₂ (λ r s. r * s) left.size right.size ∙ sym (parts_size c range several);
      root = fits;
    }

fits_of_shares : (c : Request) → SharesDimensions c → is_plain c ≡ false → Fits c (first_of c).size (rest_of c).size
fits_of_shares c (inl plain) spread = let clash : true ≡ false = sym plain ∙ spread in cc
fits_of_shares c (inr fits) spread = fits

-- where the dimensions can be shared, a dim of trees that the parts admit is admitted
pub whole_by_parts : (c : Request) (a b : Breakdown) → IsInRange c → c.dimensions ≢ One → CanDivideWhole c →
    IsWholeTree (first_of c) a → IsWholeTree (rest_of c) b → IsWholeTree c (node Dim a b)
whole_by_parts c a b range several can left right =
    whole_of_dim c a b range several
    (λ spread. subst (λ r. Fits c r (size_of b)) (sym left.size)
    (subst (λ s. Fits c (first_of c).size s) (sym right.size) (fits_of_shares c (shares_of_whole c several can) spread)))
    left right

-- a request on one processor and one lane can be divided
pub plain_by : (c : Request) (ds : Dimensions) → is_plain c ≡ true → CanDivideBy c ds
plain_by c One plain = inl plain
plain_by c (Two a b) plain = inl plain
plain_by c (Three a b d) plain = inl plain
plain_by c (Four a b d e) plain = inl plain

-- ---- costs

pub part_cost : (p : Request) (t : Breakdown) → IsPlainDft p → whole_cost p t ≡ cost_in p t
part_cost p t part = cost_itself p t (dft_forward p part.kind)

-- a dim costs what its parts do, each for all places of the other
pub dim_cost : (c : Request) (a b : Breakdown) → IsInRange c → c.dimensions ≢ One → IsWholeTree (first_of c) a →
    IsWholeTree (rest_of c) b →
    whole_cost c (node Dim a b)
    ≡ (rest_of c).size * whole_cost (first_of c) a + (first_of c).size * whole_cost (rest_of c) b
dim_cost c a b range several left right =
    let whole : whole_cost c (node Dim a b) ≡ cost_in c (node Dim a b) =
    cost_itself c (node Dim a b) (several_forward c range several) in
    let sum : cost_in c (node Dim a b) ≡ size_of b * cost_in (first_of c) a + size_of a * cost_in (rest_of c) b =
    omega arith in
    whole ∙ sum
    ∙ ap₂ (λ r s. s * cost_in (first_of c) a + r * cost_in (rest_of c) b) left.size right.size
    ∙ ap₂ (λ x y. (rest_of c).size * x + (first_of c).size * y)
    (sym (part_cost (first_of c) a (first_part c several))) (sym (part_cost (rest_of c) b (rest_part c several)))
