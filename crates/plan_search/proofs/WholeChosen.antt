-- The chosen tree of a request of any kind, of one size or of several dimensions.
use Rattle.std.proofs.Common.{◌≡◌, ◌≢◌, ℕ, ◌≤◌, true, refl, sym, ap, ◌∙◌, subst, inl, inr, arith}
use Rattle.std.proofs.lemmas.Bool.{cases_Bool}
use Rattle.matrix_meaning.specs.declared.Dimension.{Dimension}
use Rattle.matrix_meaning.specs.declared.Dimensions.{Dimensions}
use Rattle.matrix_meaning.specs.declared.Dimensions.TheVariants.{One, Two, Three, Four}
use Rattle.matrix_meaning.specs.declared.Kind.{Kind}
use Rattle.matrix_meaning.specs.declared.Kind.TheVariants.{Dft, Wht, Idft}
use Rattle.matrix_meaning.specs.declared.Request.{Request}
use Rattle.matrix_meaning.specs.Parts.{first_in, first_of, forward_by, forward_of, inverted, rest_in, rest_of}
use Rattle.matrix_meaning.specs.Valid.{HasShape, IsInRange}
use Rattle.matrix_meaning.proofs.Parts.{first_in_range, first_is_one, rest_in_range}
use Rattle.tree_model.specs.declared.tree.Rule.TheVariants.{Gt, Ct, Split, Dim}
use Rattle.tree_model.specs.Admissible.{CanDivide, Fits, IsChosen, RootFits}
use Rattle.tree_model.specs.Breakdown.{Breakdown, leaf, node, size_of}
use Rattle.tree_model.specs.Chosen.{CanDivideBy, CanDivideWhole, IsWholeChosen, IsWholeLeast, IsWholeTree}
use Rattle.tree_model.specs.Chosen.{SharesDimensions, whole_cost}
use Rattle.tree_model.specs.Whole.{IsTreeOf}
use Rattle.tree_model.specs.Cost.{is_plain}
use Rattle.tree_model.proofs.ChosenParts.{chosen_of_parts}
use Rattle.tree_model.proofs.SeveralParts.{first_part, rest_part, plain_by}
use Rattle.tree_model.proofs.Sharing.{divide_of_whole}
use Rattle.tree_model.proofs.WholeTrees.{chosen_of_one, forward_dimensions}
use Rattle.plan_search.proofs.BestTrees.{chosen_of_shape}

-- ---- requests that divide

pub divides_plain : (c : Request) → is_plain c ≡ true → CanDivideWhole c
divides_plain c plain = plain_by c c.dimensions plain

pub rest_divides : (c : Request) → c.dimensions ≢ One → CanDivideWhole (rest_of c)
rest_divides c several = divides_plain (rest_of c) (rest_part c several).plain

by_divides : (kind : Kind) (c : Request) → CanDivide c → CanDivide (forward_by kind c)
by_divides Dft c can = can
by_divides Wht c can = can
by_divides Idft c (inl plain) = inl plain
by_divides Idft c (inr (r, s, f)) =
    inr (r, s, record { left = f.left; right = f.right; product = f.product; procs = f.procs; lanes = f.lanes })

-- the forward request divides where the request does
pub forward_divides : (c : Request) → CanDivide c → CanDivide (forward_of c)
forward_divides c can = by_divides c.kind c can

are_several : (c : Request) (ds : Dimensions) → c.dimensions ≡ ds → ds ≢ One → c.dimensions ≢ One
are_several c ds e several one = several (sym e ∙ one)

-- ---- a request with a tree divides, in range or not

by_first : (kind : Kind) (c : Request) (ds : Dimensions) → (first_in (forward_by kind c) ds).size ≡ (first_in c ds).size
by_first Dft c ds = refl
by_first Wht c ds = refl
by_first Idft c One = refl
by_first Idft c (Two a b) = refl
by_first Idft c (Three a b d) = refl
by_first Idft c (Four a b d e) = refl

by_rest : (kind : Kind) (c : Request) (ds : Dimensions) → (rest_in (forward_by kind c) ds).size ≡ (rest_in c ds).size
by_rest Dft c ds = refl
by_rest Wht c ds = refl
by_rest Idft c One = refl
by_rest Idft c (Two a b) = refl
by_rest Idft c (Three a b d) = refl
by_rest Idft c (Four a b d e) = refl

-- the parts of the forward request have the sizes of those of the request
forward_first : (c : Request) → (first_of (forward_of c)).size ≡ (first_of c).size
forward_first c =
    ap (λ (ds : Dimensions). (first_in (forward_of c) ds).size) (forward_dimensions c) ∙ by_first c.kind c c.dimensions

forward_rest : (c : Request) → (rest_of (forward_of c)).size ≡ (rest_of c).size
forward_rest c =
    ap (λ (ds : Dimensions). (rest_in (forward_of c) ds).size) (forward_dimensions c) ∙ by_rest c.kind c c.dimensions

root_divides : (c : Request) (t : Breakdown) → RootFits c t → CanDivide c
root_divides c (leaf d) fits = absurd fits
root_divides c (node Gt a b) fits = absurd fits
root_divides c (node Ct a b) fits = inr (size_of a, size_of b, fits)
root_divides c (node Split a b) fits = inr (size_of a, size_of b, fits)
root_divides c (node Dim a b) fits = inr (size_of a, size_of b, fits)

-- of several dimensions the root is a dim of their sizes
root_shares : (c : Request) (t : Breakdown) → c.dimensions ≢ One → IsTreeOf (forward_of c) t → RootFits c t
    → Fits c (first_of c).size (rest_of c).size
root_shares c (leaf d) several h fits = absurd fits
root_shares c (node Gt a b) several h fits = absurd fits
root_shares c (node Ct a b) several h fits = absurd (several (sym (forward_dimensions c) ∙ h.2.0))
root_shares c (node Split a b) several h fits = absurd (several (sym (forward_dimensions c) ∙ h.2.0))
root_shares c (node Dim a b) several h fits =
    subst (λ r. Fits c r (rest_of c).size) (h.2.1 ∙ forward_first c)
    (subst (λ s. Fits c (size_of a) s) (h.2.2 ∙ forward_rest c) fits)

one_divides : (c : Request) (t : Breakdown) → IsWholeTree c t → CanDivide c
one_divides c t h = elim (cases_Bool (is_plain c)) [
  | inl plain ↦ inl plain
  | inr spread ↦ root_divides c t (h.root spread)
]

tree_shares : (c : Request) (t : Breakdown) → c.dimensions ≢ One → IsWholeTree c t → SharesDimensions c
tree_shares c t several h = elim (cases_Bool (is_plain c)) [
  | inl plain ↦ inl plain
  | inr spread ↦ inr (root_shares c t several h.tree (h.root spread))
]

tree_divides : (c : Request) (ds : Dimensions) (t : Breakdown) → c.dimensions ≡ ds → IsWholeTree c t → CanDivideBy c ds
tree_divides c One t e h = one_divides c t h
tree_divides c (Two a b) t e h = tree_shares c t (are_several c (Two a b) e (λ i. cc)) h
tree_divides c (Three a b d) t e h = tree_shares c t (are_several c (Three a b d) e (λ i. cc)) h
tree_divides c (Four a b d f) t e h = tree_shares c t (are_several c (Four a b d f) e (λ i. cc)) h

pub whole_divides : (c : Request) (t : Breakdown) → IsWholeTree c t → CanDivideWhole c
whole_divides c t h = tree_divides c c.dimensions t refl h

-- the dimensions of the rest, where the dimensions are named
rest_are : (c : Request) (ds : Dimensions) → c.dimensions ≡ ds → (rest_of c).dimensions ≡ (rest_in c ds).dimensions
rest_are c ds e = ap (λ es. (rest_in c es).dimensions) e

-- ---- there is a chosen tree

abbrev HasChosen : Request → Type 0
HasChosen c = (t : Breakdown) × IsWholeChosen c t

no_inverse : (c : Request) (kind : Kind) → c.kind ≡ kind → kind ≢ Idft → c.kind ≢ Idft
no_inverse c kind e proper i = proper (sym e ∙ i)

by_exists : (kind : Kind) (c : Request) → c.kind ≡ kind → 1 ≤ c.size → HasShape kind c.size →
    CanDivide (forward_by kind c) → (t : Breakdown) × IsChosen (forward_by kind c) t
by_exists Dft c e low shape can =
    let proper = no_inverse c Dft e (λ i. cc) in
    chosen_of_shape c proper low (subst (λ (k : Kind). HasShape k c.size) (sym e) shape) can
by_exists Wht c e low shape can =
    let proper = no_inverse c Wht e (λ i. cc) in
    chosen_of_shape c proper low (subst (λ (k : Kind). HasShape k c.size) (sym e) shape) can
by_exists Idft c e low shape can = chosen_of_shape (inverted c) (λ i. let clash : Dft ≡ Idft = i in cc) low tt can

one_exists : (c : Request) → IsInRange c → c.dimensions ≡ One → CanDivide c → HasChosen c
one_exists c range one can =
    let flat = by_exists c.kind c refl range.size.0 range.shape (forward_divides c can) in
    (flat.0, (chosen_of_one c flat.0 one).1 flat.1)

-- with a chosen tree for the dimensions after the first
dim_exists : (c : Request) → IsInRange c → c.dimensions ≢ One → CanDivideWhole c → HasChosen (rest_of c) → HasChosen c
dim_exists c range several can rest =
    let plain = (first_part c several).plain in
    let first = one_exists (first_of c) (first_in_range c range several) (first_is_one c several) (inl plain) in
    (node Dim first.0 rest.0, (chosen_of_parts c first.0 rest.0 range several can).1 (first.1, rest.1))

two_exists : (c : Request) (a b : Dimension) → c.dimensions ≡ Two a b → IsInRange c → CanDivideWhole c → HasChosen c
two_exists c a b e range can =
    let several = are_several c (Two a b) e (λ i. cc) in
    let plain = (rest_part c several).plain in
    dim_exists c range several can
    (one_exists (rest_of c) (rest_in_range c range several) (rest_are c (Two a b) e) (inl plain))

three_exists : (c : Request) (a b d : Dimension) → c.dimensions ≡ Three a b d → IsInRange c → CanDivideWhole c →
    HasChosen c
three_exists c a b d e range can =
    let ds = Three a b d in
    let several = are_several c ds e (λ i. cc) in
    dim_exists c range several can
    (two_exists (rest_of c) b d (rest_are c ds e) (rest_in_range c range several) (rest_divides c several))

four_exists : (c : Request) (a b d f : Dimension) → c.dimensions ≡ Four a b d f → IsInRange c → CanDivideWhole c →
    HasChosen c
four_exists c a b d f e range can =
    let ds = Four a b d f in
    let several = are_several c ds e (λ i. cc) in
    dim_exists c range several can
    (three_exists (rest_of c) b d f (rest_are c ds e) (rest_in_range c range several) (rest_divides c several))

exists_by : (c : Request) (ds : Dimensions) → c.dimensions ≡ ds → IsInRange c → CanDivideWhole c → HasChosen c
exists_by c One e range can = one_exists c range e (divide_of_whole c e can)
exists_by c (Two a b) e range can = two_exists c a b e range can
exists_by c (Three a b d) e range can = three_exists c a b d e range can
exists_by c (Four a b d f) e range can = four_exists c a b d f e range can

-- a request in range that divides has a chosen tree
pub whole_exists : (c : Request) → IsInRange c → CanDivideWhole c → (t : Breakdown) × IsWholeChosen c t
whole_exists c range can = exists_by c c.dimensions refl range can

-- ---- the least cost

-- the chosen tree has it
pub whole_is_least : (c : Request) (t : Breakdown) → IsWholeChosen c t → IsWholeLeast c (whole_cost c t)
whole_is_least c t h = record { reached = (t, h.tree, refl); bound = h.least }

whole_reached : (c : Request) (j k : ℕ) → IsWholeLeast c j → IsWholeLeast c k → j ≤ k
whole_reached c j k h l =
    let le : j ≤ whole_cost c l.reached.0 = h.bound l.reached.0 l.reached.1 in omega (arith, le, l.reached.2)

pub whole_least_once : (c : Request) (j k : ℕ) → IsWholeLeast c j → IsWholeLeast c k → j ≡ k
whole_least_once c j k h l =
    let left : j ≤ k = whole_reached c j k h l in
    let right : k ≤ j = whole_reached c k j l h in
    omega (arith, left, right)
