-- The passes of a request's tree have its cost.
use Rattle.std.proofs.Common.{◌≡◌, ◌≢◌, ℕ, ◌+◌, ◌*◌, Bool, true, false, List, [], ◌∷◌, ◌++◌, arith, if◌then◌else◌}
use Rattle.std.proofs.Common.{nat_le, refl, sym, ap, ap₂, ◌∙◌, subst}
use Rattle.std.specs.Prelude.{map, sum_by}
use Rattle.std.proofs.lemmas.List.Sums.{sum_by-append, sum_by-cons}
use Rattle.matrix_meaning.specs.declared.Dimensions.TheVariants.{One}
use Rattle.matrix_meaning.specs.declared.Kind.{Kind}
use Rattle.matrix_meaning.specs.declared.Kind.TheVariants.{Dft, Wht, Idft}
use Rattle.matrix_meaning.specs.declared.Request.{Request}
use Rattle.matrix_meaning.specs.Parts.{first_of, forward_by, forward_of, rest_of}
use Rattle.matrix_meaning.proofs.Parts.{first_is_one}
use Rattle.tree_model.specs.declared.tree.Rule.{Rule}
use Rattle.tree_model.specs.declared.tree.Rule.TheVariants.{Gt, Ct, Split, Dim}
use Rattle.tree_model.specs.Breakdown.{Breakdown, leaf, node, size_of, IsWellFormed}
use Rattle.tree_model.specs.Chosen.{IsWholeTree, closing_by, closing_cost, whole_cost}
use Rattle.tree_model.specs.Cost.{cost_of, is_kernel, is_plain, mul_cost_of}
use Rattle.tree_model.specs.Laws.{PassesDoTheCost}
use Rattle.tree_model.specs.Passes.{Pass, nodes, tiles, pass_cost, passes_cost, passes_of, tiled_passes, twiddle_by}
use Rattle.tree_model.specs.Passes.{twiddle_last, whole_passes, with_twiddles}
use Rattle.tree_model.specs.Whole.{IsTreeOf, cost_in}
use Rattle.tree_model.specs.WholePasses.{RequestPass, pass_of, closed_by, cost_of_pass, flat_passes, node_passes}
use Rattle.tree_model.specs.WholePasses.{pass_cost_in, passes_in, request_passes, shared_passes}
use Rattle.tree_model.proofs.FlatTrees.{flat_costs, tree_of_one, well_formed}
use Rattle.tree_model.proofs.PassLaws.{IsPlainAtEnd, passes_cost_of, passes_plain, plain_append, twiddle_last_cost}
use Rattle.tree_model.proofs.PassLaws.{whole_passes_cost, plain_pick}
use Rattle.tree_model.proofs.SeveralParts.{several_forward}
use Rattle.tree_model.proofs.WholeTrees.{admissible_of_whole, cost_itself, cost_of_one, forward_dimensions}
use Rattle.tree_model.proofs.WholeTrees.{forward_itself, forward_size}

-- ---- passes of one size: their trees cost the same in either word

abbrev HasCost : Request → Pass → Type 0
HasCost p (nodes count tree t) = cost_in p tree ≡ cost_of p tree
HasCost p (tiles t) = Unit {0}

abbrev HaveCosts : Request → List Pass → Type 0
HaveCosts p [] = Unit {0}
HaveCosts p (q ∷ qs) = HasCost p q × HaveCosts p qs

have_append : (p : Request) (ps qs : List Pass) → HaveCosts p ps → HaveCosts p qs → HaveCosts p (ps ++ qs)
have_append p [] qs h k = k
have_append p (q ∷ ps) qs h k = (h.0, have_append p ps qs h.1 k)

has_twiddled : (p : Request) (q : Pass) → HasCost p q → HasCost p (with_twiddles q)
has_twiddled p (nodes count tree t) h = h
has_twiddled p (tiles t) h = h

have_last : (p : Request) (ps : List Pass) → HaveCosts p ps → HaveCosts p (twiddle_last ps)
have_last p [] h = h
have_last p (q ∷ []) h = (has_twiddled p q h.0, tt)
have_last p (q ∷ r ∷ ps) h = (h.0, have_last p (r ∷ ps) h.1)

have_by : (p : Request) (rule : Rule) (ps : List Pass) → HaveCosts p ps → HaveCosts p (twiddle_by rule ps)
have_by p Gt ps h = h
have_by p Ct ps h = have_last p ps h
have_by p Split ps h = h
have_by p Dim ps h = h

have_pick : (p : Request) (b : Bool) (ps qs : List Pass) → HaveCosts p ps → HaveCosts p qs →
    HaveCosts p (if b then ps else qs)
have_pick p true ps qs h k = h
have_pick p false ps qs h k = k

module _ (p : Request) (one : p.dimensions ≡ One) where
  have_of : (count : ℕ) (t : Breakdown) → IsWellFormed p.kind t → HaveCosts p (passes_of p count t)
  have_of count (leaf d) h = (refl, tt)
  have_of count (node rule a b) h =
      have_pick p (is_kernel p (size_of a * size_of b)) (nodes count (node rule a b) false ∷ [])
      (twiddle_by rule (passes_of p (count * size_of a) b) ++ passes_of p (count * size_of b) a)
      (flat_costs p (node rule a b) one (tree_of_one p (node rule a b) one h), tt)
      (have_append p (twiddle_by rule (passes_of p (count * size_of a) b)) (passes_of p (count * size_of b) a)
      (have_by p rule (passes_of p (count * size_of a) b) (have_of (count * size_of a) b h.2))
      (have_of (count * size_of b) a h.1))

  have_tiled : (t : Breakdown) → IsWellFormed p.kind t → HaveCosts p (tiled_passes p t)
  have_tiled (leaf d) h = have_of 1 (leaf d) h
  have_tiled (node Gt a b) h = have_of 1 (node Gt a b) h
  have_tiled (node Ct a b) h =
      have_append p (passes_of p (size_of a) b) (tiles true ∷ passes_of p (size_of b) a) (have_of (size_of a) b h.2)
      (tt, have_of (size_of b) a h.1)
  have_tiled (node Split a b) h = (
    tt,
    have_append p (passes_of p (size_of a) b) (tiles false ∷ passes_of p (size_of b) a)
        (have_of (size_of a) b h.2) (tt, have_of (size_of b) a h.1),
  )
  have_tiled (node Dim a b) h = (
    tt,
    have_append p (passes_of p (size_of a) b) (tiles false ∷ passes_of p (size_of b) a)
        (have_of (size_of a) b h.2) (tt, have_of (size_of b) a h.1),
  )

  have_whole : (t : Breakdown) → IsWellFormed p.kind t → HaveCosts p (whole_passes p t)
  have_whole t h = have_pick p (nat_le p.lanes 1) (passes_of p 1 t) (tiled_passes p t) (have_of 1 t h) (have_tiled t h)

pass_cost_is : (p : Request) (n : ℕ) (q : Pass) → HasCost p q → pass_cost_in p n q ≡ pass_cost p n q
pass_cost_is p n (nodes count tree t) h = ap (λ x. count * x + (if t then mul_cost_of p * n else 0)) h
pass_cost_is p n (tiles t) h = refl

sum_is : (p : Request) (n : ℕ) (ps : List Pass) → HaveCosts p ps →
    sum_by (cost_of_pass n) (map (pass_of p) ps) ≡ passes_cost p n ps
sum_is p n [] h = refl
sum_is p n (q ∷ ps) h =
    sum_by-cons (cost_of_pass n) (pass_of p q) (map (pass_of p) ps)
    ∙ ap₂ (λ x y. x + y) (pass_cost_is p n q h.0) (sum_is p n ps h.1)

-- ---- the last pass has no products

plain_behind : (q : Pass) (ps : List Pass) → IsPlainAtEnd ps → IsPlainAtEnd (q ∷ ps)
plain_behind q ps h = plain_append (q ∷ []) ps h

plain_tiled : (p : Request) (t : Breakdown) → IsPlainAtEnd (tiled_passes p t)
plain_tiled p (leaf d) = passes_plain p 1 (leaf d)
plain_tiled p (node Gt a b) = passes_plain p 1 (node Gt a b)
plain_tiled p (node Ct a b) =
    plain_append (passes_of p (size_of a) b) (tiles true ∷ passes_of p (size_of b) a)
    (plain_behind (tiles true) (passes_of p (size_of b) a) (passes_plain p (size_of b) a))
plain_tiled p (node Split a b) =
    plain_behind (tiles false) (passes_of p (size_of a) b ++ (tiles false ∷ passes_of p (size_of b) a))
    (plain_append (passes_of p (size_of a) b) (tiles false ∷ passes_of p (size_of b) a)
    (plain_behind (tiles false) (passes_of p (size_of b) a) (passes_plain p (size_of b) a)))
plain_tiled p (node Dim a b) =
    plain_behind (tiles false) (passes_of p (size_of a) b ++ (tiles false ∷ passes_of p (size_of b) a))
    (plain_append (passes_of p (size_of a) b) (tiles false ∷ passes_of p (size_of b) a)
    (plain_behind (tiles false) (passes_of p (size_of b) a) (passes_plain p (size_of b) a)))

pub whole_plain : (p : Request) (t : Breakdown) → IsPlainAtEnd (whole_passes p t)
whole_plain p t =
    plain_pick (nat_le p.lanes 1) (passes_of p 1 t) (tiled_passes p t) (passes_plain p 1 t) (plain_tiled p t)

-- ---- one size

have_closed : (p : Request) (kind : Kind) (ps : List Pass) → HaveCosts p ps → HaveCosts p (closed_by kind ps)
have_closed p Dft ps h = h
have_closed p Wht ps h = h
have_closed p Idft ps h = have_last p ps h

-- the products of an inverse, on top of its passes
closed_passes_cost : (kind : Kind) (c : Request) (ps : List Pass) → IsPlainAtEnd ps →
    passes_cost (forward_by kind c) c.size (closed_by kind ps)
    ≡ passes_cost (forward_by kind c) c.size ps + closing_by kind c
closed_passes_cost Dft c ps h = omega arith
closed_passes_cost Wht c ps h = omega arith
closed_passes_cost Idft c ps h = twiddle_last_cost (forward_by Idft c) c.size ps h

flat_passes_cost : (c : Request) (t : Breakdown) → c.dimensions ≡ One → IsWholeTree c t →
    sum_by (cost_of_pass c.size) (flat_passes c t) ≡ whole_cost c t
flat_passes_cost c t one h =
    let f = forward_of c in
    let ps = whole_passes f t in
    let flat : f.dimensions ≡ One = forward_dimensions c ∙ one in
    sum_is f c.size (closed_by c.kind ps) (have_closed f c.kind ps (have_whole f flat t (well_formed f t flat h.tree)))
    ∙ closed_passes_cost c.kind c ps (whole_plain f t)
    ∙ ap (λ n. passes_cost f n ps + closing_cost c) (sym (forward_size c))
    ∙ ap (λ x. x + closing_cost c) (whole_passes_cost f t (admissible_of_whole c t one h))
    ∙ sym (cost_of_one c t one h)

-- the passes of a tree of one size that stands `count` times
pub node_passes_cost : (p : Request) (count : ℕ) (t : Breakdown) (n : ℕ) → p.dimensions ≡ One → IsTreeOf p t →
    n ≡ count * size_of t →
    sum_by (cost_of_pass n) (node_passes p count t) ≡ count * cost_in p t
node_passes_cost p count t n one h is =
    sum_is p n (passes_of p count t) (have_of p one count t (well_formed p t one h))
    ∙ passes_cost_of p count t n is
    ∙ ap (λ x. count * x) (sym (flat_costs p t one h))

-- ---- several dimensions

sum_pick : (f : RequestPass → ℕ) (b : Bool) (ps qs : List RequestPass) (x : ℕ) → sum_by f ps ≡ x → sum_by f qs ≡ x →
    sum_by f (if b then ps else qs) ≡ x
sum_pick f true ps qs x h k = h
sum_pick f false ps qs x h k = k

one_pass : (p : Request) (count n : ℕ) (t : Breakdown) →
    sum_by (cost_of_pass n) (pass_of p (nodes count t false) ∷ []) ≡ count * cost_in p t
one_pass p count n t =
    let sum : sum_by (cost_of_pass n) (pass_of p (nodes count t false) ∷ []) ≡ count * cost_in p t + 0 + 0 =
    sum_by-cons (cost_of_pass n) (pass_of p (nodes count t false)) [] in
    omega (arith, sum)

-- rows, and then columns
sum_both : (f : RequestPass → ℕ) (ps qs : List RequestPass) (x y : ℕ) → sum_by f ps ≡ x → sum_by f qs ≡ y →
    sum_by f (ps ++ qs) ≡ x + y
sum_both f ps qs x y h k = sum_by-append f ps qs ∙ ap₂ (λ u v. u + v) h k

pub passes_in_cost : (p : Request) (count : ℕ) (t : Breakdown) (n : ℕ) → IsTreeOf p t → n ≡ count * size_of t →
    sum_by (cost_of_pass n) (passes_in p count t) ≡ count * cost_in p t
passes_in_cost p count (leaf d) n h is = node_passes_cost p count (leaf d) n h.0 h is
passes_in_cost p count (node Gt a b) n h is = node_passes_cost p count (node Gt a b) n h.2.0 h is
passes_in_cost p count (node Ct a b) n h is = node_passes_cost p count (node Ct a b) n h.2.0 h is
passes_in_cost p count (node Split a b) n h is = node_passes_cost p count (node Split a b) n h.2.0 h is
passes_in_cost p count (node Dim a b) n h is =
    let x = cost_in (first_of p) a in
    let y = cost_in (rest_of p) b in
    let rows = passes_in_cost (rest_of p) (count * size_of a) b n h.4 (omega (arith, is)) in
    let columns = node_passes_cost (first_of p) (count * size_of b) a n (first_is_one p h.2.0) h.3
    (omega (arith, is)) in
    let total : count * size_of a * y + count * size_of b * x ≡ count * cost_in p (node Dim a b) = omega arith in
    sum_pick (cost_of_pass n) (nat_le (size_of a * size_of b) p.unroll)
    (pass_of p (nodes count (node Dim a b) false) ∷ [])
    (passes_in (rest_of p) (count * size_of a) b ++ node_passes (first_of p) (count * size_of b) a)
    (count * cost_in p (node Dim a b))
    (one_pass p count n (node Dim a b))
    (sum_both (cost_of_pass n) (passes_in (rest_of p) (count * size_of a) b)
    (node_passes (first_of p) (count * size_of b) a) (count * size_of a * y) (count * size_of b * x)
    rows columns
    ∙ total)

-- a pass over tiles has no operations
no_cost : (c : Request) (n x : ℕ) (ps : List RequestPass) → sum_by (cost_of_pass n) ps ≡ x →
    sum_by (cost_of_pass n) (pass_of c (tiles false) ∷ ps) ≡ x
no_cost c n x ps h =
    let sum : sum_by (cost_of_pass n) (pass_of c (tiles false) ∷ ps) ≡ 0 + sum_by (cost_of_pass n) ps =
    sum_by-cons (cost_of_pass n) (pass_of c (tiles false)) ps in
    omega (arith, sum, h)

shared_cost : (c : Request) (a b : Breakdown) → IsTreeOf c (node Dim a b) → c.size ≡ size_of a * size_of b →
    sum_by (cost_of_pass c.size) (shared_passes c a b) ≡ cost_in c (node Dim a b)
shared_cost c a b h is =
    let f = cost_of_pass c.size in
    let x = cost_in (first_of c) a in
    let y = cost_in (rest_of c) b in
    let rows = passes_in (rest_of c) (size_of a) b in
    let columns = node_passes (first_of c) (size_of b) a in
    let by_rows : sum_by f rows ≡ size_of a * y = passes_in_cost (rest_of c) (size_of a) b c.size h.4 is in
    let by_columns : sum_by f columns ≡ size_of b * x =
    node_passes_cost (first_of c) (size_of b) a c.size (first_is_one c h.2.0) h.3 (omega (arith, is)) in
    let total : size_of a * y + size_of b * x ≡ cost_in c (node Dim a b) = omega arith in
    sum_pick f (nat_le c.lanes 1) (rows ++ columns)
    (pass_of c (tiles false) ∷ (rows ++ (pass_of c (tiles false) ∷ columns))) (cost_in c (node Dim a b))
    (sum_both f rows columns (size_of a * y) (size_of b * x) by_rows by_columns ∙ total)
    (no_cost c c.size (cost_in c (node Dim a b)) (rows ++ (pass_of c (tiles false) ∷ columns))
    (sum_both f rows (pass_of c (tiles false) ∷ columns) (size_of a * y) (size_of b * x) by_rows
    (no_cost c c.size (size_of b * x) columns by_columns) ∙ total))

dim_passes_cost : (c : Request) (a b : Breakdown) → IsTreeOf c (node Dim a b) → c.size ≡ size_of a * size_of b →
    sum_by (cost_of_pass c.size) (request_passes c (node Dim a b)) ≡ cost_in c (node Dim a b)
dim_passes_cost c a b h is =
    let alone : sum_by (cost_of_pass c.size) (passes_in c 1 (node Dim a b)) ≡ 1 * cost_in c (node Dim a b) =
    passes_in_cost c 1 (node Dim a b) c.size h (omega (arith, is)) in
    sum_pick (cost_of_pass c.size) (is_plain c) (passes_in c 1 (node Dim a b)) (shared_passes c a b)
    (cost_in c (node Dim a b))
    (omega (arith, alone))
    (shared_cost c a b h is)

pub passes_do_the_cost : PassesDoTheCost
passes_do_the_cost c (leaf d) valid h = flat_passes_cost c (leaf d) (sym (forward_dimensions c) ∙ h.tree.0) h
passes_do_the_cost c (node Gt a b) valid h =
    flat_passes_cost c (node Gt a b) (sym (forward_dimensions c) ∙ h.tree.2.0) h
passes_do_the_cost c (node Ct a b) valid h =
    flat_passes_cost c (node Ct a b) (sym (forward_dimensions c) ∙ h.tree.2.0) h
passes_do_the_cost c (node Split a b) valid h =
    flat_passes_cost c (node Split a b) (sym (forward_dimensions c) ∙ h.tree.2.0) h
passes_do_the_cost c (node Dim a b) valid h =
    let several : c.dimensions ≢ One = λ one. h.tree.2.0 (forward_dimensions c ∙ one) in
    let forward = several_forward c valid.in_range several in
    dim_passes_cost c a b (subst (λ p. IsTreeOf p (node Dim a b)) (forward_itself c forward) h.tree) (sym h.size)
    ∙ sym (cost_itself c (node Dim a b) forward)
