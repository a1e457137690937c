-- A request has one chosen tree.
use Rattle.std.proofs.Common.{◌≡◌, ◌≢◌, ℕ, ◌≤◌, refl, sym, ap, ap₂, subst, ◌∙◌, arith}
use Rattle.std.specs.declared.cmp.Ordering.{Ordering}
use Rattle.std.specs.declared.cmp.Ordering.TheVariants.{Less, Equal, Greater}
use Rattle.std.specs.Ordering.{nat_cmp, ordering_reverse, ordering_then}
use Rattle.matrix_meaning.specs.declared.Request.{Request}
use Rattle.matrix_meaning.specs.Parts.{first_of, forward_of, rest_of}
use Rattle.tree_model.specs.declared.tree.Rule.{Rule}
use Rattle.tree_model.specs.declared.tree.Rule.TheVariants.{Gt, Ct, Split, Dim}
use Rattle.tree_model.specs.Admissible.{IsCandidate, IsChosenFor}
use Rattle.tree_model.specs.Breakdown.{Breakdown, leaf, node, size_of}
use Rattle.tree_model.specs.Chosen.{IsWholeChosen, IsWholeTree, whole_cost}
use Rattle.tree_model.specs.Cost.{cost_of}
use Rattle.tree_model.specs.Order.{ComesBefore, order_of, rule_rank}
use Rattle.tree_model.specs.Whole.{IsTreeOf}
use Rattle.tree_model.proofs.FlatTrees.{well_formed}
use Rattle.tree_model.proofs.OrderLaws.{order_flip, same_from_order, then-Equal}

-- of two trees that are equal in cost, one comes first
not_less_both : (t u : Breakdown) → order_of t u ≡ Less → order_of u t ≡ Less → ⊥
not_less_both t u p q =
    let e : Less ≡ Greater = sym p ∙ order_flip t u ∙ ap ordering_reverse q in
    absurd (cc)

-- a tree that comes before another is another one
before_apart : (t u : Breakdown) → order_of t u ≡ Less → t ≢ u
before_apart t u e same =
    let self : order_of t t ≡ Less = subst (λ (v : Breakdown). order_of t v ≡ Less) (sym same) e in
    not_less_both t t self self

-- the tree is the first of the cheapest that are admitted
record IsFirst (Admits : Breakdown → Type 0) (cost : Breakdown → ℕ) (t : Breakdown) : Type 0 where
  admitted : Admits t
  least : (u : Breakdown) → Admits u → cost t ≤ cost u
  first : (u : Breakdown) → Admits u → cost u ≡ cost t → u ≢ t → ComesBefore t u

first_once : (Admits : Breakdown → Type 0) (cost : Breakdown → ℕ) (t u : Breakdown)
    → IsFirst Admits cost t → IsFirst Admits cost u → (order_of t u ≡ Equal → t ≡ u) → t ≡ u
first_once Admits cost t u p q level = cases (order_of t u) refl
  where
    same : cost t ≡ cost u
    same = let one = p.least u q.admitted in let two = q.least t p.admitted in omega (arith, one, two)

    cases : (o : Ordering) → order_of t u ≡ o → t ≡ u
    cases Equal e = level e
    cases Less e = absurd (not_less_both t u e (q.first t p.admitted same (before_apart t u e)))
    cases Greater e =
        let back : order_of u t ≡ Less = order_flip u t ∙ ap ordering_reverse e in
        absurd (not_less_both t u (p.first u q.admitted (sym same) (before_apart u t back)) back)

-- ---- a node of one size

-- the chosen tree of a size
pub chosen_once : (r : Request) (d : ℕ) (t u : Breakdown) → IsChosenFor r d t → IsChosenFor r d u → t ≡ u
chosen_once r d t u p q =
    first_once (IsCandidate r d) (cost_of r) t u
    (record { admitted = p.candidate; least = p.least; first = p.first })
    (record { admitted = q.candidate; least = q.least; first = q.first })
    (same_from_order r.kind t u p.candidate.well_formed q.candidate.well_formed (p.candidate.size ∙ sym q.candidate.size))

-- ---- any request

parts_equal : (f g : Rule) (a b x y : Breakdown) → order_of (node f a b) (node g x y) ≡ Equal
    → (order_of a x ≡ Equal) × (order_of b y ≡ Equal)
parts_equal f g a b x y e =
    let inner = ordering_then (order_of a x) (order_of b y) in
    let behind = then-Equal (nat_cmp (rule_rank f) (rule_rank g)) (ordering_then (nat_cmp (size_of a) (size_of x)) inner) e in
    then-Equal (order_of a x) (order_of b y) (then-Equal (nat_cmp (size_of a) (size_of x)) inner behind.1).1

-- two trees of a request and of one size that are equal in the order are one tree
same_of_order : (p : Request) (t u : Breakdown) → IsTreeOf p t → IsTreeOf p u → size_of t ≡ size_of u
    → order_of t u ≡ Equal → t ≡ u
same_of_order p (leaf d) u h k size e =
    same_from_order p.kind (leaf d) u (well_formed p (leaf d) h.0 h) (well_formed p u h.0 k) size e
same_of_order p (node Gt a b) u h k size e =
    same_from_order p.kind (node Gt a b) u (well_formed p (node Gt a b) h.2.0 h) (well_formed p u h.2.0 k) size e
same_of_order p (node Ct a b) u h k size e =
    same_from_order p.kind (node Ct a b) u (well_formed p (node Ct a b) h.2.0 h) (well_formed p u h.2.0 k) size e
same_of_order p (node Split a b) u h k size e =
    same_from_order p.kind (node Split a b) u (well_formed p (node Split a b) h.2.0 h) (well_formed p u h.2.0 k) size e
same_of_order p (node Dim a b) (leaf d) h k size e = absurd (h.2.0 k.0)
same_of_order p (node Dim a b) (node Gt x y) h k size e = absurd (h.2.0 k.2.0)
same_of_order p (node Dim a b) (node Ct x y) h k size e = absurd (h.2.0 k.2.0)
same_of_order p (node Dim a b) (node Split x y) h k size e = absurd (h.2.0 k.2.0)
same_of_order p (node Dim a b) (node Dim x y) h k size e =
    let both = parts_equal Dim Dim a b x y e in
    ap₂ (λ v w. node Dim v w)
    (same_of_order (first_of p) a x h.3 k.3 (h.2.1 ∙ sym k.2.1) both.0)
    (same_of_order (rest_of p) b y h.4 k.4 (h.2.2 ∙ sym k.2.2) both.1)

-- the chosen tree of a request, in range or not
pub whole_once : (c : Request) (t u : Breakdown) → IsWholeChosen c t → IsWholeChosen c u → t ≡ u
whole_once c t u p q =
    first_once (IsWholeTree c) (whole_cost c) t u
    (record { admitted = p.tree; least = p.least; first = p.first })
    (record { admitted = q.tree; least = q.least; first = q.first })
    (same_of_order (forward_of c) t u p.tree.tree q.tree.tree (p.tree.size ∙ sym q.tree.size))
