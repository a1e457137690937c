-- The passes of the layout of a request's tree count as those of the tree in the cost model.
use Rattle.sigma_lower.proofs.Words.{◌≡◌, ◌≢◌, ℕ, ◌+◌, ◌*◌, ◌%◌, ◌==◌, Bool, true, false, arith, refl, sym, ap, ap₂}
use Rattle.sigma_lower.proofs.Words.{◌∙◌, List, [], ◌∷◌, ◌++◌, if◌then◌else◌, subst, map, nat_le, nat_tests, Counted}
use Rattle.sigma_lower.proofs.Words.{works, tiles, passes_of, tiled_passes, whole_passes, forward_by, One, Kind, Idft}
use Rattle.sigma_lower.proofs.Words.{Request, PlainWork, Layout, work, by, layout_size, layout_of, work_cost}
use Rattle.sigma_lower.proofs.Words.{IsNodeTree, left_tree, right_tree, Breakdown, leaf, node, AllowsLeaf, is_kernel}
use Rattle.sigma_lower.proofs.Words.{node_root, request_passes, Rule, Dim, CountsAs, AllCount, IsForwardTree}
use Rattle.sigma_lower.proofs.Words.{layout_cost, node_work, FitsWhole, layouts_cost, layouts_have_size, left_fits}
use Rattle.sigma_lower.proofs.Words.{is_plain, root_no_kernel, cost_in, RequestPass, pass_of, closed_by, flat_passes}
use Rattle.std.proofs.Math.Nat.{mod_self, one-mul}
use Rattle.sigma_lower.proofs.TreeLoops.FlatCounts.{ArePasses, IsFlatTree, IsPass, flat_node_passes, flat_root_passes}
use Rattle.sigma_lower.proofs.TreeLoops.FlatCounts.{kernel-matches}
use Rattle.matrix_meaning.specs.Parts.{first_of, rest_of}
use Rattle.matrix_meaning.proofs.Parts.{first_is_one}
use Rattle.kernel_gen.proofs.NodeTrees.{HasFields, left_fields, rest_is_part, right_fields}
use Rattle.smp_rewrite.proofs.LayoutLemmas.NodeTrees.{plain_fits}
use Rattle.tree_model.specs.Breakdown.{size_of, AllowsRule}
use Rattle.tree_model.specs.WholePasses.{node_passes, passes_in, shared_passes}
use Rattle.tree_model.specs.Passes as trees

-- fields of a request, of the request for a part, and of that for a part of the part
fields-both : (c p q : Request) → HasFields c p → HasFields p q → HasFields c q
fields-both c p q h k = record { modulus = k.modulus ∙ h.modulus; weight = k.weight ∙ h.weight }

module _ (c : Request) where
  -- ---- passes of one size

  pass-counts : (p : Request) (z : Counted) (q : trees.Pass) → HasFields c p → IsPass c.size p z q →
      CountsAs c z (pass_of p q)
  pass-counts p (works k w b) (trees.nodes count t d) like h = record {
    operations =
        ap₂ (λ x y. k * work_cost x y w + (if b then x * c.size else 0)) (sym like.weight) (sym like.modulus)
        ∙ ap₂ (λ x y. x + y) (ap₂ (λ x y. x * y) h.0.copies h.0.operations)
        (ap (λ y. if y then p.weight * c.size else 0) h.1);
    loads = h.0.loads;
  }
  pass-counts p (tiles b) (trees.tiles d) like h =
      record { operations = ap₂ (λ x y. if y then x * c.size else 0) (sym like.weight) h; loads = refl }
  pass-counts p _ _ like h = absurd h

  all-count : (p : Request) (zs : List Counted) (qs : List trees.Pass) → HasFields c p → ArePasses c.size p zs qs →
      AllCount c zs (map (pass_of p) qs)
  all-count p [] [] like h = tt
  all-count p (z ∷ zs) (q ∷ qs) like h = (pass-counts p z q like h.0, all-count p zs qs like h.1)
  all-count p _ _ like h = absurd h

  -- a node of one size, `count` times
  node-counts : (p : Request) (count : ℕ) (t : Breakdown) → HasFields c p → IsFlatTree p t →
      AllCount c (passes_of count (layout_of p t)) (node_passes p count t)
  node-counts p count t like h =
      all-count p (passes_of count (layout_of p t)) (trees.passes_of p count t) like
      (flat_node_passes c.size p count t h)

  -- ---- lists of passes

  counts-append : (zs rest : List Counted) (qs more : List RequestPass) → AllCount c zs qs → AllCount c rest more →
      AllCount c (zs ++ rest) (qs ++ more)
  counts-append [] rest [] more h k = k
  counts-append (z ∷ zs) rest (q ∷ qs) more h k = (h.0, counts-append zs rest qs more h.1 k)
  counts-append _ rest _ more h k = absurd h

  tile-counts : (p : Request) → CountsAs c (tiles false) (pass_of p (trees.tiles false))
  tile-counts p = record { operations = refl; loads = refl }

  -- ---- on one processor and one lane

  -- a tree that stands in a request, of one size
  flat : (p : Request) (t : Breakdown) → IsNodeTree p t → FitsWhole p t → p.dimensions ≡ One → IsFlatTree p t
  flat p t h fits one = record { one = one; tree = h; fits = fits }

  -- a node is straight-line code where it is short
  alone-kernel : (p : Request) (d : ℕ) → is_plain p ≡ true → is_kernel p d ≡ nat_le d p.unroll
  alone-kernel p d plain = pick (nat_le d p.unroll) (d == p.size) (is_plain p) plain
    where
      pick : (short whole alone : Bool) → alone ≡ true →
          (if short then (if whole then alone else true) else false) ≡ short
      pick true true alone e = e
      pick true false alone e = refl
      pick false whole alone e = refl

  -- the rows, and then the columns
  module _ (p : Request) (a b : Breakdown) (left right : Layout)
      (is_left : layout_size left ≡ size_of a) (is_right : layout_size right ≡ size_of b)
      (on_left : (k : ℕ) → AllCount c (passes_of k left) (node_passes (first_of p) k a))
      (on_right : (k : ℕ) → AllCount c (passes_of k right) (passes_in (rest_of p) k b)) where
    rows : (f : ℕ → ℕ) → AllCount c (passes_of (f (layout_size left)) right) (passes_in (rest_of p) (f (size_of a)) b)
    rows f =
        subst (λ z. AllCount c (passes_of (f z) right) (passes_in (rest_of p) (f (size_of a)) b)) (sym is_left)
        (on_right (f (size_of a)))

    columns : (f : ℕ → ℕ) →
        AllCount c (passes_of (f (layout_size right)) left) (node_passes (first_of p) (f (size_of b)) a)
    columns f =
        subst (λ z. AllCount c (passes_of (f z) left) (node_passes (first_of p) (f (size_of b)) a)) (sym is_right)
        (on_left (f (size_of b)))

    both : (f : ℕ → ℕ) →
        AllCount c (passes_of (f (layout_size left)) right ++ passes_of (f (layout_size right)) left)
        (passes_in (rest_of p) (f (size_of a)) b ++ node_passes (first_of p) (f (size_of b)) a)
    both f =
        counts-append (passes_of (f (layout_size left)) right) (passes_of (f (layout_size right)) left)
        (passes_in (rest_of p) (f (size_of a)) b) (node_passes (first_of p) (f (size_of b)) a) (rows f) (columns f)

    dim-pick : (k root : ℕ) (w : PlainWork) (short few : Bool) → short ≡ few →
        (short ≡ true → CountsAs c (works k w false) (pass_of p (trees.nodes k (node Dim a b) false))) →
        AllCount c (passes_of k (if short then work w else by Dim root left right))
        (if few then pass_of p (trees.nodes k (node Dim a b) false) ∷ []
        else passes_in (rest_of p) (k * size_of a) b ++ node_passes (first_of p) (k * size_of b) a)
    dim-pick k root w true true e h = (h refl, tt)
    dim-pick k root w false false e h = both (λ n. k * n)
    dim-pick k root w _ _ e h = absurd (cc)

    -- the whole of a dim that processors or lanes share
    shared-pick : (root : ℕ) (one : Bool) →
        AllCount c (if one then passes_of 1 (by Dim root left right) else tiled_passes (by Dim root left right))
        (if one then passes_in (rest_of p) (size_of a) b ++ node_passes (first_of p) (size_of b) a
        else pass_of p (trees.tiles false)
        ∷ (passes_in (rest_of p) (size_of a) b ++
        (pass_of p (trees.tiles false) ∷ node_passes (first_of p) (size_of b) a)))
    shared-pick root true =
        let same : passes_of (1 * layout_size left) right ++ passes_of (1 * layout_size right) left
        ≡ passes_of (layout_size left) right ++ passes_of (layout_size right) left =
        ap₂ (λ x y. passes_of x right ++ passes_of y left) (one-mul (layout_size left)) (one-mul (layout_size right)) in
        subst (λ zs. AllCount c zs (passes_in (rest_of p) (size_of a) b ++ node_passes (first_of p) (size_of b) a))
        (sym same) (both (λ n. n))
    shared-pick root false = (
      tile-counts p,
      counts-append (passes_of (layout_size left) right) (tiles false ∷ passes_of (layout_size right) left)
          (passes_in (rest_of p) (size_of a) b)
          (pass_of p (trees.tiles false) ∷ node_passes (first_of p) (size_of b) a) (rows (λ n. n))
          (tile-counts p, columns (λ n. n)),
    )

  -- straight-line code of a dim
  dim-code : (p : Request) (a b : Breakdown) (l : Layout) (k : ℕ) → HasFields c p →
      is_kernel p (size_of a * size_of b) ≡ true →
      layout_cost p.weight p.modulus (if is_kernel p (size_of a * size_of b) then work (node_work p (node Dim a b))
      else l) ≡ cost_in p (node Dim a b) →
      CountsAs c (works k (node_work p (node Dim a b)) false) (pass_of p (trees.nodes k (node Dim a b) false))
  dim-code p a b l k like short cost =
      pass-counts p (works k (node_work p (node Dim a b)) false) (trees.nodes k (node Dim a b) false) like
      (kernel-matches c.size p Dim a b l k short cost, refl)

  alone-counts : (p : Request) (count : ℕ) (t : Breakdown) → HasFields c p → IsNodeTree p t → is_plain p ≡ true →
      p.dimensions ≡ One → AllCount c (passes_of count (layout_of p t)) (node_passes p count t)
  alone-counts p count t like h plain one = node-counts p count t like (flat p t h (plain_fits p t plain) one)

  all-in : (p : Request) (count : ℕ) (t : Breakdown) → HasFields c p → IsNodeTree p t → is_plain p ≡ true →
      AllCount c (passes_of count (layout_of p t)) (passes_in p count t)
  all-in p count (node Dim a b) like h plain =
      let d = size_of a * size_of b in
      let first = left_tree p Dim a b h in
      let rest = right_tree p Dim a b h in
      let on_first = fields-both c p (first_of p) like (left_fields p Dim a b h) in
      let on_rest = fields-both c p (rest_of p) like (right_fields p Dim a b h) in
      let cost = layouts_cost p (node Dim a b) h (plain_fits p (node Dim a b) plain) in
      dim-pick p a b (layout_of (first_of p) a) (layout_of (rest_of p) b) (layouts_have_size (first_of p) a)
      (layouts_have_size (rest_of p) b)
      (λ k. node-counts (first_of p) k a on_first
      (flat (first_of p) a first (left_fits p Dim a b h) (first_is_one p h.tree.2.0)))
      (λ k. all-in (rest_of p) k b on_rest rest (rest_is_part p h.tree.2.0).plain) count (node_root p d)
      (node_work p (node Dim a b)) (is_kernel p d) (nat_le d p.unroll) (alone-kernel p d plain)
      (λ short. dim-code p a b (by Dim (node_root p d) (layout_of (first_of p) a) (layout_of (rest_of p) b)) count like
      short cost)
  all-in p count (node rule a b) like h plain = alone-counts p count (node rule a b) like h plain h.tree.2.0
  all-in p count (leaf d) like h plain = alone-counts p count (leaf d) like h plain h.tree.0

-- ---- the whole, of one size

-- a request that is no inverse has its own passes
open-passes : (kind : Kind) (p : Request) (t : Breakdown) → kind ≢ Idft →
    map (pass_of (forward_by kind p)) (closed_by kind (trees.whole_passes (forward_by kind p) t))
    ≡ map (pass_of p) (trees.whole_passes p t)
open-passes Idft p t forward = absurd (forward refl)
open-passes _ p t forward = refl

no-inverse-leaf : (kind : Kind) (d : ℕ) → AllowsLeaf kind d → kind ≢ Idft
no-inverse-leaf kind d h is = subst (λ k. AllowsLeaf k d) is h

no-inverse-rule : (kind : Kind) (rule : Rule) (r s : ℕ) → AllowsRule kind rule r s → kind ≢ Idft
no-inverse-rule kind rule r s h is = subst (λ k. AllowsRule k rule r s) is h

-- the whole tree
whole-tree : (p : Request) (t : Breakdown) → IsForwardTree p t → IsNodeTree p t
whole-tree p t h = record {
  valid = h.valid;
  tree = h.tree;
  divides = ap (λ n. p.size % n) h.size ∙ mod_self p.size;
}

itself : (p : Request) → HasFields p p
itself p = record { modulus = refl; weight = refl }

flat-counts : (p : Request) (t : Breakdown) → IsForwardTree p t → p.dimensions ≡ One → p.kind ≢ Idft →
    AllCount p (whole_passes p.lanes (layout_of p t)) (flat_passes p t)
flat-counts p t h one forward =
    subst (AllCount p (whole_passes p.lanes (layout_of p t))) (sym (open-passes p.kind p t forward))
    (all-count p p (whole_passes p.lanes (layout_of p t)) (trees.whole_passes p t) (itself p)
    (flat_root_passes p.size p t (flat p p t (whole-tree p t h) (λ is shared. h.root shared) one) h.size))

-- ---- several dimensions

module _ (p : Request) (a b : Breakdown) (h : IsForwardTree p (node Dim a b)) where
  abbrev d : ℕ
  d = size_of a * size_of b

  abbrev first : Request
  first = first_of p

  abbrev rest : Request
  rest = rest_of p

  tree : IsNodeTree p (node Dim a b)
  tree = whole-tree p (node Dim a b) h

  on-first : (k : ℕ) → AllCount p (passes_of k (layout_of first a)) (node_passes first k a)
  on-first k =
      node-counts p first k a (left_fields p Dim a b tree)
      (flat p first a (left_tree p Dim a b tree) (left_fits p Dim a b tree) (first_is_one p h.tree.2.0))

  on-rest : (k : ℕ) → AllCount p (passes_of k (layout_of rest b)) (passes_in rest k b)
  on-rest k =
      all-in p rest k b (right_fields p Dim a b tree) (right_tree p Dim a b tree) (rest_is_part p h.tree.2.0).plain

  alone : is_plain p ≡ true → AllCount p (passes_of 1 (layout_of p (node Dim a b))) (passes_in p 1 (node Dim a b))
  alone plain = all-in p p 1 (node Dim a b) (itself p) tree plain

  one-lane : is_plain p ≡ true → nat_le p.lanes 1 ≡ true
  one-lane plain = grind (arith, nat_tests)

  by-lanes : (one : Bool) → nat_le p.lanes 1 ≡ one → is_plain p ≡ true →
      AllCount p (if one then passes_of 1 (layout_of p (node Dim a b)) else tiled_passes (layout_of p (node Dim a b)))
      (passes_in p 1 (node Dim a b))
  by-lanes true is plain = alone plain
  by-lanes false is plain = let clash : true ≡ false = sym (one-lane plain) ∙ is in absurd (cc)

  shared-root : (z : Bool) (l : Layout) → z ≡ false →
      AllCount p (whole_passes p.lanes l) (shared_passes p a b) →
      AllCount p (whole_passes p.lanes (if z then work (node_work p (node Dim a b)) else l)) (shared_passes p a b)
  shared-root true l e k = absurd (cc)
  shared-root false l e k = k

  dim-whole : (plain : Bool) → is_plain p ≡ plain →
      AllCount p (whole_passes p.lanes (layout_of p (node Dim a b)))
      (if plain then passes_in p 1 (node Dim a b) else shared_passes p a b)
  dim-whole true is = by-lanes (nat_le p.lanes 1) refl is
  dim-whole false is =
      shared-root (is_kernel p d) (by Dim (node_root p d) (layout_of first a) (layout_of rest b))
      (root_no_kernel p d h.size is)
      (shared-pick p p a b (layout_of first a) (layout_of rest b) (layouts_have_size first a) (layouts_have_size rest b)
      on-first on-rest (node_root p d) (nat_le p.lanes 1))

-- the passes of a tree's layout count as those of the tree
pub layouts_count : (p : Request) (t : Breakdown) → IsForwardTree p t →
    AllCount p (whole_passes p.lanes (layout_of p t)) (request_passes p t)
layouts_count p (leaf d) h = flat-counts p (leaf d) h h.tree.0 (no-inverse-leaf p.kind d h.tree.1)
layouts_count p (node Dim a b) h = dim-whole p a b h (is_plain p) refl
layouts_count p (node rule a b) h =
    flat-counts p (node rule a b) h h.tree.2.0 (no-inverse-rule p.kind rule (size_of a) (size_of b) h.tree.2.1)
