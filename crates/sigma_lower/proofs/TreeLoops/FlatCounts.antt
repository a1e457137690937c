-- The passes of a layout of one size count as those of the tree in the cost model.
use Rattle.sigma_lower.proofs.Words.{◌≡◌, ℕ, ◌*◌, ◌<◌, Bool, true, false, arith, refl, sym, ap, ◌∙◌, List, [], ◌∷◌}
use Rattle.sigma_lower.proofs.Words.{◌++◌, if◌then◌else◌, inl, inr, subst, nat_le, cases_lt, nat_tests, Counted, works}
use Rattle.sigma_lower.proofs.Words.{tiles, with_twiddles, twiddle_last, twiddle_by, passes_of, tiled_passes}
use Rattle.sigma_lower.proofs.Words.{whole_passes, IsValid, One, Kind, Dft, Wht, Idft, Request, PlainWork, kernel}
use Rattle.sigma_lower.proofs.Words.{Layout, work, by, layout_size, layout_of, work_cost, IsNodeTree, left_tree}
use Rattle.sigma_lower.proofs.Words.{right_tree, Breakdown, leaf, node, AllowsLeaf, is_kernel, node_root, Rule, Gt, Ct}
use Rattle.sigma_lower.proofs.Words.{Dim, kernel-short, node_of, layout_cost, long_work, node_work, FitsWhole}
use Rattle.sigma_lower.proofs.Words.{layouts_cost, layouts_have_size, left_fits, is_plain, root_no_kernel, cost_in}
use Rattle.sigma_lower.specs.TreeLoops.Laws.{loads_by}
use Rattle.smp_rewrite.proofs.LayoutLemmas.NodeTrees.{right_fits}
use Rattle.tree_model.specs.Admissible.{RuleFits}
use Rattle.tree_model.specs.Breakdown.{size_of}
use Rattle.tree_model.specs.Passes as trees

-- ---- one pass

-- a work has the operations of a node, and its loads over n words, `count` times
pub record Matches (n : ℕ) (p : Request) (k : ℕ) (w : PlainWork) (count : ℕ) (t : Breakdown) : Type 0 where
  pub copies : k ≡ count
  pub operations : work_cost p.weight p.modulus w ≡ cost_in p t
  pub loads : loads_by n w ≡ trees.node_loads p n t

abbrev pub IsPass : ℕ → Request → Counted → trees.Pass → Type 0
IsPass n p (works k w b) (trees.nodes count t d) = Matches n p k w count t × (b ≡ d)
IsPass n p (works k w b) (trees.tiles d) = ⊥
IsPass n p (tiles b) (trees.nodes count t d) = ⊥
IsPass n p (tiles b) (trees.tiles d) = b ≡ d

abbrev pub ArePasses : ℕ → Request → List Counted → List trees.Pass → Type 0
ArePasses n p [] [] = Unit {0}
ArePasses n p [] (q ∷ qs) = ⊥
ArePasses n p (z ∷ zs) [] = ⊥
ArePasses n p (z ∷ zs) (q ∷ qs) = IsPass n p z q × ArePasses n p zs qs

-- ---- lists of passes

module _ (n : ℕ) (p : Request) where
  passes-append : (zs rest : List Counted) (qs more : List trees.Pass) → ArePasses n p zs qs → ArePasses n p rest more →
      ArePasses n p (zs ++ rest) (qs ++ more)
  passes-append [] rest [] more h k = k
  passes-append (z ∷ zs) rest (q ∷ qs) more h k = (h.0, passes-append zs rest qs more h.1 k)
  passes-append _ rest _ more h k = absurd h

  pass-twiddled : (z : Counted) (q : trees.Pass) → IsPass n p z q → IsPass n p (with_twiddles z) (trees.with_twiddles q)
  pass-twiddled (works k w b) (trees.nodes count t d) h = (h.0, refl)
  pass-twiddled (tiles b) (trees.tiles d) h = refl
  pass-twiddled _ _ h = absurd h

  passes-last : (zs : List Counted) (qs : List trees.Pass) → ArePasses n p zs qs →
      ArePasses n p (twiddle_last zs) (trees.twiddle_last qs)
  passes-last [] [] h = tt
  passes-last (z ∷ []) (q ∷ []) h = (pass-twiddled z q h.0, tt)
  passes-last (z ∷ []) (q ∷ u ∷ qs) h = absurd h.1
  passes-last (z ∷ y ∷ zs) (q ∷ []) h = absurd h.1
  passes-last (z ∷ y ∷ zs) (q ∷ u ∷ qs) h = (h.0, passes-last (y ∷ zs) (u ∷ qs) h.1)
  passes-last _ _ h = absurd h

  passes-by : (rule : Rule) (zs : List Counted) (qs : List trees.Pass) → ArePasses n p zs qs →
      ArePasses n p (twiddle_by rule zs) (trees.twiddle_by rule qs)
  passes-by Ct zs qs h = passes-last zs qs h
  passes-by _ zs qs h = h

-- ---- a leaf

rows-loads : (n d : ℕ) (p : Request) (kind : Kind) → AllowsLeaf kind d → 2 < d →
    loads_by n (long_work p kind (leaf d)) ≡ n * d
rows-loads n d p Dft h more = refl
rows-loads n d p Wht h more = absurd (omega (arith, h.1, more))
rows-loads n d p Idft h more = absurd h

leaf-loads : (n : ℕ) (p : Request) (d : ℕ) → IsValid p → AllowsLeaf p.kind d → FitsWhole p (leaf d) →
    loads_by n (node_work p (leaf d)) ≡ trees.node_loads p n (leaf d)
leaf-loads n p d valid formed fits = pick (is_kernel p d) refl
  where
    pick : (b : Bool) → is_kernel p d ≡ b → loads_by n (node_work p (leaf d)) ≡ trees.node_loads p n (leaf d)
    pick true short =
        ap (λ b. loads_by n (if b then kernel (node_of p (leaf d)) else long_work p p.kind (leaf d)))
        short
        ∙ sym (ap (λ b. if b then n else n * d) (kernel-short p d short))
    pick false long =
        elim (cases_lt p.unroll d) [
          | inl over ↦
              let loop : nat_le d p.unroll ≡ false = grind (arith, nat_tests) in
              ap (λ b. loads_by n (if b then kernel (node_of p (leaf d)) else long_work p p.kind (leaf d))) long
              ∙ rows-loads n d p p.kind formed (omega (arith, over, valid.in_range.unroll.0))
              ∙ sym (ap (λ b. if b then n else n * d) loop)
          | inr short ↦
              let both : (d ≡ p.size) × (is_plain p ≡ false) = grind (arith, nat_tests, long, short) in
              absurd (fits both.0 both.1)
        ]

leaf_passes : (n : ℕ) (p : Request) (count d : ℕ) → IsNodeTree p (leaf d) → FitsWhole p (leaf d) →
    ArePasses n p (passes_of count (layout_of p (leaf d))) (trees.passes_of p count (leaf d))
leaf_passes n p count d h fits = (
  (
    record {
      copies = refl;
      operations = layouts_cost p (leaf d) h fits;
      loads = leaf-loads n p d h.valid h.tree.1 fits;
    },
    refl,
  ),
  tt,
)

-- ---- a node

-- straight-line code has its operations, and loads each word once
module _ (n : ℕ) (p : Request) (rule : Rule) (a b : Breakdown) (l : Layout) where
  abbrev t : Breakdown
  t = node rule a b

  abbrev d : ℕ
  d = size_of a * size_of b

  kernel-loads : is_kernel p d ≡ true → loads_by n (node_work p t) ≡ n
  kernel-loads short =
      ap (λ z. loads_by n (if z then kernel (node_of p t) else long_work p p.kind t)) short

  pub kernel-matches : (count : ℕ) → is_kernel p d ≡ true →
      layout_cost p.weight p.modulus (if is_kernel p d then work (node_work p t) else l) ≡ cost_in p t →
      Matches n p count (node_work p t) count t
  kernel-matches count short cost = record {
    copies = refl;
    operations = sym (ap (λ z. layout_cost p.weight p.modulus (if z then work (node_work p t) else l)) short) ∙ cost;
    loads = kernel-loads short;
  }

-- a number of times, by the passes of its parts
module _ (n : ℕ) (p : Request) (rule : Rule) (a b : Breakdown) (root : ℕ) (w : PlainWork) (left right : Layout)
    (is_left : layout_size left ≡ size_of a) (is_right : layout_size right ≡ size_of b)
    (on_left : (k : ℕ) → ArePasses n p (passes_of k left) (trees.passes_of p k a))
    (on_right : (k : ℕ) → ArePasses n p (passes_of k right) (trees.passes_of p k b)) where
  rights : (f : ℕ → ℕ) → ArePasses n p (passes_of (f (layout_size left)) right) (trees.passes_of p (f (size_of a)) b)
  rights f =
      subst (λ z. ArePasses n p (passes_of (f z) right) (trees.passes_of p (f (size_of a)) b)) (sym is_left)
      (on_right (f (size_of a)))

  lefts : (f : ℕ → ℕ) → ArePasses n p (passes_of (f (layout_size right)) left) (trees.passes_of p (f (size_of b)) a)
  lefts f =
      subst (λ z. ArePasses n p (passes_of (f z) left) (trees.passes_of p (f (size_of b)) a)) (sym is_right)
      (on_left (f (size_of b)))

  node-pick : (count : ℕ) (z : Bool) → (z ≡ true → Matches n p count w count (node rule a b)) →
      ArePasses n p (passes_of count (if z then work w else by rule root left right))
      (if z then trees.nodes count (node rule a b) false ∷ []
      else trees.twiddle_by rule (trees.passes_of p (count * size_of a) b) ++ trees.passes_of p (count * size_of b) a)
  node-pick count true short = ((short refl, refl), tt)
  node-pick count false short =
      passes-append n p (twiddle_by rule (passes_of (count * layout_size left) right))
      (passes_of (count * layout_size right) left)
      (trees.twiddle_by rule (trees.passes_of p (count * size_of a) b)) (trees.passes_of p (count * size_of b) a)
      (passes-by n p rule (passes_of (count * layout_size left) right) (trees.passes_of p (count * size_of a) b)
      (rights (λ k. count * k)))
      (lefts (λ k. count * k))

  -- the root, on several lanes
  tiled-both : (t : Bool) →
      ArePasses n p (passes_of (layout_size left) right ++ (tiles t ∷ passes_of (layout_size right) left))
      (trees.passes_of p (size_of a) b ++ (trees.tiles t ∷ trees.passes_of p (size_of b) a))
  tiled-both t =
      passes-append n p (passes_of (layout_size left) right) (tiles t ∷ passes_of (layout_size right) left)
      (trees.passes_of p (size_of a) b) (trees.tiles t ∷ trees.passes_of p (size_of b) a) (rights (λ k. k))
      (refl, lefts (λ k. k))

  tiled-pick : (z : Bool) → z ≡ false → RuleFits p rule (size_of a) (size_of b) →
      ArePasses n p (tiled_passes (if z then work w else by rule root left right))
      (trees.tiled_passes p (node rule a b))
  tiled-pick true is fits = absurd (cc)
  tiled-pick false is fits = by-rule rule fits
    where
      by-rule : (rule : Rule) → RuleFits p rule (size_of a) (size_of b) →
          ArePasses n p (tiled_passes (by rule root left right)) (trees.tiled_passes p (node rule a b))
      by-rule Gt fits = absurd fits
      by-rule Ct fits = tiled-both true
      by-rule _ fits = (refl, tiled-both false)

several-lanes : (p : Request) → nat_le p.lanes 1 ≡ false → is_plain p ≡ false
several-lanes p many = grind (arith, nat_tests)

-- a tree of one size that stands in the request, with a layout of its own
pub record IsFlatTree (p : Request) (t : Breakdown) : Type 0 where
  pub one : p.dimensions ≡ One
  pub tree : IsNodeTree p t
  pub fits : FitsWhole p t

-- its rule hands the request itself to both parts
flat-parts : (p : Request) (rule : Rule) (a b : Breakdown) → IsFlatTree p (node rule a b) →
    IsFlatTree p a × IsFlatTree p b
flat-parts p Dim a b h = absurd (h.tree.tree.2.0 h.one)
flat-parts p rule a b h = (
  record { one = h.one; tree = left_tree p rule a b h.tree; fits = left_fits p rule a b h.tree },
  record { one = h.one; tree = right_tree p rule a b h.tree; fits = right_fits p rule a b h.tree },
)

-- a number of times, over n words
module _ (n : ℕ) (p : Request) where
  pub flat_node_passes : (count : ℕ) (t : Breakdown) → IsFlatTree p t →
      ArePasses n p (passes_of count (layout_of p t)) (trees.passes_of p count t)
  flat_node_passes count (leaf d) h = leaf_passes n p count d h.tree h.fits
  flat_node_passes count (node Dim a b) h = absurd (h.tree.tree.2.0 h.one)
  flat_node_passes count (node rule a b) h =
      let d = size_of a * size_of b in
      let parts = flat-parts p rule a b h in
      node-pick n p rule a b (node_root p d) (node_work p (node rule a b)) (layout_of p a) (layout_of p b)
      (layouts_have_size p a) (layouts_have_size p b) (λ k. flat_node_passes k a parts.0)
      (λ k. flat_node_passes k b parts.1) count (is_kernel p d)
      (λ short.
      kernel-matches n p rule a b (by rule (node_root p d) (layout_of p a) (layout_of p b)) count short
      (layouts_cost p (node rule a b) h.tree h.fits))

  -- ---- the root

  tiled-whole : (t : Breakdown) → IsFlatTree p t → size_of t ≡ p.size → is_plain p ≡ false →
      ArePasses n p (tiled_passes (layout_of p t)) (trees.tiled_passes p t)
  tiled-whole (leaf d) h whole shared = absurd (h.fits whole shared)
  tiled-whole (node Dim a b) h whole shared = absurd (h.tree.tree.2.0 h.one)
  tiled-whole (node rule a b) h whole shared =
      let d = size_of a * size_of b in
      let parts = flat-parts p rule a b h in
      tiled-pick n p rule a b (node_root p d) (node_work p (node rule a b)) (layout_of p a) (layout_of p b)
      (layouts_have_size p a) (layouts_have_size p b) (λ k. flat_node_passes k a parts.0)
      (λ k. flat_node_passes k b parts.1) (is_kernel p d) (root_no_kernel p d whole shared) (h.fits whole shared)

  by-lanes : (t : Breakdown) → IsFlatTree p t → size_of t ≡ p.size → (one : Bool) → nat_le p.lanes 1 ≡ one →
      ArePasses n p (if one then passes_of 1 (layout_of p t) else tiled_passes (layout_of p t))
      (if one then trees.passes_of p 1 t else trees.tiled_passes p t)
  by-lanes t h whole true is = flat_node_passes 1 t h
  by-lanes t h whole false is = tiled-whole t h whole (several-lanes p is)

  -- the passes of the whole
  pub flat_root_passes : (t : Breakdown) → IsFlatTree p t → size_of t ≡ p.size →
      ArePasses n p (whole_passes p.lanes (layout_of p t)) (trees.whole_passes p t)
  flat_root_passes t h whole = by-lanes t h whole (nat_le p.lanes 1) refl
