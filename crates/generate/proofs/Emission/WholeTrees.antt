-- The program of a tree is its emission, on one processor and one lane and on several.
use Rattle.std.proofs.Common.{◌≡◌, ℕ, ◌+◌, ◌*◌, ◌==◌, Bool, true, false, if◌then◌else◌, arith, refl, sym, ap, ap₂, ◌∙◌}
use Rattle.std.proofs.Common.{List, [], ◌∷◌, ◌++◌, length, subst, Option, None, Some, map, ◌<◌, ◌&&◌}
use Rattle.std.proofs.lemmas.List.{length-map, map-append, append-nil}
use Rattle.std.proofs.lemmas.Simd.{map-map}
use Rattle.sigma_spl.specs.Lists.{on_last}
use Rattle.matrix_meaning.specs.Parts.{forward_by, forward_of, inverted}
use Rattle.matrix_meaning.specs.Valid.{IsValid}
use Rattle.matrix_meaning.specs.declared.Kind.{Kind}
use Rattle.matrix_meaning.specs.declared.Kind.TheVariants.{Dft, Idft}
use Rattle.matrix_meaning.specs.declared.Request.{Request}
use Rattle.sigma_lower.specs.Merged.{CanLower, tree_merged}
use Rattle.sigma_lower.specs.TreeLoops.Merge.{PlainPass}
use Rattle.sigma_lower.specs.TreeLoops.Nests.{loop_of}
use Rattle.sigma_lower.specs.TreeTerms.Root.{left_path}
use Rattle.sigma_lower.proofs.TreeLayouts.{trees_can_lower}
use Rattle.sigma_lower.proofs.TreeLoops.PartRules.{IsSize}
use Rattle.sigma_lower.proofs.TreeLoops.PlaceLimits.{ArePlaced, whole_placed}
use Rattle.sigma_lower.proofs.TreeLoops.RootMerging.{root_merged}
use Rattle.sigma_lower.proofs.TreeLoops.RootPasses.{left_pass, left_passes, pass_phases, root_passes}
use Rattle.sigma_lower.proofs.TreeLoops.RootShares.{AreShares, rows_size, shares_of}
use Rattle.sigma_lower.proofs.TreeLoops.Shaped.{AreShaped, HasWorks, IsShapedWork, shaped_passes, shaped_works}
use Rattle.sigma_lower.proofs.TreeLoops.TreePasses.{IsFull, full_passes, layout_passes}
use Rattle.sigma_spl.specs.Loops.{one_nest, nest_of}
use Rattle.sigma_spl.specs.Nest.{PlainNest, repeated}
use Rattle.sigma_spl.specs.Shared.Targets.{is_alone, target_of}
use Rattle.smp_rewrite.specs.Fits.{CanShareLayout, HasParts}
use Rattle.smp_rewrite.specs.Layout.Tree.{IsGoodLayout, Layout, by, layout_of, layout_size, node_work, work}
use Rattle.smp_rewrite.specs.Layout.Whole.{factor_by, whole_of}
use Rattle.smp_rewrite.proofs.LayoutLemmas.Layouts.{layouts_have_size}
use Rattle.operators.specs.Paths.Tensors.{count_of}
use Rattle.tree_model.proofs.PassLaws.{root_no_kernel}
use Rattle.tree_model.specs.Breakdown.{Breakdown, leaf, node, size_of}
use Rattle.tree_model.specs.Chosen.{IsWholeTree}
use Rattle.tree_model.specs.Cost.{is_plain, node_root}
use Rattle.tree_model.specs.Whole.{left_of, right_of}
use Rattle.tree_model.specs.declared.tree.Rule.{Rule}
use Rattle.tree_model.specs.declared.tree.Rule.TheVariants.{Gt, Ct}
use Rattle.generate.specs.Emission.Passes.{Factors, Pass, moved, passes, entries, none, values}
use Rattle.generate.specs.Emission.Root.{left_root, right_root, root_phases, strided, tiles_after, tiles_before}
use Rattle.generate.specs.Emission.Whole.{emission, whole_site, conv_emission}
use Rattle.generate.specs.Letters.{program_for}
use Rattle.loop_merge.specs.JoinedPasses.InOnePhase.{joined}
use Rattle.matrix_meaning.specs.Convolving.{IsConvRequest}
use Rattle.code_gen.specs.PassCode.Program.{program_of}
use Rattle.sigma_lower.proofs.TreeLoops.Wholes.{plain_phases}
use Rattle.generate.specs.ConvLetters.{conv_program}
use Rattle.generate.specs.Emission.Places.{same}
use Rattle.generate.specs.Factors.{factors_of}
use Rattle.tree_model.proofs.WholeTrees.{forward_itself}
use Rattle.generate.proofs.Emission.Closed.{closed-phases, closing, emission-by, factors_by, firsts, plain-forward}
use Rattle.generate.proofs.Emission.Closed.{AllPasses, closed-passes, closed-one, closed_tree, phases-in}
use Rattle.generate.proofs.Emission.Closed.{factors-passes, looped-all}
use Rattle.generate.proofs.Emission.Layouts.{layout_emitted, passes_of_layout, tree_works}
use Rattle.generate.proofs.Emission.Root.{IsPart, left_nest, left_around}
use Rattle.generate.proofs.Emission.Matches.{ArePasses, IsAround, IsSame}
use Rattle.generate.proofs.Emission.Nested.{emitted, emitted_nest}
use Rattle.generate.proofs.Emission.Matches.{IsNodeWork, multiplying, nests, IsLooped, maps-same, same-nest}
use Rattle.generate.proofs.Emission.Right.{ct_right, none-either, split_right}
use Rattle.generate.proofs.Emission.Trees.{layouts_match}
use Rattle.generate.proofs.ConvGoodness.{inverse_tree, inverse_valid}
use Rattle.generate.proofs.Emission.PassPrograms.{programs-by-passes}
use Rattle.generate.proofs.Emission.PlainPlaces.{plain-joined-passes, plain-passes, plain-whole}
use Rattle.sigma_spl.specs.Nest as sums

-- ---- the left part

module _ (c : Request) (r s : ℕ) (h : AreShares c.size c.procs c.lanes r s) (a : Layout)
    (good : IsGoodLayout c.modulus a) (works : HasWorks IsNodeWork a) (is : layout_size a ≡ r) where
  parts : (ps : List PlainPass) → ArePlaced r [] r ps → AreShaped (IsShapedWork c.modulus) r ps →
      AreShaped IsNodeWork r ps → AllPasses (IsPart c r s h c.modulus) ps
  parts [] placed shapes works = tt
  parts (z ∷ zs) placed shapes works =
      (record { placed = placed.0; shape = shapes.0; node = works.0.work }, parts zs placed.1 shapes.1 works.1)

  abbrev alone : List PlainPass
  alone = layout_passes [] [] a

  size_here : IsSize (layout_size a)
  size_here = subst IsSize (sym is) (rows_size c.size c.procs c.lanes r s h)

  all : AllPasses (IsPart c r s h c.modulus) alone
  all =
      parts alone (subst (λ n. ArePlaced n [] n alone) is (whole_placed c.modulus a size_here good))
      (shaped_passes (IsShapedWork c.modulus) c.modulus r [] [] a tt good (shaped_works c.modulus a good) is)
      (shaped_passes IsNodeWork c.modulus r [] [] a tt good works is)

  abbrev outer : List ℕ
  outer = map count_of (left_path c.procs c.lanes s)

  abbrev d : ℕ
  d = 0 + length (left_path c.procs c.lanes s)

  long : length outer ≡ d
  long = let same_length = length-map (left_path c.procs c.lanes s) count_of in omega (arith, same_length)

  abbrev left-qs : Factors → List Pass
  left-qs f = layout_emitted (left_root c s f) a

  left-matches : (f : Factors) → ArePasses outer d (strided c s) [] r (left_root c s f) alone (left-qs f)
  left-matches f =
      subst (λ n. ArePasses outer d (strided c s) [] n (left_root c s f) alone (left-qs f)) is
      (layouts_match outer d (strided c s) long c.modulus (layout_size a) [] [] (left_root c s f) a size_here good works
      refl
      (subst (λ n. IsAround outer d (strided c s) [] [] n (left_root c s f)) (sym is) (left_around c r s h f)))

  abbrev lefts : List PlainPass
  lefts = map (left_pass c.procs c.lanes r s) alone

  left-closed : (o : Option ℕ) → closing o (nests lefts) ≡ emitted (left-qs (factors_by o))
  left-closed o =
      ap (closing o) (map-map (λ z. one_nest (loop_of z)) (left_pass c.procs c.lanes r s) alone)
      ∙ closed-passes outer d (strided c s) (left_pass c.procs c.lanes r s) (IsPart c r s h c.modulus)
      (λ z q part is. left_nest c r s h c.modulus z part q is) r (left_root c s (factors_by o)) (λ cs e. refl)
      o (unmoved o) alone (left-qs (factors_by o)) all (left-matches (factors_by o))
    where
      unmoved : (o : Option ℕ) → moved (factors_by o) (strided c s) ≡ factors_by o
      unmoved None = refl
      unmoved (Some v) = refl

-- ---- lists of which the last is changed

abbrev IsSome : List (List PlainNest) → Type 0
IsSome [] = ⊥
IsSome (z ∷ zs) = Unit {0}

last-behind : (f : List PlainNest → List PlainNest) (zs ys : List (List PlainNest)) → IsSome ys →
    on_last f (zs ++ ys) ≡ zs ++ on_last f ys
last-behind f (z ∷ []) [] h = absurd h
last-behind f (z ∷ x ∷ zs) ys h = ap (λ rest. z ∷ rest) (last-behind f (x ∷ zs) ys h)
last-behind f _ _ h = refl

closed-behind : (o : Option ℕ) (zs ys : List (List PlainNest)) → IsSome ys → closing o (zs ++ ys) ≡ zs ++ closing o ys
closed-behind None zs ys h = refl
closed-behind (Some v) zs ys h = last-behind (map (multiplying (repeated v 1) firsts)) zs ys h

some-nests : (g : PlainPass → PlainPass) (ps : List PlainPass) → IsFull ps → IsSome (nests (map g ps))
some-nests g [] h = absurd h
some-nests g (p ∷ ps) h = tt

-- ---- both parts

abbrev in_phases : {A : Type 0} → Bool → List A → List A → List (List A)
in_phases one right left = if one then (right ++ left) ∷ [] else right ∷ left ∷ []

closed-parts : (one : Bool) (o : Option ℕ) (right left : List (List PlainNest)) → IsSome left →
    closed-phases o (in_phases one right left) ≡ in_phases one right (closing o left)
closed-parts true (Some v) right left h = ap (λ z. z ∷ []) (closed-behind (Some v) right left h)
closed-parts false (Some v) right left h = refl
closed-parts _ None right left h = refl

map-phases : {A B : Type 0} (f : A → B) (one : Bool) (right left : List A) →
    map (map f) (in_phases one right left) ≡ in_phases one (map f right) (map f left)
map-phases f true right left = ap (λ z. z ∷ []) (map-append f right left)
map-phases f false right left = refl

-- what emission makes of a root, whose parts have these passes
abbrev parts_emitted : Request → Rule → ℕ → ℕ → ℕ → List Pass → List Pass → List (List Pass)
parts_emitted c rule r s root right left =
    in_phases (c.procs == 1) (tiles_before rule c r s ++ (right ++ tiles_after rule c r s root)) left

-- and of a root of two layouts
abbrev root_emitted : Request → Factors → Layout → List (List Pass)
root_emitted c factors (work w) = []
root_emitted c factors (by rule root a b) =
    let r = layout_size a in
    let s = layout_size b in
    parts_emitted c rule r s root (layout_emitted (right_root rule c r s root) b)
    (layout_emitted (left_root c s factors) a)

module _ (c : Request) (o : Option ℕ) where
  both : (rule : Rule) (root : ℕ) (a b : Layout) (right : List PlainPass) (first : List Pass) →
      CanShareLayout (target_of c) (by rule root a b) → IsGoodLayout c.modulus (by rule root a b) →
      HasWorks IsNodeWork a → HasParts (target_of c) (layout_size a) (layout_size b) →
      (AreShares c.size c.procs c.lanes (layout_size a) (layout_size b) → nests right ≡ emitted first) →
      closed-phases o (map nests (pass_phases c.procs right (left_passes c.procs c.lanes (layout_size b) a)))
      ≡ map emitted (in_phases (c.procs == 1) first
      (layout_emitted (left_root c (layout_size b) (factors_by o)) a))
  both rule root a b right first can good works parts is =
      let r = layout_size a in
      let s = layout_size b in
      let left = left_passes c.procs c.lanes s a in
      let one = c.procs == 1 in
      let dealt = shares_of (target_of c) (by rule root a b) r s can parts good.0.left good.0.right can.size in
      ap (closed-phases o) (map-phases (λ z. one_nest (loop_of z)) one right left)
      ∙ closed-parts one o (nests right) (nests left)
      (some-nests (left_pass c.procs c.lanes r s) (layout_passes [] [] a) (full_passes [] [] a))
      ∙ ap₂ (in_phases one) (is dealt) (left-closed c r s dealt a good.1 works refl o)
      ∙ sym (map-phases (λ q. emitted_nest q ∷ []) one first (layout_emitted (left_root c s (factors_by o)) a))

  root-closed : (l : Layout) → CanShareLayout (target_of c) l → IsGoodLayout c.modulus l → HasWorks IsNodeWork l →
      is_alone (target_of c) ≡ false →
      closed-phases o (map nests (root_passes (target_of c) l)) ≡ map emitted (root_emitted c (factors_by o) l)
  root-closed (work w) can good works shared = absurd (can.root shared)
  root-closed (by Gt root a b) can good works shared = absurd (can.root shared)
  root-closed (by Ct root a b) can good works shared =
      both Ct root a b _ _ can good works.0 (can.root shared)
      (λ dealt. ct_right c (layout_size a) (layout_size b) dealt root b good.2 works.1 refl)
  root-closed (by rule root a b) can good works shared =
      both rule root a b _ _ can good works.0 (can.root shared)
      (λ dealt. split_right c (layout_size a) (layout_size b) dealt root b good.2 works.1 refl rule (λ cs e. refl)
      (none-either (c.lanes == 1)))

-- ---- trees

-- the same passes, by the tree and by its layout
emitted-tree : (z : Request) (factors : Factors) (t : Breakdown) → size_of t ≡ z.size → is_plain z ≡ false →
    map emitted (root_phases z factors t) ≡ map emitted (root_emitted z factors (layout_of z t))
emitted-tree z factors (leaf n) is shared =
    ap (λ k. map emitted (root_emitted z factors (work (node_work z (leaf n))))) shared
emitted-tree z factors (node rule a b) is shared =
    let root = node_root z (size_of a * size_of b) in
    let la = layout_of (left_of rule z) a in
    let lb = layout_of (right_of rule z) b in
    let r : size_of a ≡ layout_size la = sym (layouts_have_size (left_of rule z) a) in
    let s : size_of b ≡ layout_size lb = sym (layouts_have_size (right_of rule z) b) in
    ap₂ (λ ps qs. map emitted (parts_emitted z rule (size_of a) (size_of b) root ps qs))
    (passes_of_layout (right_of rule z) (right_root rule z (size_of a) (size_of b) root) b)
    (passes_of_layout (left_of rule z) (left_root z (size_of b) factors) a)
    ∙ ap₂ (λ x y. map emitted
    (parts_emitted z rule x y root (layout_emitted (right_root rule z x y root) lb)
    (layout_emitted (left_root z y factors) la))) r s
    ∙ ap (λ k. map emitted
    (root_emitted z factors (if k then work (node_work z (node rule a b)) else by rule root la lb)))
    (sym (root_no_kernel z (size_of a * size_of b) is shared))

size-forward : (c : Request) (kind : Kind) → (forward_by kind c).size ≡ c.size
size-forward c Dft = refl
size-forward c _ = refl

-- the machine of the request whose trees it has is its own
root-inverted : (c : Request) (factors : Factors) (rule : Rule) (root : ℕ) (a b : Layout) →
    root_emitted (inverted c) factors (by rule root a b) ≡ root_emitted c factors (by rule root a b)
root-inverted c factors Gt root a b = refl
root-inverted c factors _ root a b = refl

root-forward : (c : Request) (factors : Factors) (l : Layout) (kind : Kind) →
    root_emitted (forward_by kind c) factors l ≡ root_emitted c factors l
root-forward c factors (by rule root a b) Idft = root-inverted c factors rule root a b
root-forward c factors _ _ = refl

-- ---- a layout

whole-around : (n : ℕ) (f : Factors) → IsAround [] 0 same [] [] n (whole_site f)
whole-around n f = record { counts = refl; load = λ cs e counts fits. refl; keep = λ cs e. refl }

module _ (c : Request) (t : Breakdown) (valid : IsValid c) (h : IsWholeTree c t) where
  abbrev l : Layout
  l = layout_of (forward_of c) t

  can : CanLower (target_of c) (whole_of c t)
  can = trees_can_lower c t valid h

  -- ---- on one processor and one lane

  module _ (plain : is_plain c ≡ true) where
    abbrev ps : List PlainPass
    ps = layout_passes [] [] l

    matches : (f : Factors) → ArePasses [] 0 same [] (layout_size l) (whole_site f) ps (layout_emitted (whole_site f) l)
    matches f =
        let size = can.shares.size in
        let some = can.shares.some in
        let small = can.shares.small in
        layouts_match [] 0 same refl c.modulus (layout_size l) [] [] (whole_site f) l
        (record { low = omega (arith, size, some); high = omega (arith, size, small) })
        can.good.layout (tree_works (forward_of c) t) refl
        (whole-around (layout_size l) f)

    some : 0 < layout_size l
    some = let size = can.shares.size in let low = can.shares.some in omega (arith, size, low)

    good : AllPasses (IsLooped c.modulus (layout_size l)) ps
    good =
        looped-all c.modulus (layout_size l) ps
        (shaped_passes (IsShapedWork c.modulus) c.modulus (layout_size l) [] [] l tt can.good.layout
        (shaped_works c.modulus l can.good.layout) refl)
        (shaped_passes IsNodeWork c.modulus (layout_size l) [] [] l tt can.good.layout
        (tree_works (forward_of c) t) refl)

    -- a pass that is the same is the same nest
    nest : (p : PlainPass) (q : Pass) → IsLooped c.modulus (layout_size l) p → IsSame [] 0 same p q →
        nest_of (loop_of p) ≡ emitted_nest q
    nest p q looped is = same-nest c.modulus (layout_size l) p q some looped is

    -- the nests of the layout's passes, in one phase
    pub closed_passes : tree_merged c t ≡ phases-in c (closed-phases (factor_by c.kind c) (nests ps ∷ []))
    closed_passes = closed_tree c t valid h
        ∙ ap (λ qs. phases-in c (closed-phases (factor_by c.kind c) (map nests qs))) (plain_phases (target_of c) l plain)

    abbrev qs : Factors → List Pass
    qs f = passes (forward_of c) (whole_site f) t

    pub closed : (o : Option ℕ) → closing o (nests ps) ≡ emitted (qs (factors_by o))
    closed o =
        closed-passes [] 0 same (λ p. p) (IsLooped c.modulus (layout_size l)) nest (layout_size l)
        (whole_site (factors_by o)) (λ cs e. refl) o refl ps _ good (matches (factors_by o))
        ∙ ap emitted (sym (passes_of_layout (forward_of c) (whole_site (factors_by o)) t))

    pub with-own : (ds : List ℕ) →
        on_last (map (multiplying (sums.values ds) (λ es. es))) (nests ps) ≡ emitted (qs (entries (values ds) same))
    with-own ds =
        factors-passes [] 0 same (λ p. p) (IsLooped c.modulus (layout_size l)) nest (layout_size l)
        (whole_site (entries (values ds) same)) (λ cs e. refl) (sums.values ds) same (λ es. es) (λ counts w own. refl)
        (λ cs stored own es step. maps-same stored own es step) ps _ good (matches (entries (values ds) same))
        ∙ ap emitted (sym (passes_of_layout (forward_of c) (whole_site (entries (values ds) same)) t))

    pub plain_emission : program_for c t ≡ emission c t
    plain_emission =
        let o = factor_by c.kind c in
        emission-by c t valid h
        (ap (λ zs. closed-phases o (map nests zs)) (plain_phases (target_of c) l plain)
        ∙ closed-one o (nests ps)
        ∙ ap (λ z. z ∷ []) (closed o)
        ∙ ap (λ b. map emitted
        (if b then qs (factors_by o) ∷ [] else root_phases (forward_of c) (factors_by o) t))
        (sym (plain-forward c c.kind ∙ plain)))

  -- ---- on several

  module _ (shared : is_plain c ≡ false) where
    forward_shared : is_plain (forward_of c) ≡ false
    forward_shared = plain-forward c c.kind ∙ shared

    forward_size : size_of t ≡ (forward_of c).size
    forward_size = sym (layouts_have_size (forward_of c) t) ∙ can.shares.size ∙ sym (size-forward c c.kind)

    pub shared_emission : program_for c t ≡ emission c t
    shared_emission =
        let o = factor_by c.kind c in
        let factors = factors_by o in
        emission-by c t valid h
        (ap (λ ps. closed-phases o (map nests ps)) (root_merged (target_of c) l can.shares can.good.layout shared)
        ∙ root-closed c o l can.shares can.good.layout (tree_works (forward_of c) t) shared
        ∙ ap (map emitted) (sym (root-forward c factors l c.kind))
        ∙ sym (emitted-tree (forward_of c) factors t forward_size forward_shared)
        ∙ ap (λ b. map emitted
        (if b then passes (forward_of c) (whole_site factors) t ∷ [] else root_phases (forward_of c) factors t))
        (sym forward_shared))

-- ---- convolutions

pub conv_emissions : (r : Request) (t : Breakdown) (ls : List ℕ) → IsConvRequest r → IsValid r → IsWholeTree r t →
    conv_program r t ls ≡ conv_emission r t ls
conv_emissions r t ls request valid h =
    let ds = factors_of r ls in
    let o = whole_site (entries (values ds) same) in
    let back = inverted r in
    let valid' = inverse_valid r request valid in
    let h' = inverse_tree r request valid t h in
    let plain : is_plain r ≡ true = ap₂ (λ p v. p == 1 && v == 1) request.procs request.lanes in
    let forward : forward_of r ≡ r =
    forward_itself r (λ inverse. let other : Dft ≡ Idft = sym request.kind ∙ inverse in cc) in
    let ps = layout_passes [] [] (layout_of (forward_of r) t) in
    let qs = layout_passes [] [] (layout_of back t) in
    ap (program_of (target_of r))
    (ap₂ (λ g k. joined g ds k)
    (closed_passes r t valid h plain
    ∙ ap (λ kind. phases-in r (closed-phases (factor_by kind r) (nests ps ∷ []))) request.kind)
    (closed_passes back t valid' h' plain)
    ∙ ap₂ (λ xs ys. phases-in r ((on_last (map (multiplying (sums.values ds) (λ es. es))) xs ++ ys) ∷ []))
    (append-nil (nests ps)) (append-nil (nests qs))
    ∙ ap₂ (λ xs ys. phases-in r ((xs ++ ys) ∷ []))
    (with-own r t valid h plain ds ∙ ap (λ z. emitted (passes z o t)) forward)
    (closed back t valid' h' plain None)
    ∙ ap (λ zs. phases-in r (zs ∷ []))
    (sym (map-append (λ q. emitted_nest q ∷ []) (passes r o t) (passes back (whole_site none) t))))
    ∙ programs-by-passes r ((passes r o t ++ passes back (whole_site none) t) ∷ [])
    (plain-joined-passes (passes r o t) (passes back (whole_site none) t)
    (plain-passes r o t (plain-whole (entries (values ds) same) (λ cs k plain. plain)))
    (plain-passes back (whole_site none) t (plain-whole none tt)))
