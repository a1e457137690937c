-- What holds of the places of a shared layout's passes.
use Rattle.sigma_lower.proofs.Words.{◌≡◌, ℕ, ◌*◌, ◌/◌, ◌≤◌, Bool, true, false, arith, refl, sym, ap, ◌∙◌, List, [], ◌∷◌}
use Rattle.sigma_lower.proofs.Words.{◌++◌, if◌then◌else◌, subst, mul_comm, append-nil, ◌==◌, map, Option, None, Some}
use Rattle.sigma_lower.proofs.Words.{Mapping, Target, none-some, same_Some, PlainDiagonal, PlainPass, multiplied}
use Rattle.sigma_lower.proofs.Words.{at_last, in_order, IsLimitedPass, right_path, left_path, vectors_grouped}
use Rattle.sigma_lower.proofs.Words.{PlainWork, tile, work_size, Layout, work, by, layout_size, IsGoodLayout, Columns}
use Rattle.sigma_lower.proofs.Words.{Path, size_under, Rule, Gt, Ct, CanShareLayout, RuleHasParts, is_alone}
use Rattle.sigma_spl.proofs.Several.{several-append}
use Rattle.sigma_lower.proofs.TreeLoops.LeftPlaces.{size_under-append, mapped-some, left_fills, left_wide, left_limited}
use Rattle.sigma_lower.proofs.TreeLoops.PartRules.{IsSize}
use Rattle.sigma_lower.proofs.TreeLoops.PlaceLimits.{Gathering, gathering-natural, ArePlaced, placed-multiplied}
use Rattle.sigma_lower.proofs.TreeLoops.PlaceLimits.{limited_pass, whole_placed}
use Rattle.sigma_lower.proofs.TreeLoops.RightPlaces.{right_fills, right_wide, gathering-turned, right_placed}
use Rattle.sigma_lower.proofs.TreeLoops.RootPasses.{turned_waiting, tile_before, tile_after, if_lanes, left_diagonal}
use Rattle.sigma_lower.proofs.TreeLoops.RootPasses.{left_pass, right_passes, root_passes}
use Rattle.sigma_lower.proofs.TreeLoops.RootShares.{AreShares, shares_of, rows_size}
use Rattle.sigma_lower.proofs.TreeLoops.PassLists.{AllPasses, all-append, all-last, all-map}
use Rattle.sigma_lower.proofs.TreeLoops.Shaped.{IsShaped, AreShaped, HasWorks, multiplied-shaped, shaped_passes}
use Rattle.sigma_lower.proofs.TreeLoops.TilePlaces.{tile_fills, tile_wide, KeepWithin, none_keep, grouped_keep}
use Rattle.sigma_lower.proofs.TreeLoops.TilePlaces.{tile_with, tile_limited}
use Rattle.sigma_lower.proofs.TreeLoops.TreePasses.{layout_passes, at_last-append}
use Rattle.sigma_lower.proofs.TreeTerms.RootTerms.{rule-fits}

-- ---- lists of passes

-- a pass within the limits, whose copies fill the whole, and P holds of its work
pub record IsGoodPlace (c : Target) (P : PlainWork → Type 0) (p : PlainPass) : Type 0 where
  pub limited : IsLimitedPass c p
  pub shaped : IsShaped P c.size p

abbrev pub HaveGoodPlaces : Target → (PlainWork → Type 0) → List PlainPass → Type 0
HaveGoodPlaces c P ps = AllPasses (IsGoodPlace c P) ps

pub good-both : (c : Target) (P : PlainWork → Type 0) (ps : List PlainPass) → ArePlaced c.size [] c.size ps →
    AreShaped P c.size ps → HaveGoodPlaces c P ps
good-both c P [] at_places shaped = tt
good-both c P (p ∷ ps) at_places shaped =
    (record { limited = limited_pass c p at_places.0; shaped = shaped.0 }, good-both c P ps at_places.1 shaped.1)

good-if : (c : Target) (P : PlainWork → Type 0) (b : Bool) (p : PlainPass) → HaveGoodPlaces c P (p ∷ []) →
    HaveGoodPlaces c P (if b then [] else p ∷ [])
good-if c P true p h = tt
good-if c P false p h = h

-- ---- the parts of a root

module _ (c : Target) (P : PlainWork → Type 0) (p v r s : ℕ) (h : AreShares c.size p v r s) where
  abbrev size : ℕ
  size = c.size

  -- ---- the right part

  right_tree : (b : Layout) (waiting : List Mapping) → IsGoodLayout c.modulus b → layout_size b ≡ s →
      Gathering size (right_path p v r) waiting s →
      ArePlaced size [] size (layout_passes (right_path p v r) waiting b)
  right_tree b waiting formed is g =
      right_placed c.modulus size (right_path p v r) waiting b h.whole formed (ap (size_under (right_path p v r)) is ∙ right_fills size p v r s h) (subst (Gathering size (right_path p v r) waiting) (sym is) g)

  right_good : (b : Layout) (waiting : List Mapping) → IsGoodLayout c.modulus b → HasWorks P b → layout_size b ≡ s →
      Gathering size (right_path p v r) waiting s →
      HaveGoodPlaces c P (layout_passes (right_path p v r) waiting b)
  right_good b waiting formed all is g =
      let path : Path = right_path p v r in
      let fills : size_under path (layout_size b) ≡ size = ap (size_under path) is ∙ right_fills size p v r s h in
      good-both c P (layout_passes path waiting b) (right_tree b waiting formed is g)
      (shaped_passes P c.modulus size path waiting b (right_wide size p v r s h) formed all fills)

  -- a pass over tiles
  tile_good : P (tile v) → (befores afters : List Mapping) (diagonal : Option PlainDiagonal) →
      KeepWithin size p v r s h befores → KeepWithin size p v r s h afters →
      ((d : PlainDiagonal) → diagonal ≡ Some d → (w : ℕ) × ◌≡◌ {A = PlainDiagonal} (record { path = []; rows = r; cols = s; root = w; places = afters }) d) → HaveGoodPlaces c P (tile_with size p v r s h befores diagonal afters ∷ [])
  tile_good over befores afters diagonal before after root =
      let shape : IsShaped P size (tile_with size p v r s h befores diagonal afters) = record {
        wide = tile_wide size p v r s h;
        fills = tile_fills size p v r s h;
        work = over;
        multiplies = λ d e. subst (λ (x : PlainDiagonal). size_under x.path (x.rows * x.cols) ≡ size) (root d e).1 h.product;
      } in
      (record { limited = tile_limited size p v r s h c befores afters diagonal refl before after root; shaped = shape }, tt)

  no-diagonal : (afters : List Mapping) (d : PlainDiagonal) → ◌≡◌ {A = Option PlainDiagonal} None (Some d) → (w : ℕ) × ◌≡◌ {A = PlainDiagonal} (record { path = []; rows = r; cols = s; root = w; places = afters }) d
  no-diagonal afters d e = absurd (none-some d e)

  before_good : P (tile v) → HaveGoodPlaces c P (tile_before p v r s ∷ [])
  before_good over =
      tile_good over (vectors_grouped (s / v * v) p v r s ∷ []) [] None (grouped_keep size p v r s h (s / v * v) refl) (none_keep size p v r s h) (no-diagonal [])

  after_good : P (tile v) → HaveGoodPlaces c P (tile_after p v r s ∷ [])
  after_good over =
      let n : ℕ = v * (s / v) in
      let is : n ≡ s / v * v = mul_comm v (s / v) in
      tile_good over [] (vectors_grouped n p v r s ∷ []) None (none_keep size p v r s h) (grouped_keep size p v r s h n is) (no-diagonal (vectors_grouped n p v r s ∷ []))

  twiddled_good : P (tile v) → (w : ℕ) → HaveGoodPlaces c P (multiplied [] r s w (tile_after p v r s) ∷ [])
  twiddled_good over w =
      let n : ℕ = v * (s / v) in
      let is : n ≡ s / v * v = mul_comm v (s / v) in
      let fs : List Mapping = vectors_grouped n p v r s ∷ [] in
      tile_good over [] fs (Some (record { path = []; rows = r; cols = s; root = w; places = fs })) (none_keep size p v r s h) (grouped_keep size p v r s h n is) (λ d e. (w, same_Some _ d e))

  -- the right part with the root's diagonal after it, on one lane
  multiplied_tree : (w : ℕ) (ps : List PlainPass) → ArePlaced size [] size ps → HaveGoodPlaces c P ps →
      HaveGoodPlaces c P (at_last (multiplied [] r s w) ps)
  multiplied_tree w ps placed_passes good =
      let low : r * s ≤ 1048576 = omega (arith, h.product, h.whole.high) in
      good-both c P (at_last (multiplied [] r s w) ps)
      (subst (λ n. ArePlaced size [] n (at_last (multiplied [] r s w) ps)) h.product (placed-multiplied size [] r s w ps low low (omega (arith, h.product)) (subst (λ n. ArePlaced size [] n ps) (sym h.product) placed_passes)))
      (all-last (IsShaped P size) (multiplied [] r s w) (λ q k. multiplied-shaped P size [] r s w q h.product k) ps
      (all-map (IsGoodPlace c P) (IsShaped P size) (λ q k. k.shaped) ps good))

  ct-pick : (w : ℕ) (b : Bool) (ps : List PlainPass) (last : PlainPass) →
      HaveGoodPlaces c P (at_last (multiplied [] r s w) ps) → HaveGoodPlaces c P ps →
      HaveGoodPlaces c P (multiplied [] r s w last ∷ []) →
      HaveGoodPlaces c P (at_last (multiplied [] r s w) (ps ++ (if b then [] else last ∷ [])))
  ct-pick w true ps last merged_last all one = subst (λ qs. HaveGoodPlaces c P (at_last (multiplied [] r s w) qs)) (sym (append-nil ps)) merged_last
  ct-pick w false ps last merged_last all one = subst (HaveGoodPlaces c P) (sym (at_last-append (multiplied [] r s w) ps (last ∷ []) tt)) (all-append (IsGoodPlace c P) ps (multiplied [] r s w last ∷ []) all one)

  pub ct_good : (w : ℕ) (b : Layout) → P (tile v) → IsGoodLayout c.modulus b → HasWorks P b → layout_size b ≡ s →
      HaveGoodPlaces c P (at_last (multiplied [] r s w) (layout_passes (right_path p v r) (turned_waiting p v r s) b
      ++ if_lanes v (tile_after p v r s)))
  ct_good w b over formed all is =
      let ps : List PlainPass = layout_passes (right_path p v r) (turned_waiting p v r s) b in
      let g : Gathering size (right_path p v r) (turned_waiting p v r s) s = gathering-turned size p v r s h in
      let good : HaveGoodPlaces c P ps = right_good b (turned_waiting p v r s) formed all is g in
      ct-pick w (v == 1) ps (tile_after p v r s) (multiplied_tree w ps (right_tree b (turned_waiting p v r s) formed is g) good) good (twiddled_good over w)

  pub split_good : (b : Layout) → P (tile v) → IsGoodLayout c.modulus b → HasWorks P b → layout_size b ≡ s →
      HaveGoodPlaces c P (if_lanes v (tile_before p v r s) ++ (layout_passes (right_path p v r) [] b
      ++ if_lanes v (tile_after p v r s)))
  split_good b over formed all is =
      let ps : List PlainPass = layout_passes (right_path p v r) [] b in
      let g : Gathering size (right_path p v r) [] s = gathering-natural size (right_path p v r) s (right_fills size p v r s h) in
      all-append (IsGoodPlace c P) (if_lanes v (tile_before p v r s)) (ps ++ if_lanes v (tile_after p v r s)) (good-if c P (v == 1) (tile_before p v r s) (before_good over))
      (all-append (IsGoodPlace c P) ps (if_lanes v (tile_after p v r s)) (right_good b [] formed all is g) (good-if c P (v == 1) (tile_after p v r s) (after_good over)))

  -- ---- the left part

  -- the diagonal of a pass of the part, in all copies
  left_fills-diagonal : (d : PlainDiagonal) → size_under d.path (d.rows * d.cols) ≡ r →
      size_under (Columns s ∷ d.path) (d.rows * d.cols) ≡ size
  left_fills-diagonal d fills = ap (λ k. k * s) fills ∙ h.product

  left_shaped : (q : PlainPass) → IsShaped P r q → IsShaped P size (left_pass p v r s q)
  left_shaped q shape =
      record {
        wide = several-append (left_path p v s) q.path (left_wide size p v r s h) shape.wide;
        fills = size_under-append (left_path p v s) q.path (work_size q.work) ∙ ap (size_under (left_path p v s)) shape.fills ∙ left_fills size p v r s h;
        work = shape.work;
        multiplies = λ o is.
            let found = mapped-some (left_diagonal p v r s) q.diagonal o is in
            subst (λ (x : PlainDiagonal). size_under x.path (x.rows * x.cols) ≡ size) found.2 (left_fills-diagonal found.0 (shape.multiplies found.0 found.1));
      }

  left_all : (qs : List PlainPass) → ArePlaced r [] r qs → AreShaped P r qs →
      HaveGoodPlaces c P (map (left_pass p v r s) qs)
  left_all [] at_part shape = tt
  left_all (q ∷ qs) at_part shape =
      let limited = left_limited size p v r s h c q refl shape.0.fills at_part.0 in
      (record { limited = limited; shaped = left_shaped q shape.0 }, left_all qs at_part.1 shape.1)

  pub left_good : (a : Layout) → IsGoodLayout c.modulus a → HasWorks P a → layout_size a ≡ r →
      HaveGoodPlaces c P (map (left_pass p v r s) (layout_passes [] [] a))
  left_good a formed all is =
      let whole : IsSize (layout_size a) = subst IsSize (sym is) (rows_size size p v r s h) in
      let ps : List PlainPass = layout_passes [] [] a in
      left_all ps (subst (λ n. ArePlaced n [] n ps) is (whole_placed c.modulus a whole formed))
      (shaped_passes P c.modulus r [] [] a tt formed all is)

-- ---- the root

phases_good : (c : Target) (P : PlainWork → Type 0) (b : Bool) (right left : List PlainPass) →
    HaveGoodPlaces c P right → HaveGoodPlaces c P left → HaveGoodPlaces c P
    (in_order (if b then (right ++ left) ∷ [] else right ∷ left ∷ []))
phases_good c P true right left h k = all-append (IsGoodPlace c P) (right ++ left) [] (all-append (IsGoodPlace c P) right left h k) tt
phases_good c P false right left h k = all-append (IsGoodPlace c P) right (left ++ []) h (all-append (IsGoodPlace c P) left [] k tt)

-- a shared root is a ct or a split of sizes that fit
pub root_good : (c : Target) (P : PlainWork → Type 0) (l : Layout) → CanShareLayout c l → IsGoodLayout c.modulus l →
    HasWorks P l → P (tile c.lanes) → is_alone c ≡ false →
    HaveGoodPlaces c P (in_order (root_passes c l))
root_good c P (work w) h good all over shared = absurd (h.root shared)
root_good c P (by rule root a b) h good all over shared =
    let r = layout_size a in
    let s = layout_size b in
    let parts = rule-fits c rule r s (h.root shared) in
    let shares = shares_of c (by rule root a b) r s h parts good.0.left good.0.right h.size in
    phases_good c P (c.procs == 1) _ _ (right rule (h.root shared) shares)
    (left_good c P c.procs c.lanes r s shares a good.1 all.0 refl)
  where
    right : (rule : Rule) → RuleHasParts c rule (layout_size a) (layout_size b) →
        AreShares c.size c.procs c.lanes (layout_size a) (layout_size b) →
        HaveGoodPlaces c P (right_passes c.procs c.lanes rule root a b)
    right Gt fits shares = absurd fits
    right Ct fits shares =
        ct_good c P c.procs c.lanes (layout_size a) (layout_size b) shares root b over good.2 all.1 refl
    right _ fits shares =
        split_good c P c.procs c.lanes (layout_size a) (layout_size b) shares b over good.2 all.1 refl
