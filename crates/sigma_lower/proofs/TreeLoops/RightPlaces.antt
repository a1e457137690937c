-- The places of the right part of a shared root.
use Rattle.sigma_lower.proofs.Words.{◌≡◌, ℕ, ◌+◌, ◌*◌, ◌/◌, ◌<◌, ◌≤◌, Bool, true, false, arith, refl, sym, ap, ◌∙◌}
use Rattle.sigma_lower.proofs.Words.{List, [], ◌∷◌, ◌++◌, if◌then◌else◌, subst, append-nil, append_assoc, ◌==◌}
use Rattle.sigma_lower.proofs.Words.{nat_tests, Mapping, AreSeveral, Sum, constant, variable, PlainPass, Fits}
use Rattle.sigma_lower.proofs.Words.{place_sum, right_path, within_all, Tensor, Blocks, Columns, Path, count_of}
use Rattle.sigma_lower.proofs.Words.{size_under, Layout, layout_size, IsGoodLayout}
use Rattle.sigma_lower.proofs.TreeLoops.InCopies.{placed}
use Rattle.sigma_lower.proofs.TreeLoops.LineMoves.{LeadsTo, AreThree, leads-same, turned-leads}
use Rattle.sigma_lower.proofs.TreeLoops.PartRules.{IsSize}
use Rattle.sigma_lower.proofs.TreeLoops.PlaceLimits.{Gathering, ArePlaced, placed-lift, placed_passes}
use Rattle.sigma_lower.proofs.TreeLoops.RootPasses.{turned_waiting}
use Rattle.sigma_lower.proofs.TreeLoops.RootShares.{AreShares, rows_some, lines_small, vectors_small}
use Rattle.sigma_lower.proofs.TreeLoops.TreePasses.{layout_passes}
use Rattle.sigma_lower.proofs.TreeLoops.WithinPlaces.{size-all, natural-placed, natural-copies}

-- ---- tensors of more than one copy

abbrev pub HaveSome : Path → Type 0
HaveSome [] = Unit {0}
HaveSome (t ∷ ts) = (0 < count_of t) × HaveSome ts

several-of : (n : ℕ) → 0 < n → (n == 1) ≡ false → 2 ≤ n
several-of n some other = grind (arith, nat_tests)

wide-pick : (b : Bool) (t : Tensor) (path : Path) → (b ≡ false → 2 ≤ count_of t) → AreSeveral path →
    AreSeveral (if b then path else t ∷ path)
wide-pick true t path two h = h
wide-pick false t path two h = (two refl, h)

pub wide-all : (ts : Path) → HaveSome ts → AreSeveral (within_all ts [])
wide-all [] h = tt
wide-all (t ∷ ts) h = wide-pick (count_of t == 1) t (within_all ts []) (several-of (count_of t) h.0) (wide-all ts h.1)

-- ---- the root's permutation before the right part

module _ (size p v r s : ℕ) (h : AreShares size p v r s) where
  abbrev three : Path
  three = Blocks p ∷ Columns v ∷ Blocks (r / p / v) ∷ []

  right_whole : size_under three s ≡ size
  right_whole = let rows : r * s ≡ p * (v * (r / p / v)) * s = ap (λ k. k * s) h.rows in omega (arith, h.product, rows)

  pub right_fills : size_under (right_path p v r) s ≡ size
  right_fills = size-all three s ∙ right_whole

  pub right_wide : AreSeveral (right_path p v r)
  right_wide = wide-all three (h.procs, (h.lanes, (rows_some size p v r s h, tt)))

  right_leads : (cs : ℕ → ℕ) (q l j e : Sum) → AreThree cs p v (r / p / v) q l j → Fits s e cs →
      LeadsTo cs size (turned_waiting p v r s) (placed three s (q ∷ l ∷ j ∷ []) e)
      (placed (Columns v ∷ Columns (r / p / v) ∷ Columns p ∷ []) s (l ∷ j ∷ q ∷ []) e)
  right_leads cs q l j e named fits = turned-leads p v (r / p / v) s size q l j e cs named fits right_whole h.whole.high (lines_small size p v r s h) (vectors_small size p v r s h)

  pub gathering-turned : Gathering size (right_path p v r) (turned_waiting p v r s) s
  gathering-turned cs d e counts fits =
      let q : Sum = if p == 1 then constant 0 else variable 1 d (constant 0) in
      let d1 : ℕ = if p == 1 then d else d + 1 in
      let l : Sum = if v == 1 then constant 0 else variable 1 d1 (constant 0) in
      let d2 : ℕ = if v == 1 then d1 else d1 + 1 in
      let j : Sum = if r / p / v == 1 then constant 0 else variable 1 d2 (constant 0) in
      let copies = natural-copies three s d cs counts in
      let named : AreThree cs p v (r / p / v) q l j = record { processor = copies.0; lane = copies.1.0; other = copies.1.1.0 } in
      (leads-same cs size (turned_waiting p v r s) (place_sum (right_path p v r) s d e) _ _ (natural-placed three s d e) (right_leads cs q l j e named fits)).stays

-- ---- passes under a path, as passes of the whole

pub lift-all : (size : ℕ) (front back : Path) (n : ℕ) (ps : List PlainPass) → ArePlaced size (front ++ back) n ps →
    ArePlaced size front (size_under back n) ps
lift-all size front [] n ps h = subst (λ path. ArePlaced size path n ps) (append-nil front) h
lift-all size front (t ∷ back) n ps h =
    placed-lift size front t (size_under back n) ps (lift-all size (front ++ t ∷ []) back n ps (subst (λ path. ArePlaced size path n ps) (sym (append_assoc front (t ∷ []) back)) h))

-- the right part's passes, where these gathers wait
pub right_placed : (m size : ℕ) (path : Path) (waiting : List Mapping) (b : Layout) → IsSize size → IsGoodLayout m b →
    size_under path (layout_size b) ≡ size → Gathering size path waiting (layout_size b) →
    ArePlaced size [] size (layout_passes path waiting b)
right_placed m size path waiting b whole formed fills g =
    subst (λ n. ArePlaced size [] n (layout_passes path waiting b)) fills (lift-all size [] path (layout_size b) _ (placed_passes m size path waiting b whole formed fills g))
