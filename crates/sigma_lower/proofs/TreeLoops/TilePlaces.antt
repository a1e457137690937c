-- The places of tiles.
use Rattle.sigma_lower.proofs.Words.{◌≡◌, ℕ, ◌+◌, ◌*◌, ◌/◌, ◌<◌, arith, sym, ap, ◌∙◌, List, [], ◌∷◌, ◌++◌}
use Rattle.sigma_lower.proofs.Words.{if◌then◌else◌, subst, ◌==◌, Option, Some, Mapping, Same, Target, AreSeveral, Sum}
use Rattle.sigma_lower.proofs.Words.{constant, variable, PlainDiagonal, PlainPass, Fits, IsCarried, place_sum}
use Rattle.sigma_lower.proofs.Words.{AreCounts, all_simplified, diagonal_places, IsLimitedPass, tile_path}
use Rattle.sigma_lower.proofs.Words.{vectors_grouped, tile, Blocks, Path, size_under, ArePlacesLimited}
use Rattle.sigma_lower.proofs.TreeLoops.LineMoves.{LeadsTo, leads-same, grouped-leads, number-fits}
use Rattle.sigma_lower.proofs.TreeLoops.PlaceLimits.{natural-fits}
use Rattle.sigma_lower.proofs.TreeLoops.RightPlaces.{wide-all}
use Rattle.sigma_lower.proofs.TreeLoops.RootShares.{AreShares, rows_some, tiles_fill, tiles_some, tiles_small}
use Rattle.sigma_lower.proofs.TreeLoops.Staying.{StaysIn, carried-end, carried-push}
use Rattle.sigma_lower.proofs.TreeLoops.WithinPlaces.{size-all, natural-placed, natural-copies}

module _ (size p v r s : ℕ) (h : AreShares size p v r s) where
  abbrev three : Path
  three = Blocks p ∷ Blocks (r / p / v) ∷ Blocks (s / v) ∷ []

  tile_whole : size_under three (v * v) ≡ size
  tile_whole =
      let rows : r * s ≡ p * (v * (r / p / v)) * s = ap (λ k. k * s) h.rows in
      let columns : p * (v * (r / p / v)) * (v * (s / v)) ≡ p * (v * (r / p / v)) * s = ap (λ k. p * (v * (r / p / v)) * k) (tiles_fill size p v r s h) in omega (arith, h.product, rows, columns)

  pub tile_fills : size_under (tile_path p v r s) (v * v) ≡ size
  tile_fills = size-all three (v * v) ∙ tile_whole

  pub tile_wide : AreSeveral (tile_path p v r s)
  tile_wide = wide-all three (h.procs, (rows_some size p v r s h, (tiles_some size p v r s h, tt)))

  -- functions that keep the places of tiles' items within the limits
  abbrev pub KeepWithin : List Mapping → Type 0
  KeepWithin fs = (cs : ℕ → ℕ) (k : ℕ) → AreCounts (tile_path p v r s) (v * v) 0 cs → k < v * v → StaysIn cs size fs (place_sum (tile_path p v r s) (v * v) 0 (constant k))

  pub none_keep : KeepWithin []
  none_keep cs k counts below = natural-fits size (tile_path p v r s) (v * v) 0 (constant k) cs tile_fills counts (number-fits (v * v) k cs below)

  pub grouped_keep : (g : ℕ) → g ≡ s / v * v → KeepWithin (vectors_grouped g p v r s ∷ [])
  grouped_keep n is cs k counts below =
      let t : ℕ = s / v in
      let q : Sum = if p == 1 then constant 0 else variable 1 0 (constant 0) in
      let d1 : ℕ = if p == 1 then 0 else 0 + 1 in
      let g : Sum = if r / p / v == 1 then constant 0 else variable 1 d1 (constant 0) in
      let d2 : ℕ = if r / p / v == 1 then d1 else d1 + 1 in
      let i : Sum = if t == 1 then constant 0 else variable 1 d2 (constant 0) in
      let named = natural-copies three (v * v) 0 cs counts in
      let from : Sum = place_sum (tile_path p v r s) (v * v) 0 (constant k) in
      let lead : LeadsTo cs size (vectors_grouped n p v r s ∷ []) from _ =
      leads-same cs size (vectors_grouped n p v r s ∷ []) from _ _ (natural-placed three (v * v) 0 (constant k))
      (grouped-leads p v (r / p / v) t size n q g i k cs named.0 named.1.0 named.1.1.0 below is tile_whole h.whole.high (tiles_small size p v r s h)) in lead.stays

  -- a pass over tiles with such functions, and with the diagonal of the root after it or none
  abbrev pub tile_with : List Mapping → Option PlainDiagonal → List Mapping → PlainPass
  tile_with befores diagonal afters = record { path = tile_path p v r s; work = tile v; befores = befores; diagonal = diagonal; afters = afters }

  pub tile_limited : (c : Target) (befores afters : List Mapping) (diagonal : Option PlainDiagonal) → c.size ≡ size →
      KeepWithin befores → KeepWithin afters →
      ((d : PlainDiagonal) → diagonal ≡ Some d → (w : ℕ) × (record { path = []; rows = r; cols = s; root = w; places = afters } ≡ d)) → IsLimitedPass c (tile_with befores diagonal afters)
  tile_limited c befores afters diagonal sized before after root cs e counts fits (k, is) =
      let n : ℕ = v * v in
      let below : k < n = omega (arith, (subst (λ z. Fits n z cs) is fits).small) in
      let from : Sum = place_sum (tile_path p v r s) n 0 (constant k) in
      let one = before cs k counts below in
      let other = after cs k counts below in
      subst (ArePlacesLimited c (tile_with befores diagonal afters) cs) (sym is)
      (record {
        loads = subst (λ m. IsCarried cs m m befores from) (sym sized) one;
        stores = subst (λ m. IsCarried cs m m afters from) (sym sized) other;
        factors = λ d e.
            subst (λ x. IsCarried cs c.size (x.rows * x.cols) (diagonal_places x) from) (root d e).1
            (subst (λ m. IsCarried cs m (r * s) (afters ++ Same ∷ []) from) (sym sized)
            (carried-push cs size (r * s) afters Same from other tt (subst (λ m. Fits m (all_simplified cs afters from) cs) (sym h.product) (carried-end cs size size afters from other))));
      })
