-- The places of a pass's nest are the pass's, and the lanes of its registers stand side by side.
use Rattle.sigma_lower.proofs.Words.{◌≡◌, ℕ, ◌+◌, ◌*◌, ◌<◌, List, [], ◌∷◌, length, map, refl, sym, ap, ◌∙◌, arith}
use Rattle.sigma_lower.proofs.Words.{subst, Option, Some, None, option_map, none-some, same_Some, slice_index}
use Rattle.sigma_lower.proofs.Words.{PlainDiagonal, PlainPass, through, gather_place, scatter_place, loop_of, taken_of}
use Rattle.sigma_lower.proofs.Words.{AreCounts, Fits, IsLimitedPass, all_simplified, diagonal_places, place_sum, Sum}
use Rattle.sigma_lower.proofs.Words.{constant, value, Target, IsHost, item_of, lane_step, values_of, loops_of, nest_of}
use Rattle.sigma_lower.proofs.Words.{limits_in, multiplier_of, items_out, PlainMultiplier, load_place, store_place}
use Rattle.sigma_lower.proofs.Words.{factor_at, factor_count, PlainWork, work_size, ranged, IsFramed, count_of, place}
use Rattle.sigma_lower.proofs.Words.{AreInRange, inner_of, places_by, IsGoodLoop, vectors_of, sound-place_sum}
use Rattle.sigma_lower.specs.TreeLoops.Merge.{diagonal_place}
use Rattle.sigma_lower.proofs.TreeLoops.LineMoves.{number-fits}
use Rattle.sigma_lower.proofs.TreeLoops.LoopItems.{counts-from, name-constant}
use Rattle.sigma_lower.proofs.TreeLoops.PlaceValues.{follows, through-end}
use Rattle.sigma_lower.proofs.TreeLoops.Staying.{carried-end}
use Rattle.perm_algebra.proofs.AffineLaws.{value-le-top}
use Rattle.sigma_spl.proofs.Nests.{alone}
use Rattle.sigma_lower.proofs.TreeLoops.Shaped.{IsShaped, IsShapedWork}
use Rattle.sigma_spl.specs.Shared.Running.{FindsFactors, HasResidues, MovesVectors}
use Rattle.sigma_spl.proofs.Natural.{looped, place-alone}
use Rattle.sigma_spl.proofs.Listed.{loops_have_places}
use Rattle.sigma_lower.proofs.TreeSigmas.Frames.{range-of, named, values-named, IsShare, share-of, item-below}
use Rattle.matrix_meaning.proofs.Requests.{power_below}

-- a nest's diagonal is that of its pass
pub record IsTaken (p : PlainPass) (m : PlainMultiplier) : Type 0 where
  pub diagonal : PlainDiagonal
  pub is : p.diagonal ≡ Some diagonal
  pub same : m ≡ record { factors = (taken_of diagonal).factors; places = places_by (loop_of p) (taken_of diagonal).places (items_out p.work (length p.path)) }

pub taken-is : (p : PlainPass) (m : PlainMultiplier) → (nest_of (loop_of p)).multiplier ≡ Some m → IsTaken p m
taken-is p m = pick p.diagonal refl
  where
    pick : (o : Option PlainDiagonal) → p.diagonal ≡ o → multiplier_of (loop_of p) (option_map taken_of o) ≡ Some m →
        IsTaken p m
    pick None is e = absurd (none-some m e)
    pick (Some d) is e = record { diagonal = d; is = is; same = sym (same_Some _ m e) }

module _ (c : Target) (p : PlainPass) (good : IsGoodLoop c.lanes (loop_of p)) where
  abbrev w : PlainWork
  w = p.work

  module _ (vs : List ℕ) (k : ℕ) (range : AreInRange p.path vs) (below : k < work_size p.work) where
    pub load-is : load_place w (nest_of (loop_of p)).gathers vs k ≡ gather_place p vs k
    load-is = (loops_have_places c.lanes (loop_of p) vs k good (looped p.path vs range) below).loads

    pub store-is : store_place w (nest_of (loop_of p)).scatters vs k ≡ scatter_place p vs k
    store-is = (loops_have_places c.lanes (loop_of p) vs k good (looped p.path vs range) below).stores

    pub factor-is : (d : PlainDiagonal) → p.diagonal ≡ Some d →
        store_place w (places_by (loop_of p) (taken_of d).places (items_out w (length p.path))) vs k
        ≡ diagonal_place p d vs k
    factor-is d is =
        (loops_have_places c.lanes (loop_of p) vs k good (looped p.path vs range) below).factors (taken_of d)
        (ap (option_map taken_of) is)
        ∙ through-end d.places (inner_of d.path (d.rows * d.cols)) _

  -- the places of a nest's diagonal are those of its pass's
  taken-at : (m : PlainMultiplier) (t : IsTaken p m) (vs : List ℕ) (k : ℕ) → AreInRange p.path vs →
      k < work_size p.work → store_place w m.places vs k ≡ diagonal_place p t.diagonal vs k
  taken-at m t vs k range below =
      ap (λ (n : PlainMultiplier). store_place w n.places vs k) t.same ∙ factor-is vs k range below t.diagonal t.is

  -- ---- lanes

  module _ (host : IsHost c) (frame : IsFramed c p) (q : ℕ) (vs : List ℕ) (lane k : ℕ)
      (range : AreInRange (loops_of (map count_of p.path)) (values_of c w q lane vs)) (on : lane < c.lanes)
      (below : k < vectors_of w) where
    some : 0 < c.procs
    some = let procs = host.procs.0 in omega (arith, procs)

    share : IsShare c frame.loops q vs
    share = share-of c p frame q lane vs some (ranged p.path _ range)

    -- an item on a lane stands where the pass says, so the lanes are as far apart as there
    item-at : (at places : List ℕ → ℕ → ℕ) →
        ((us : List ℕ) (j : ℕ) → AreInRange p.path us → j < work_size p.work → at us j ≡ places us j) → (l : ℕ) →
        l < c.lanes →
        at (values_of c w q l vs) (item_of w k l) ≡ places (values_of c w (named c q) l vs) (item_of w k l)
    item-at at places is l high =
        ap (λ us. at us (item_of w k l)) (values-named c p.work q l vs)
        ∙ is (values_of c w (named c q) l vs) (item_of w k l)
        (range-of c p frame (named c q) l vs share.proc high share.inner) (item-below c p.work k l frame.lanes below high)

    apart : (at places : List ℕ → ℕ → ℕ) →
        ((us : List ℕ) (j : ℕ) → AreInRange p.path us → j < work_size p.work → at us j ≡ places us j) → (step : ℕ) →
        places (values_of c w (named c q) lane vs) (item_of w k lane)
        ≡ places (values_of c w (named c q) 0 vs) (item_of w k 0) + step →
        at (values_of c w q lane vs) (item_of w k lane) ≡ at (values_of c w q 0 vs) (item_of w k 0) + step
    apart at places is step moved =
        item-at at places is lane on ∙ moved ∙ ap (λ x. x + step) (sym (item-at at places is 0 (omega (arith, on))))

    pub moves-vectors : MovesVectors c (nest_of (loop_of p)) q vs lane k
    moves-vectors =
        let moved = frame.vectors vs (named c q) lane k share.inner share.proc on below in
        record {
          loads = apart (load_place w (nest_of (loop_of p)).gathers) (gather_place p) load-is lane moved.gathers;
          stores = apart (store_place w (nest_of (loop_of p)).scatters) (scatter_place p) store-is lane moved.scatters;
          factors = λ m is.
              let t = taken-is p m is in
              apart (store_place w m.places) (diagonal_place p t.diagonal) (taken-at m t) (lane_step w * lane)
              (frame.factors t.diagonal t.is vs (named c q) lane k share.inner share.proc on below);
        }

  -- ---- factors

  -- the place of an item in its diagonal is a sum within the limits
  factor-below : (vs : List ℕ) (k : ℕ) → IsShaped (IsShapedWork c.modulus) c.size p → IsLimitedPass c p →
      AreInRange (loops_of (map count_of p.path)) vs → k < work_size w → (d : PlainDiagonal) → p.diagonal ≡ Some d →
      diagonal_place p d vs k < d.rows * d.cols
  factor-below vs k shape limited range below d is =
      let n = work_size w in
      let cs = limits_in (loop_of p) in
      let us = slice_index vs in
      let item : Sum = constant k in
      let natural : Sum = place_sum p.path n 0 item in
      let counts : AreCounts p.path n 0 cs =
      counts-from p.path n 0 cs (n ∷ n ∷ []) shape.wide good.some (λ i. ap cs (omega arith)) in
      let placed = limited cs item counts (number-fits n k cs below) (name-constant w k) in
      let fits : Fits (d.rows * d.cols) (all_simplified cs (diagonal_places d) natural) cs =
      carried-end cs c.size (d.rows * d.cols) (diagonal_places d) natural (placed.factors d is) in
      let formed = (good.taken (taken_of d) (ap (option_map taken_of) is)).formed in
      let inside = alone (map count_of p.path) n vs range in
      let led = follows cs us (diagonal_places d) natural formed inside (sound-place_sum p.path n 0 item tt) in
      let value_is : value (all_simplified cs (diagonal_places d) natural) us ≡ diagonal_place p d vs k =
      led.value_is
      ∙ ap (through (diagonal_places d)) (place-alone p.path n k vs (ranged p.path vs range))
      ∙ through-end d.places (inner_of d.path (d.rows * d.cols)) (place p.path n vs k) in
      let low = value-le-top (all_simplified cs (diagonal_places d) natural) us cs led.sound inside in
      let small = fits.small in
      omega (arith, value_is, low, small)

  pub finds-factors : IsShaped (IsShapedWork c.modulus) c.size p → IsLimitedPass c p →
      FindsFactors (nest_of (loop_of p))
  finds-factors shape limited m is vs k range below =
      let t = taken-is p m is in
      let d = t.diagonal in
      let inside : diagonal_place p d vs k < d.rows * d.cols = factor-below vs k shape limited range below d t.is in
      let value_is = taken-at m t vs k (ranged p.path vs range) below in
      let count : factor_count m.factors ≡ d.rows * d.cols =
      ap (λ (n : PlainMultiplier). factor_count n.factors) t.same in
      omega (arith, inside, value_is, count)

pub residues-of : (c : Target) (p : PlainPass) → 0 < c.modulus → HasResidues c (nest_of (loop_of p))
residues-of c p some m is i =
    let t = taken-is p m is in
    subst (λ (n : PlainMultiplier). factor_at c.modulus n.factors i < c.modulus) (sym t.same)
    (power_below c.modulus t.diagonal.root _ some)
