-- Each loop of a layout can be run, and a program can be made of it.
use Rattle.sigma_lower.proofs.Words.{◌≡◌, ℕ, ◌+◌, ◌<◌, ◌≤◌, List, [], ◌∷◌, ◌++◌, All, length, map, sym, ap, ap₂, ◌∙◌}
use Rattle.sigma_lower.proofs.Words.{arith, subst, Some, slice_index, option_map, Mapping, Target, AreInRange, count_of}
use Rattle.sigma_lower.proofs.Words.{place, size_under, Sum, constant, variable, value, simplified, loops_of, limits_in}
use Rattle.sigma_lower.proofs.Words.{nest_of, items_out, PlainMultiplier, PlainNest, IsHost, IsReadyLoop, PlainWork}
use Rattle.sigma_lower.proofs.Words.{rows, horner, copy, work_size, ranged, PlainPass, through, ◌*◌, loop_of, taken_of}
use Rattle.sigma_lower.proofs.Words.{copies_of, size_under-copies, le-mul_of_pos_right, all_simplified, place_sum}
use Rattle.sigma_lower.proofs.Words.{kernel, tile, slice_index_or, map-id, All-weaker, map-map, NamesItems, AreFormed}
use Rattle.sigma_lower.proofs.Words.{IsReadyMultiplier, IsReadyNest, LoadsAlike, CanRunNest}
use Rattle.operators.specs.Sizes.{max_size}
use Rattle.sigma_spl.specs.Shared.Machine.{first_loop, loop_counts}
use Rattle.sigma_spl.specs.Shared.Running.{CanWork}
use Rattle.sigma_spl.proofs.Natural.{names-out, values-are, at-second}
use Rattle.sigma_spl.proofs.Nests.{names-simplified, two_below, with_more}
use Rattle.sigma_lower.proofs.TreeLoops.LoopItems.{diagonal-size}
use Rattle.sigma_lower.proofs.TreeLoops.PlaceValues.{value-at_place}
use Rattle.sigma_lower.proofs.TreeLoops.Shaped.{IsShapedWork}
use Rattle.sigma_lower.proofs.TreeSigmas.Frames.{nest-framed}
use Rattle.sigma_lower.proofs.TreeSigmas.Known.{IsKnown}
use Rattle.sigma_lower.proofs.TreeSigmas.Loops.{IsCount, counts-drop, length-drop, length-tensors, loop-counts}
use Rattle.sigma_lower.proofs.TreeSigmas.Loops.{path-weight, weight-small}
use Rattle.sigma_lower.proofs.TreeSigmas.Places.{taken-is, moves-vectors, finds-factors, residues-of}
use Rattle.sigma_lower.proofs.TreeTerms.Sizes.{within_whole}
use Rattle.sigma_lower.specs.TreeLoops.SharedPasses.Framed.{HasLanes}
use Rattle.sigma_spl.specs.Trees.{IsNoCopy}

-- ---- work

-- its code does what it stands for
pub can-work : (c : Target) (w : PlainWork) → IsShapedWork c.modulus w → HasLanes c w → CanWork c w
can-work c (kernel trees) h lanes = h.1
can-work c (rows root size) h lanes = (omega (arith, h.0), h.1)
can-work c (tile v) h lanes = lanes
can-work c _ h lanes = absurd h

-- it is no copy
pub no-copy : (m : ℕ) (w : PlainWork) → IsShapedWork m w → IsNoCopy w
no-copy m (horner root size) h = absurd h
no-copy m (copy size) h = absurd h
no-copy m _ h = tt

-- ---- names

pub names-all : (w : PlainWork) (cs : ℕ → ℕ) (fs : List Mapping) (sums : List Sum) → AreFormed fs → NamesItems w sums →
    NamesItems w (map (all_simplified cs fs) sums)
names-all w cs [] sums formed h = subst (NamesItems w) (sym (map-id sums)) h
names-all w cs (f ∷ fs) sums formed h =
    subst (NamesItems w) (map-map (all_simplified cs fs) (simplified cs f) sums)
    (names-all w cs fs (map (simplified cs f) sums) formed.1 (names-simplified w cs f sums formed.0 h))

-- ---- values in range, with others after them

module _ (c : Target) (p : PlainPass) (host : IsHost c) (known : IsKnown c p) where
  abbrev w : PlainWork
  w = p.work

  abbrev z : PlainNest
  z = nest_of (loop_of p)

  some-modulus : 0 < c.modulus
  some-modulus = let large = host.modulus.0 in omega (arith, large)

  run-nest : CanRunNest c z
  run-nest =
      record {
        work = can-work c p.work known.shaped.work known.framed.lanes;
        inside = known.good.nests.0.inside;
        framed = nest-framed c p known.framed;
        vectors = λ q vs lane k range on below. moves-vectors c p known.loop host known.framed q vs lane k range on
            below;
        factors = finds-factors c p known.loop known.shaped known.placed;
        residues = residues-of c p some-modulus;
      }

  -- ---- sizes

  high : c.size ≤ 1048576
  high = host.size.1

  fills : size_under p.path (work_size w) ≡ c.size
  fills = known.shaped.fills

  copies-high : copies_of p.path ≤ 1048576
  copies-high =
      let n = work_size w in
      let most : copies_of p.path ≤ copies_of p.path * n = le-mul_of_pos_right {m = n} (copies_of p.path) known.loop.some in
      omega (arith, most, size_under-copies p.path n, fills, high)

  all-counts : All IsCount (map count_of p.path)
  all-counts = loop-counts p.path known.shaped.wide copies-high

  few-loops : length p.path ≤ 20
  few-loops = weight-small (length p.path) (omega (arith, path-weight p.path known.shaped.wide, copies-high))

  shallow : length (loop_counts c z) ≤ 20
  shallow =
      let dropped = length-drop (first_loop c w) (map count_of p.path) in
      let all = length-tensors p.path in
      let few = few-loops in
      omega (arith, dropped, all, few)

  pub n-small : work_size w ≤ 1048576
  n-small = omega (arith, within_whole p.path (work_size w) c.size host.size.0 fills, high)

  -- the nest with other work
  abbrev with_work : PlainWork → PlainNest
  with_work v =
      nest_of (record {
        path = p.path;
        work = v;
        befores = p.befores;
        taken = option_map taken_of p.diagonal;
        afters = p.afters;
      })

  at-row-of : (root n : ℕ) (vs : List ℕ) (row k : ℕ) → AreInRange (loops_of (map count_of p.path)) vs → row < n →
      k < n →
      value (slice_index_or (with_work (rows root n)).gathers 0 (constant 0)) (slice_index (vs ++ row ∷ k ∷ []))
      ≡ through p.befores (place p.path n vs k)
  at-row-of root n vs row k range below under =
      let us = slice_index (vs ++ row ∷ k ∷ []) in
      let cs = slice_index (map count_of p.path ++ n ∷ n ∷ []) in
      let item : Sum = variable 1 (length p.path + 1) (constant 0) in
      value-at_place cs us p.path n p.befores item known.loop.befores.formed
      (with_more (map count_of p.path) n vs (row ∷ k ∷ []) range (two_below n row k below under)) tt
      ∙ ap₂ (λ ws j. through p.befores (place p.path n ws j))
      (values-are p.path 0 us vs (row ∷ k ∷ []) (ranged p.path vs range) (λ i. ap us (omega arith)))
      (let there : us (length p.path + 1) ≡ k = ap us (omega arith)
      ∙ at-second p.path vs row k (ranged p.path vs range) in omega (arith, there))

  rows-alike : (root n : ℕ) → LoadsAlike (with_work (rows root n)) (rows root n)
  rows-alike root n vs row k range below under =
      at-row-of root n vs row k range below under ∙ sym (at-row-of root n vs 0 k range (omega (arith, below)) under)

  work-alike : (v : PlainWork) → IsShapedWork c.modulus v → LoadsAlike (with_work v) v
  work-alike (rows root n) shaped = rows-alike root n
  work-alike (horner root n) shaped = absurd shaped
  work-alike (copy n) shaped = absurd shaped
  work-alike _ shaped = tt

  alike : LoadsAlike z w
  alike = work-alike p.work known.shaped.work

  -- ---- factors

  ready-multiplier : (d : PlainMultiplier) → z.multiplier ≡ Some d → IsReadyMultiplier w d
  ready-multiplier d is =
      let t = taken-is p d is in
      let few = diagonal-size (IsShapedWork c.modulus) c.size p host.size.0 known.shaped t.diagonal t.is in
      let some = few.0 in
      let most = few.1 in
      let formed = (known.loop.taken (taken_of t.diagonal) (ap (option_map taken_of) t.is)).formed in
      let sums = map (place_sum p.path (work_size w) 0) (items_out w (length p.path)) in
      let there = names-out c.lanes p.path w known.loop.nested in
      let ready : IsReadyMultiplier w
      (record {
        factors = (taken_of t.diagonal).factors;
        places = map (all_simplified (limits_in (loop_of p)) (taken_of t.diagonal).places) sums;
      }) =
      record {
        named = names-all w (limits_in (loop_of p)) (taken_of t.diagonal).places sums formed there;
        some = omega (arith, some);
        few = omega (arith, most, high);
      } in
      subst (IsReadyMultiplier w) (sym t.same) ready

  -- ---- the loop

  ready-nest : IsReadyNest c z
  ready-nest =
      record {
        gathers = known.good.nests.0.gathers;
        scatters = known.good.nests.0.scatters;
        multiplier = ready-multiplier;
        alike = alike;
        small = known.small;
        items = n-small;
        shallow = let few = shallow in omega (arith, few);
        counts =
            All-weaker IsCount (λ k. (1 ≤ k) × (k ≤ max_size))
            (λ k both. let low = both.0 in let most = both.1 in (omega (arith, low), omega (arith, most)))
            (loop_counts c z) (counts-drop (first_loop c w) (map count_of p.path) all-counts);
      }

  pub ready-loop : IsReadyLoop c (loop_of p)
  ready-loop = record { runs = run-nest; ready = ready-nest; computes = no-copy c.modulus p.work known.shaped.work }
