-- The closing diagonal of a term is taken into its last loop, each item of which then takes the first entry.
use Rattle.sigma_lower.proofs.Words.{◌≡◌, ℕ, suc, ◌+◌, ◌*◌, ◌<◌, ◌≤◌, Bool, true, false, List, [], ◌∷◌, ◌++◌, length}
use Rattle.sigma_lower.proofs.Words.{refl, sym, ap, ◌∙◌, arith, subst, Some, None, if◌then◌else◌, map, not, reverse}
use Rattle.sigma_lower.proofs.Words.{slice_index, ◌==◌, ◌&&◌, length-map, reverse-append, reverse-reverse, Target}
use Rattle.sigma_lower.proofs.Words.{Blocks, Sum, constant, value, on_last, PlainLoop, PlainTaken, limits_in, nest_of}
use Rattle.sigma_lower.proofs.Words.{one_nest, scaled_last, AreLimitedLoops, HasLoop, IsLimitedLoop, is_tile, items_out}
use Rattle.sigma_lower.proofs.Words.{most, PlainMultiplier, PlainNest, factor_at, factor_count, store_place, item_of}
use Rattle.sigma_lower.proofs.Words.{lane_step, values_of, IsReadyLoop, PlainWork, kernel, rows, horner, tile}
use Rattle.sigma_lower.proofs.Words.{work_size, place_sum, slice_index_or, NamesItems, places_by, CanScale, repeated}
use Rattle.sigma_lower.proofs.Words.{IsReadyMultiplier, IsReadyNest, LoadsAlike, CanRunNest}
use Rattle.sigma_spl.specs.Good.{AreSound, named}
use Rattle.sigma_spl.specs.Loops.{AreCarried}
use Rattle.sigma_spl.specs.Merge.{suits}
use Rattle.sigma_spl.specs.Nest.{sum_value}
use Rattle.sigma_lower.proofs.TreeSigmas.ClosedPlaces.{AllAlone, all-carried, all-first, closing_path, closing_place}
use Rattle.sigma_lower.proofs.TreeSigmas.Lasts.{last-append}

-- a loop that can take it
pub record TakesClosing (n : ℕ) (p : PlainLoop) : Type 0 where
  pub free : p.taken ≡ None
  pub whole : is_tile p.work ≡ false
  pub limited : IsLimitedLoop 64 n p
  pub alone : AllAlone n (places_by p p.afters (items_out p.work (length p.path)))

-- the latest one
abbrev pub HasClosing : ℕ → List PlainLoop → Type 0
HasClosing n [] = ⊥
HasClosing n (p ∷ ps) = TakesClosing n p

-- what holds of the only one holds of each
of-some : {A : Type 0} (P : A → Type 0) (c d : A) → Some c ≡ Some d → P c → P d
of-some P c d is h = let same : c ≡ d = cc in subst P same h

-- ---- places that are all the first

abbrev all_first : List Sum → List Sum
all_first sums = map (λ _. constant 0) sums

first-sum : (sums : List Sum) (i : ℕ) → slice_index_or (all_first sums) i (constant 0) ≡ constant 0
first-sum (e ∷ sums) (suc i) = first-sum sums i
first-sum _ _ = refl

first-value : (sums : List Sum) (i : ℕ) (vs : List ℕ) → sum_value (all_first sums) i vs ≡ 0
first-value sums i vs = ap (λ e. value e (slice_index vs)) (first-sum sums i)

first-is : (w : PlainWork) (sums : List Sum) (vs : List ℕ) (k : ℕ) → is_tile w ≡ false →
    store_place w (all_first sums) vs k ≡ 0
first-is (rows root size) sums vs k whole = first-value sums 0 _
first-is (horner root size) sums vs k whole = first-value sums 0 _
first-is (tile lanes) sums vs k whole = absurd (cc)
first-is _ sums vs k whole = first-value sums k vs

-- all lanes of a register take one
one-step : (w : PlainWork) (lane : ℕ) → is_tile w ≡ false → lane_step w * lane ≡ 0
one-step (tile lanes) lane whole = absurd (cc)
one-step _ lane whole = omega arith

first-sound : (sums : List Sum) → AreSound (all_first sums)
first-sound [] = tt
first-sound (e ∷ sums) = (tt, first-sound sums)

first-names : (w : PlainWork) (sums : List Sum) → NamesItems w sums → NamesItems w (all_first sums)
first-names w sums names =
    record {
      enough = subst (λ n. named w ≤ n) (sym (length-map sums (λ _. constant 0))) names.enough;
      sound = first-sound sums;
    }

-- ---- a nest each item of which takes the only entry

module _ (v : ℕ) where
  abbrev multiplier : PlainNest → PlainMultiplier
  multiplier z = record { factors = repeated v 1; places = all_first z.scatters }

  abbrev pub closed_nest : PlainNest → PlainNest
  closed_nest z =
      record {
        counts = z.counts;
        work = z.work;
        gathers = z.gathers;
        multiplier = Some (multiplier z);
        scatters = z.scatters;
      }

  module _ (h : Target) where
    lanes-alike : (z : PlainNest) (q : ℕ) (vs : List ℕ) (lane k : ℕ) → is_tile z.work ≡ false →
        store_place z.work (all_first z.scatters) (values_of h z.work q lane vs) (item_of z.work k lane)
        ≡ store_place z.work (all_first z.scatters) (values_of h z.work q 0 vs) (item_of z.work k 0)
        + lane_step z.work * lane
    lanes-alike z q vs lane k whole =
        let here = first-is z.work z.scatters (values_of h z.work q lane vs) (item_of z.work k lane) whole in
        let there = first-is z.work z.scatters (values_of h z.work q 0 vs) (item_of z.work k 0) whole in
        let step = one-step z.work lane whole in
        omega (arith, here, there, step)

    closed-runs : (z : PlainNest) → is_tile z.work ≡ false → v < h.modulus → CanRunNest h z →
        CanRunNest h (closed_nest z)
    closed-runs z whole residue can =
        record {
          work = can.work;
          inside = record { loads = can.inside.loads; stores = can.inside.stores };
          framed = record { loops = can.framed.loops; counts = can.framed.counts };
          vectors = λ q vs lane k range low below.
              let moves = can.vectors q vs lane k range low below in
              record {
                loads = moves.loads;
                stores = moves.stores;
                factors = λ d is.
                    of-some
                    (λ (e : PlainMultiplier).
                    store_place z.work e.places (values_of h z.work q lane vs) (item_of z.work k lane)
                    ≡ store_place z.work e.places (values_of h z.work q 0 vs) (item_of z.work k 0)
                    + lane_step z.work * lane)
                    (multiplier z) d is (lanes-alike z q vs lane k whole);
              };
          factors = λ d is vs k range below.
              of-some (λ (e : PlainMultiplier). store_place z.work e.places vs k < factor_count e.factors) (multiplier z) d
              is (let here = first-is z.work z.scatters vs k whole in omega (arith, here));
          residues = λ d is i.
              of-some (λ (e : PlainMultiplier). factor_at h.modulus e.factors i < h.modulus) (multiplier z) d is residue;
        }

    alike-closed : (z : PlainNest) (w : PlainWork) → LoadsAlike z w → LoadsAlike (closed_nest z) w
    alike-closed z (kernel trees) alike = alike
    alike-closed z _ alike = alike

    closed-ready : (z : PlainNest) → IsReadyNest h z → IsReadyNest h (closed_nest z)
    closed-ready z is =
        let ready : IsReadyMultiplier z.work (multiplier z) =
        record { named = first-names z.work z.scatters is.scatters; some = omega arith; few = omega arith } in
        record {
          gathers = is.gathers;
          scatters = is.scatters;
          multiplier = λ d one. of-some (IsReadyMultiplier z.work) (multiplier z) d one ready;
          alike = alike-closed z z.work is.alike;
          small = is.small;
          items = is.items;
          shallow = is.shallow;
          counts = is.counts;
        }

-- ---- a loop

module _ (n v : ℕ) where
  abbrev pub closed_loop : PlainLoop → PlainLoop
  closed_loop p = record {
    path = p.path;
    work = p.work;
    befores = p.befores;
    taken = Some (record { factors = repeated v 1; places = p.afters ++ closing_place n ∷ [] });
    afters = p.afters;
  }

  suits-closing : (p : PlainLoop) → is_tile p.work ≡ false → suits (closing_path n) (one_nest p) ≡ true
  suits-closing p whole = by (n == 1)
    where
      by : (b : Bool) → suits (if b then [] else Blocks n ∷ []) (one_nest p) ≡ true
      by true = refl
      by false = ap (λ b. not b && true) whole

  limited-closed : (p : PlainLoop) → TakesClosing n p → IsLimitedLoop 64 n (closed_loop p)
  limited-closed p takes =
      let items = items_out p.work (length p.path) in
      record {
        loads = takes.limited.loads;
        stores = takes.limited.stores;
        factors = λ d is.
            of-some (λ (c : PlainTaken). AreCarried 64 n (factor_count c.factors) p c.places items) _ d is
            (all-carried (limits_in p) n p.afters (map (place_sum p.path (work_size p.work) 0) items)
            takes.limited.stores takes.alone);
      }

  pub closed-nest : (p : PlainLoop) → TakesClosing n p → nest_of (closed_loop p) ≡ closed_nest v (nest_of p)
  closed-nest p takes =
      ap
      (λ (sums : List Sum).
      let d : PlainMultiplier = record { factors = repeated v 1; places = sums } in
      let z : PlainNest =
      record {
        counts = (nest_of p).counts;
        work = p.work;
        gathers = (nest_of p).gathers;
        multiplier = Some d;
        scatters = (nest_of p).scatters;
      } in
      z)
      (all-first (limits_in p) n p.afters
      (map (place_sum p.path (work_size p.work) 0) (items_out p.work (length p.path))) takes.alone)

  pub ready-closed : (h : Target) → v < h.modulus → (p : PlainLoop) → IsReadyLoop h p → TakesClosing n p →
      IsReadyLoop h (closed_loop p)
  ready-closed h residue p is takes =
      let same = sym (closed-nest p takes) in
      record {
        runs = subst (CanRunNest h) same (closed-runs v h (nest_of p) takes.whole residue is.runs);
        ready = subst (IsReadyNest h) same (closed-ready v h (nest_of p) is.ready);
        computes = is.computes;
      }

  -- ---- the latest of the loops of a term

  pub can-scale : (ps : List PlainLoop) → HasClosing n ps → CanScale (closing_path n) ps
  can-scale [] takes = absurd takes
  can-scale (p ∷ ps) takes = (takes.free, suits-closing p takes.whole)

  pub has-loop : (ps : List PlainLoop) → HasClosing n ps → HasLoop (scaled_last (closing_path n) (repeated v 1) ps)
  has-loop [] takes = absurd takes
  has-loop (p ∷ ps) takes = tt

  pub limited-last : (ps : List PlainLoop) → HasClosing n ps → AreLimitedLoops (most 64) n ps →
      AreLimitedLoops (most 64) n (scaled_last (closing_path n) (repeated v 1) ps)
  limited-last [] takes limited = absurd takes
  limited-last (p ∷ ps) takes limited = (limited-closed p takes, limited.1)

  -- in order it is the last
  first-reversed : (x y : PlainLoop) (xs : List PlainLoop) → y ≡ closed_loop x →
      reverse (y ∷ xs) ≡ on_last closed_loop (reverse (x ∷ xs))
  first-reversed x y xs is =
      reverse-append (y ∷ []) xs ∙ ap (λ z. reverse xs ++ z ∷ []) is
      ∙ sym (last-append closed_loop (reverse xs) x)
      ∙ ap (on_last closed_loop) (sym (reverse-append (x ∷ []) xs))

  scaled-reversed : (ps : List PlainLoop) →
      reverse (scaled_last (closing_path n) (repeated v 1) ps) ≡ on_last closed_loop (reverse ps)
  scaled-reversed [] = refl
  scaled-reversed (p ∷ ps) = first-reversed p (closed_loop p) ps refl

  pub scaled-in-order : (ps : List PlainLoop) →
      reverse (scaled_last (closing_path n) (repeated v 1) (reverse ps)) ≡ on_last closed_loop ps
  scaled-in-order ps = scaled-reversed (reverse ps) ∙ ap (on_last closed_loop) (reverse-reverse ps)
