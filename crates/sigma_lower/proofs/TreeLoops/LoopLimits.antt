-- No place of a layout's loops is over a limit.
use Rattle.sigma_lower.proofs.Words.{◌≡◌, ℕ, ◌*◌, ◌≤◌, Bool, true, arith, refl, sym, List, [], ◌∷◌, ◌++◌, length, subst}
use Rattle.sigma_lower.proofs.Words.{Some, map, reverse, reverse-append, and_from, Mapping, PlainDiagonal, PlainPass}
use Rattle.sigma_lower.proofs.Words.{passes_of_terms, in_order, merged_of, loop_of, taken_of, IsCarried, IsLimitedPass}
use Rattle.sigma_lower.proofs.Words.{diagonal_places, place_sum, Target, IsMachine, PlainLoop, PlainTaken, limits_in}
use Rattle.sigma_lower.proofs.Words.{IsLimitedLoop, AreLimitedLoops, most, items_out, factor_count, Sum, simplified}
use Rattle.sigma_lower.proofs.Words.{PlainTerm, lowered_of, PlainWork, work_size, CanShareLayout, Layout, IsGoodLayout}
use Rattle.sigma_lower.proofs.Words.{list_all, AreLimitedPhases, ArePlacesLimited, items_in, carries_sum}
use Rattle.sigma_lower.specs.TreeLoops.Limits.{LoopsAreLimited}
use Rattle.sigma_lower.proofs.TreeLoops.PassLists.{all-split}
use Rattle.sigma_lower.proofs.TreeLoops.LeftPlaces.{mapped-some}
use Rattle.sigma_lower.proofs.TreeLoops.LoopItems.{Names, AllName, HaveNames, diagonal-size, names-of, pass-counts}
use Rattle.sigma_lower.proofs.TreeLoops.LoopNests.{loops_listed}
use Rattle.sigma_lower.proofs.TreeLoops.Shaped.{IsShaped, IsShapedWork}
use Rattle.sigma_lower.proofs.TreeLoops.TameSums.{fits-limited}
use Rattle.sigma_lower.proofs.TreeLoops.RootPlaces.{HaveGoodPlaces, IsGoodPlace}
use Rattle.sigma_lower.proofs.TreeLoops.TreePlaces.{tree_good_places}
use Rattle.perm_algebra.proofs.RoomTests.{room_decided}

-- ---- the tests

carried-true : (cs : ℕ → ℕ) (room n count : ℕ) (fs : List Mapping) (e : Sum) → 40 ≤ room → n ≤ 1048576 →
    count ≤ 1048576 → IsCarried cs n count fs e → carries_sum room n count cs fs e ≡ true
carried-true cs room n count [] e enough high low h = fits-limited room count e cs enough low h
carried-true cs room n count (f ∷ fs) e enough high low h =
    and_from _ _ (fits-limited room n e cs enough high h.0) (and_from _ _ ((room_decided cs f e).1 h.1) (carried-true cs room n count fs (simplified cs f e) enough high low h.2))

all-true : (test : Sum → Bool) (g : Sum → Sum) (w : PlainWork) (cs : ℕ → ℕ) (n : ℕ) (es : List Sum) →
    ((e : Sum) → Names w cs n e → test (g e) ≡ true) → AllName w cs n es → list_all test (map g es) ≡ true
all-true test g w cs n [] step h = refl
all-true test g w cs n (e ∷ es) step h = and_from _ _ (step e h.0) (all-true test g w cs n es step h.1)

-- ---- a pass

module _ (room : ℕ) (enough : 40 ≤ room) (c : Target) (p : PlainPass) (machine : IsMachine c)
    (shape : IsShaped (IsShapedWork c.modulus) c.size p) (limited : IsLimitedPass c p) where
  abbrev n : ℕ
  n = work_size p.work

  abbrev cs : ℕ → ℕ
  cs = limits_in (loop_of p)

  high : c.size ≤ 1048576
  high = machine.size.1

  carried : (e : Sum) → Names p.work cs n e → ArePlacesLimited c p cs e
  carried e item =
      limited cs e (pass-counts (IsShapedWork c.modulus) c.size p machine.size.0 shape) item.0 item.1

  names : HaveNames p.path p.work
  names = names-of c.modulus p.path p.work shape.work

  factors-limited : (d : PlainDiagonal) → p.diagonal ≡ Some d →
      list_all (carries_sum room c.size (d.rows * d.cols) cs (diagonal_places d))
      (map (place_sum p.path n 0) (items_out p.work (length p.path))) ≡ true
  factors-limited d is =
      let count : ℕ = d.rows * d.cols in
      let few = (diagonal-size (IsShapedWork c.modulus) c.size p machine.size.0 shape d is).1 in
      all-true (carries_sum room c.size count cs (diagonal_places d)) (place_sum p.path n 0) p.work cs n (items_out p.work (length p.path))
      (λ e item. carried-true cs room c.size count (diagonal_places d) (place_sum p.path n 0 e) enough high (omega (arith, few, high)) ((carried e item).factors d is)) names.stores

  limited_loop : IsLimitedLoop room c.size (loop_of p)
  limited_loop =
      record {
        loads = all-true (carries_sum room c.size c.size cs p.befores) (place_sum p.path n 0) p.work cs n (items_in p.work (length p.path))
            (λ e item. carried-true cs room c.size c.size p.befores (place_sum p.path n 0 e) enough high high (carried e item).loads) names.loads;
        stores = all-true (carries_sum room c.size c.size cs p.afters) (place_sum p.path n 0) p.work cs n (items_out p.work (length p.path))
            (λ e item. carried-true cs room c.size c.size p.afters (place_sum p.path n 0 e) enough high high (carried e item).stores) names.stores;
        factors = λ x is.
            let found = mapped-some (taken_of) p.diagonal x is in
            subst (λ (y : PlainTaken). list_all (carries_sum room c.size (factor_count y.factors) cs y.places) (map (place_sum p.path n 0) (items_out p.work (length p.path))) ≡ true) found.2 (factors-limited found.0 found.1);
      }

-- ---- the passes of a tree

limited_loops : (room : ℕ) (c : Target) (ps : List PlainPass) → 40 ≤ room → IsMachine c →
    HaveGoodPlaces c (IsShapedWork c.modulus) ps → AreLimitedLoops (most room) c.size (map loop_of ps)
limited_loops room c [] enough machine h = tt
limited_loops room c (p ∷ ps) enough machine h =
    (limited_loop room enough c p machine h.0.shaped h.0.limited, limited_loops room c ps enough machine h.1)

pub tree_loops : (room : ℕ) (c : Target) (l : Layout) → 40 ≤ room → IsMachine c → CanShareLayout c l →
    IsGoodLayout c.modulus l → AreLimitedLoops (most room) c.size (map loop_of (merged_of c l))
tree_loops room c l enough machine shares good =
    limited_loops room c (merged_of c l) enough machine (tree_good_places c l shares good)

-- ---- the loops of a phase, the latest first

limited-append : (n : ℕ) (ps qs : List PlainLoop) → AreLimitedLoops (most 64) n ps → AreLimitedLoops (most 64) n qs →
    AreLimitedLoops (most 64) n (ps ++ qs)
limited-append n [] qs h k = k
limited-append n (p ∷ ps) qs h k = (h.0, limited-append n ps qs h.1 k)

limited-reverse : (n : ℕ) (ps : List PlainLoop) → AreLimitedLoops (most 64) n ps →
    AreLimitedLoops (most 64) n (reverse ps)
limited-reverse n [] h = tt
limited-reverse n (p ∷ ps) h = subst (AreLimitedLoops (most 64) n) (sym (reverse-append (p ∷ []) ps)) (limited-append n (reverse ps) (p ∷ []) (limited-reverse n ps h.1) (h.0, tt))

limited_phases : (c : Target) (phases : List (List PlainTerm)) → IsMachine c →
    HaveGoodPlaces c (IsShapedWork c.modulus) (in_order (map passes_of_terms phases)) → AreLimitedPhases c phases
limited_phases c [] machine h = tt
limited_phases c (ts ∷ more) machine h =
    let ps = passes_of_terms ts in
    let parts = all-split (IsGoodPlace c (IsShapedWork c.modulus)) ps (in_order (map passes_of_terms more)) h in
    let limited = limited_loops 64 c ps (omega arith) machine parts.0 in (
      subst (AreLimitedLoops (most 64) c.size) (sym (loops_listed ts)) (limited-reverse c.size (map loop_of ps) limited),
      limited_phases c more machine parts.1,
    )

pub loops_are_limited : LoopsAreLimited
loops_are_limited c l machine shares good = limited_phases c (lowered_of c l) machine (tree_good_places c l shares good)
