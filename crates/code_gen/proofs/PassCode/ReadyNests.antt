-- Passes that are ready can be written.
use Rattle.std.proofs.Common.{◌≡◌, ℕ, ◌+◌, ◌^◌, ◌<◌, ◌≤◌, Bool, true, false, arith, List, All, ◌*◌, [], ◌∷◌, subst}
use Rattle.std.proofs.Common.{mul-le-mul, ◌==◌, if◌then◌else◌, not, IsTrue, ◌&&◌, Option, Some, None}
use Rattle.std.specs.List.{list_all}
use Rattle.std.proofs.lemmas.List.Elements.{All-weaker, All-nil, All-cons, All-head, All-tail}
use Rattle.std.proofs.lemmas.List.Sums.{AllPass-from_list_all}
use Rattle.icode.specs.Limits.{is_expr_within}
use Rattle.operators.specs.declared.target.Target.{Target}
use Rattle.sigma_spl.specs.Shared.Machine.{frame_of, lane_variables, loop_counts}
use Rattle.code_gen.specs.PassCode.Conditions.{AreWithin, CanWrite, FitsWord, loads_inside, stores_inside, CanWriteNest}
use Rattle.code_gen.specs.PassCode.Conditions.{CanWritePass}
use Rattle.code_gen.specs.PassCode.Expressions.{expr_of}
use Rattle.code_gen.specs.PassCode.Small.{CanBeCoded, IsFrame}
use Rattle.sigma_spl.specs.Merge.{is_limited, is_multiplier_within, is_within, limits_of}
use Rattle.sigma_spl.specs.Work.{PlainWork, rows, kernel, tile, copy, trees_of}
use Rattle.perm_algebra.specs.Affine.{Sum}
use Rattle.kernel_gen.proofs.KernelSizes.{trees-few}
use Rattle.kernel_gen.specs.Kernel.{trees_kernel}
use Rattle.sigma_spl.proofs.Small.{max-lt}
use Rattle.sigma_spl.proofs.Walk.{and-left, and-right}
use Rattle.sigma_spl.specs.Nest.{PlainMultiplier, PlainNest, factor_count}
use Rattle.sigma_spl.specs.Shared.Owners.{IsHost}
use Rattle.sigma_spl.specs.Shared.Ready.{IsReadyNest, IsReadyPass, IsSmallWork}
use Rattle.sigma_spl.specs.Shared.Running.{CanRunNest, CanWork}
use Rattle.tree_model.specs.KernelCosts.{trees_cost}
use Rattle.tree_model.specs.Trees.{trees_size}
use Rattle.code_gen.specs.PassActions.Acts.{nest_registers, pass_registers, with_multiplier}
use Rattle.code_gen.proofs.PassCode.TestedSums.{tested_sums_are_coded}
use Rattle.code_gen.proofs.PassCode.Within.{expressions_are_within}
use Rattle.code_gen.proofs.PassActions.Counting.{trees-registers}

-- ---- lists of sums that pass merging's test can be written

-- ---- one by one

coded-all : (room n : ℕ) (cs : ℕ → ℕ) (sums : List Sum) → room ≤ 64 → n ≤ 2 ^ 20 →
    list_all (is_limited room n cs) sums ≡ true → All (CanBeCoded cs) sums
coded-all room n cs sums few high h =
    All-weaker (λ e. is_limited room n cs e ≡ true) (CanBeCoded cs)
    (λ e k. tested_sums_are_coded room n cs e few high k) sums
    (AllPass-from_list_all (is_limited room n cs) sums h)

-- ---- as statements

-- the processor's variable is none of the loops'
frame-pick : (b : Bool) (more : ℕ) → not b ≡ true → 0 < (if b then 0 else 1) + more
frame-pick true more is = absurd (cc)
frame-pick false more is = omega arith

frame-is : (h : Target) (w : PlainWork) → IsFrame (frame_of h w)
frame-is h w is = frame-pick (h.procs == 1) (lane_variables h w) is

pub sums-written : (room n : ℕ) (cs : ℕ → ℕ) (h : Target) (w : PlainWork) (open_loops : ℕ) (sums : List Sum) →
    open_loops ≤ 64 → room ≤ 64 → n ≤ 2 ^ 20 → list_all (is_limited room n cs) sums ≡ true →
    AreWithin cs (frame_of h w) open_loops sums
sums-written room n cs h w open_loops sums shallow few high tested =
    let all = coded-all room n cs sums few high tested in
    record {
      writable = All-weaker (CanBeCoded cs) CanWrite (λ e k. k.writable) sums all;
      words = All-weaker (CanBeCoded cs) (FitsWord cs) (λ e k. k.fits) sums all;
      within = All-weaker (CanBeCoded cs) (λ e. IsTrue (is_expr_within (expr_of (frame_of h w) open_loops e) open_loops)) (λ e k. expressions_are_within (frame_of h w) open_loops e (frame-is h w) shallow k.small) sums all;
    }

-- ---- the loops that work opens

pub inside-le : (w : PlainWork) → (loads_inside w ≤ 2) × (stores_inside w ≤ 2)
inside-le (rows root size) = (omega arith, omega arith)
inside-le _ = (omega arith, omega arith)

-- ---- passes that are ready can be written

-- ---- merging's test of a nest

record IsTested (n : ℕ) (z : PlainNest) : Type 0 where
  pub loads : list_all (is_limited 64 n (limits_of z)) z.gathers ≡ true
  pub stores : list_all (is_limited 64 n (limits_of z)) z.scatters ≡ true
  pub factors : is_multiplier_within 64 (limits_of z) z.multiplier ≡ true

tested-all : (n : ℕ) (zs : List PlainNest) → is_within 64 n zs ≡ true → All (IsTested n) zs
tested-all n [] h = All-nil (IsTested n)
tested-all n (z ∷ zs) h =
    let cs = limits_of z in
    let loads = list_all (is_limited 64 n cs) z.gathers in
    let stores = list_all (is_limited 64 n cs) z.scatters in
    let factors = is_multiplier_within 64 cs z.multiplier in
    let here = and-left ((loads && stores) && factors) (is_within 64 n zs) h in
    let places = and-left (loads && stores) factors here in
    All-cons (IsTested n) z zs
    (record {
      loads = and-left loads stores places;
      stores = and-right loads stores places;
      factors = and-right (loads && stores) factors here;
    })
    (tested-all n zs (and-right ((loads && stores) && factors) (is_within 64 n zs) h))

-- ---- nests

module _ (h : Target) (host : IsHost h) where
  writes : (z : PlainNest) → IsReadyNest h z → IsTested h.size z → CanWriteNest h z
  writes z ready tested =
      let high = host.size.1 in
      let few = ready.shallow in
      let inside = inside-le z.work in
      let loads = inside.0 in
      let stores = inside.1 in
      let items = ready.items in
      record {
        gathers = (
          ready.gathers,
          sums-written 64 h.size (limits_of z) h z.work _ z.gathers (omega (arith, few, loads)) (omega arith)
              (omega (arith, high)) tested.loads,
        );
        scatters = (
          ready.scatters,
          sums-written 64 h.size (limits_of z) h z.work _ z.scatters (omega (arith, few, stores)) (omega arith)
              (omega (arith, high)) tested.stores,
        );
        multiplier = λ d is.
            let can = ready.multiplier d is in
            let some = can.some in
            let most = can.few in (
              can.named,
              sums-written 64 (factor_count d.factors) (limits_of z) h z.work _ d.places (omega (arith, few, stores))
                  (omega arith) (omega (arith, most))
                  (subst (λ o. is_multiplier_within 64 (limits_of z) o ≡ true) is tested.factors),
              some,
              omega (arith, most),
            );
        alike = ready.alike;
        items = omega (arith, items);
        shallow = ready.shallow;
        counts = All-weaker (λ k. (1 ≤ k) × (k ≤ 1048576)) (λ k. (1 ≤ k) × (k < 2 ^ 32))
            (λ k both. let least = both.0 in let most = both.1 in (omega (arith, least), omega (arith, most)))
            (loop_counts h z) ready.counts;
      }

  -- ---- registers

  with-le : (o : Option PlainMultiplier) (used more : ℕ) → with_multiplier o used more ≤ used + more
  with-le None used more = omega arith
  with-le (Some d) used more = omega arith

  -- a kernel has at most 64 items
  small-kernel : (d x : ℕ) → d ≤ 64 → x + d ≤ 2 * (d * d) → x + d ≤ 8192
  small-kernel d x low high =
      let square : d * d ≤ 64 * 64 = mul-le-mul {n₁ = d} {m₁ = d} {n₂ = 64} {m₂ = 64} low low in
      omega (arith, square, high)

  few-registers : (z : PlainNest) (w : PlainWork) → CanWork h w → IsSmallWork w → nest_registers h.modulus z w < 2 ^ 20
  few-registers z (kernel k) can small =
      let n = trees_size (trees_of k) in
      let made = trees_kernel h.modulus (trees_of k) in
      let price = small-kernel n (trees_cost 1 h.modulus (trees_of k)) small (trees-few h.modulus (trees_of k) can.trees) in
      let next = trees-registers h.modulus (trees_of k) host.modulus.0 can.trees in
      let used = with-le z.multiplier made.next n in
      omega (arith, used, next, price, small)
  few-registers z (tile v) can small =
      let used = with-le z.multiplier (v + v) v in
      let most = host.lanes.1 in
      let lanes : v ≡ h.lanes = can in
      omega (arith, used, lanes, most)
  few-registers z (copy size) can small = let used = with-le z.multiplier 1 1 in omega (arith, used)
  few-registers z _ can small = let used = with-le z.multiplier 3 1 in omega (arith, used)

  pass-registers : (zs : List PlainNest) → All (CanRunNest h) zs → All (IsReadyNest h) zs →
      pass_registers h.modulus zs < 2 ^ 20
  pass-registers [] runs ready = omega arith
  pass-registers (z ∷ zs) runs ready =
      max-lt _ _ (2 ^ 20)
      (few-registers z z.work (All-head (CanRunNest h) z zs runs).work (All-head (IsReadyNest h) z zs ready).small)
      (pass-registers zs (All-tail (CanRunNest h) z zs runs) (All-tail (IsReadyNest h) z zs ready))

  -- ---- passes

  pub ready_can_write : (zs : List PlainNest) → IsReadyPass h zs → CanWritePass h zs
  ready_can_write zs ready =
      record {
        line = let some = host.line.0 in omega (arith, some);
        runs = ready.runs;
        nests = λ k d low. writes _ (ready.nests k d low) (tested-all h.size zs ready.within k d low);
        few = pass-registers zs ready.runs.nests ready.nests;
      }
