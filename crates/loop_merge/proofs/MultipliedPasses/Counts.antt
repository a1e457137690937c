-- Passes that multiply their items count what they did, and a product for each word in the last of them.
use Rattle.std.proofs.Common.{◌≡◌, ℕ, ◌+◌, ◌*◌, ◌≤◌, List, [], ◌∷◌, length, map, refl, sym, ap, ap₂, ◌∙◌, arith, Option}
use Rattle.std.proofs.Common.{None, All}
use Rattle.std.specs.Prelude.{sum_by}
use Rattle.std.proofs.lemmas.List.Elements.{All-head, All-tail}
use Rattle.std.proofs.lemmas.List.Sums.{sum_by-cons}
use Rattle.loop_merge.specs.JoinedPasses.Laws.{more_last}
use Rattle.loop_merge.specs.MultipliedPasses.Multiplied.{multiplied_last, with_factors}
use Rattle.loop_merge.proofs.MultipliedPasses.Lasts.{length-last}
use Rattle.sigma_spl.specs.Lists.{LastIs}
use Rattle.sigma_spl.specs.Shared.Costs.{pass_cost, pass_loads, stored_in_pass, work_cost, work_loads}
use Rattle.sigma_spl.specs.Shared.Ready.{IsReadyPass, nests_tables, passes_tables}
use Rattle.sigma_spl.specs.Shared.Running.{CanRun, CanRunNest}
use Rattle.operators.specs.declared.target.Target.{Target}
use Rattle.sigma_spl.specs.Shared.Owners.{most_actions}
use Rattle.sigma_spl.specs.Copies.{AreInside}
use Rattle.sigma_spl.specs.Counts.{copies_in, multiplier_cost}
use Rattle.sigma_spl.specs.Nest.{PlainFactors, PlainMultiplier, PlainNest, copies_of}
use Rattle.sigma_spl.specs.Trees.{IsFree, IsOneLoop}
use Rattle.sigma_spl.specs.Work.{work_size}
use Rattle.sigma_spl.proofs.Counting.{items_of, items-once}

module _ (h : Target) (ds : PlainFactors) where
  -- ---- one pass

  inside-all : (zs : List PlainNest) → All (CanRunNest h) zs → AreInside h.size (map (copies_of h.modulus) zs)
  inside-all [] can = tt
  inside-all (z ∷ zs) can = ((All-head (CanRunNest h) z zs can).inside, inside-all zs (All-tail (CanRunNest h) z zs can))

  more-cost : (c a s x y w i : ℕ) → x ≡ y + w * i → c * (a + w * s) + x ≡ c * (a + 0) + y + w * (c * s + i)
  more-cost c a s x y w i is =
      let first : c * (a + w * s) ≡ c * (a + 0) + c * (w * s) = omega arith in
      let second : w * (c * s + i) ≡ w * (c * s) + w * i = omega arith in
      let turned : c * (w * s) ≡ w * (c * s) = omega arith in
      omega (arith, is, first, second, turned)

  costs-with : (weight : ℕ) (zs : List PlainNest) → IsFree zs →
      pass_cost weight h.modulus (map (with_factors ds) zs) ≡ pass_cost weight h.modulus zs
      + weight * items_of (map (copies_of h.modulus) zs)
  costs-with weight [] free = omega arith
  costs-with weight (z ∷ zs) free =
      more-cost (copies_in z.counts) (work_cost weight h.modulus z.work) (work_size z.work) _ _ weight _ (costs-with weight zs (All-tail (λ (y : PlainNest). y.multiplier ≡ None) z zs free))
      ∙ ap
      (λ (o : Option PlainMultiplier).
      copies_in z.counts * (work_cost weight h.modulus z.work + multiplier_cost weight o z.work) + pass_cost weight h.modulus zs + weight * (copies_in z.counts * work_size z.work + items_of (map (copies_of h.modulus) zs)))
      (sym (All-head (λ (y : PlainNest). y.multiplier ≡ None) z zs free))

  cost-with : (weight : ℕ) (zs : List PlainNest) → CanRun h zs → IsFree zs →
      pass_cost weight h.modulus (map (with_factors ds) zs) ≡ pass_cost weight h.modulus zs + weight * h.size
  cost-with weight zs can free = costs-with weight zs free ∙ ap (λ n. pass_cost weight h.modulus zs + weight * n) (items-once h.size (map (copies_of h.modulus) zs) (inside-all zs can.nests) can.once)

  loads-with : (zs : List PlainNest) → pass_loads (map (with_factors ds) zs) ≡ pass_loads zs
  loads-with [] = refl
  loads-with (z ∷ zs) = ap (λ n. copies_in z.counts * work_loads z.work + n) (loads-with zs)

  stores-with : (zs : List PlainNest) → stored_in_pass (map (with_factors ds) zs) ≡ stored_in_pass zs
  stores-with [] = refl
  stores-with (z ∷ zs) = ap (λ n. copies_in z.counts * work_size z.work + n) (stores-with zs)

  -- ---- pass by pass

  pub last-costs : (weight : ℕ) (ps : List (List PlainNest)) → All (IsReadyPass h) ps → LastIs IsFree ps →
      map (pass_cost weight h.modulus) (multiplied_last ds ps) ≡ more_last (weight * h.size)
      (map (pass_cost weight h.modulus) ps)
  last-costs weight [] can free = absurd free
  last-costs weight (zs ∷ []) can free = ap (λ n. n ∷ []) (cost-with weight zs (All-head (IsReadyPass h) zs [] can).runs free)
  last-costs weight (zs ∷ ys ∷ ps) can free = ap (λ ns. pass_cost weight h.modulus zs ∷ ns) (last-costs weight (ys ∷ ps) (All-tail (IsReadyPass h) zs (ys ∷ ps) can) free)

  pub last-loads : (ps : List (List PlainNest)) → map pass_loads (multiplied_last ds ps) ≡ map pass_loads ps
  last-loads [] = refl
  last-loads (zs ∷ []) = ap (λ n. n ∷ []) (loads-with zs)
  last-loads (zs ∷ ys ∷ ps) = ap (λ ns. pass_loads zs ∷ ns) (last-loads (ys ∷ ps))

  pub last-stores : (ps : List (List PlainNest)) → map stored_in_pass (multiplied_last ds ps) ≡ map stored_in_pass ps
  last-stores [] = refl
  last-stores (zs ∷ []) = ap (λ n. n ∷ []) (stores-with zs)
  last-stores (zs ∷ ys ∷ ps) = ap (λ ns. stored_in_pass zs ∷ ns) (last-stores (ys ∷ ps))

  -- ---- together

  pub sum-costs : (weight : ℕ) (ps : List (List PlainNest)) → All (IsReadyPass h) ps → LastIs IsFree ps →
      sum_by (pass_cost weight h.modulus) (multiplied_last ds ps) ≡ sum_by (pass_cost weight h.modulus) ps
      + weight * h.size
  sum-costs weight [] can free = absurd free
  sum-costs weight (zs ∷ []) can free = ap (λ n. 0 + n) (cost-with weight zs (All-head (IsReadyPass h) zs [] can).runs free) ∙ omega arith
  sum-costs weight (zs ∷ ys ∷ ps) can free =
      let cost : List PlainNest → ℕ = pass_cost weight h.modulus in
      let rest = sum-costs weight (ys ∷ ps) (All-tail (IsReadyPass h) zs (ys ∷ ps) can) free in
      let before = sum_by-cons cost zs (ys ∷ ps) in
      let after = sum_by-cons cost zs (multiplied_last ds (ys ∷ ps)) in
      omega (arith, rest, before, after)

  pub sum-loads : (ps : List (List PlainNest)) → sum_by pass_loads (multiplied_last ds ps) ≡ sum_by pass_loads ps
  sum-loads [] = refl
  sum-loads (zs ∷ []) = ap (λ n. 0 + n) (loads-with zs)
  sum-loads (zs ∷ ys ∷ ps) = sum_by-cons pass_loads zs (multiplied_last ds (ys ∷ ps)) ∙ ap (λ n. pass_loads zs + n) (sum-loads (ys ∷ ps)) ∙ sym (sum_by-cons pass_loads zs (ys ∷ ps))

  most-is : (ps : List (List PlainNest)) → most_actions h ps ≡ sum_by (pass_cost 1 h.modulus) ps + sum_by pass_loads ps
      + 2 * h.size * length ps
  most-is [] = omega arith
  most-is (zs ∷ ps) =
      let rest = most-is ps in
      let costs = sum_by-cons (pass_cost 1 h.modulus) zs ps in
      let loads = sum_by-cons pass_loads zs ps in
      let turned : 2 * h.size * (1 + length ps) ≡ 2 * h.size + 2 * h.size * length ps = omega arith in
      omega (arith, rest, costs, loads, turned)

  pub most-last : (ps : List (List PlainNest)) → All (IsReadyPass h) ps → LastIs IsFree ps →
      most_actions h (multiplied_last ds ps) ≡ most_actions h ps + h.size
  most-last ps can free =
      most-is (multiplied_last ds ps)
      ∙ ap₂ (λ a b. a + b) (ap₂ (λ a b. a + b) (sum-costs 1 ps can free) (sum-loads ps)) (ap (λ n. 2 * h.size * n) (length-last (map (with_factors ds)) ps))
      ∙ (let moved : (a s b c : ℕ) → a + 1 * s + b + c ≡ a + b + c + s = λ a s b c. omega arith in moved _ _ _ _)
      ∙ ap (λ n. n + h.size) (sym (most-is ps))

-- ---- tables

-- where the last pass is one loop, one more for its factors
tables-one : (ds : PlainFactors) (zs : List PlainNest) → IsOneLoop zs →
    nests_tables (map (with_factors ds) zs) ≤ nests_tables zs + 1
tables-one ds [] one = absurd one
tables-one ds (z ∷ []) one = omega arith
tables-one ds (z ∷ y ∷ zs) one = absurd one

pub tables-last : (ds : PlainFactors) (ps : List (List PlainNest)) → All IsOneLoop ps →
    passes_tables (multiplied_last ds ps) ≤ passes_tables ps + 1
tables-last ds [] one = omega arith
tables-last ds (zs ∷ []) one = let last = tables-one ds zs (All-head IsOneLoop zs [] one) in omega (arith, last)
tables-last ds (zs ∷ ys ∷ ps) one =
    let rest = tables-last ds (ys ∷ ps) (All-tail IsOneLoop zs (ys ∷ ps) one) in omega (arith, rest)
