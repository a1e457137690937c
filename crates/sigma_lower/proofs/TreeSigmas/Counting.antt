-- The loops of a layout have the operations and loads that it counts.
use Rattle.sigma_lower.proofs.Words.{◌≡◌, ℕ, ◌+◌, ◌*◌, Bool, true, false, List, [], ◌∷◌, map, refl, sym, ap, ap₂, ◌∙◌}
use Rattle.sigma_lower.proofs.Words.{arith, Option, Some, None, if◌then◌else◌, option_map, Mapping, Counted, counted}
use Rattle.sigma_lower.proofs.Words.{counted_as, has_diagonal, whole_passes, PlainDiagonal, PlainPass, merged_of}
use Rattle.sigma_lower.proofs.Words.{loop_of, taken_of, pass_cost, pass_loads, work_cost, copies_in, multiplier_cost}
use Rattle.sigma_lower.proofs.Words.{PlainLoop, multiplier_of, one_nest, PlainNest, PlainWork, kernel, rows, horner}
use Rattle.sigma_lower.proofs.Words.{tile, copy, work_size, Layout, Target, Path, copies_of, count_of}
use Rattle.sigma_lower.proofs.Words.{size_under-copies, counted_cost, counted_loads}
use Rattle.sigma_lower.proofs.TreeLoops.Counts.{merge_counts}
use Rattle.sigma_lower.proofs.TreeSigmas.Bounds.{copies-are}
use Rattle.sigma_lower.proofs.TreeSigmas.Hosted.{IsHosted}
use Rattle.sigma_lower.proofs.TreeSigmas.Known.{AllKnown, IsKnown, layout-known}
use Rattle.sigma_lower.proofs.TreeSigmas.Owned.{pass_nests}

-- a diagonal's products, for each item
diagonal-cost : (weight : ℕ) (w : PlainWork) (o : Option PlainDiagonal) (l : PlainLoop) →
    multiplier_cost weight (multiplier_of l (option_map taken_of o)) w
    ≡ (if has_diagonal o then weight * work_size w else 0)
diagonal-cost weight w None l = refl
diagonal-cost weight w (Some d) l = refl

spread-diagonal : (b : Bool) (copies n size weight x : ℕ) → copies * n ≡ size →
    copies * (x + (if b then weight * n else 0)) + 0 ≡ copies * x + (if b then weight * size else 0)
spread-diagonal true copies n size weight x whole =
    let turned : copies * (weight * n) ≡ weight * (copies * n) = omega arith in
    let same : weight * (copies * n) ≡ weight * size = ap (λ y. weight * y) whole in
    let cut : copies * (x + weight * n) ≡ copies * x + copies * (weight * n) = omega arith in
    omega (arith, turned, same, cut)
spread-diagonal false copies n size weight x whole = omega arith

-- ---- one pass

-- its operations and loads are those that it is counted as
record PassCounts (weight : ℕ) (c : Target) (zs : List PlainNest) (q : Counted) : Type 0 where
  operations : pass_cost weight c.modulus zs ≡ counted_cost weight c.modulus c.size q
  loads : pass_loads zs ≡ counted_loads c.size q

module _ (weight : ℕ) (c : Target) (path : Path) (befores afters : List Mapping) (o : Option PlainDiagonal) where
  -- the loop with some work
  abbrev with_work : PlainWork → PlainLoop
  with_work w = record { path = path; work = w; befores = befores; taken = option_map taken_of o; afters = afters }

  operations-of : (w : PlainWork) (x : ℕ) → copies_in (map count_of path) * work_size w ≡ c.size →
      work_cost weight c.modulus w ≡ x →
      pass_cost weight c.modulus (one_nest (with_work w))
      ≡ copies_of path * x + (if has_diagonal o then weight * c.size else 0)
  operations-of w x fill price =
      ap₂ (λ y z. copies_in (map count_of path) * (y + z) + 0) price (diagonal-cost weight w o (with_work w))
      ∙ spread-diagonal (has_diagonal o) (copies_in (map count_of path)) (work_size w) c.size weight x fill
      ∙ ap (λ k. k * x + (if has_diagonal o then weight * c.size else 0)) (copies-are path)

  once : (n : ℕ) → copies_in (map count_of path) * n ≡ c.size → copies_in (map count_of path) * n + 0 ≡ c.size
  once n fill = omega (arith, fill)

  by-rows : (n : ℕ) → copies_in (map count_of path) * n ≡ c.size →
      copies_in (map count_of path) * (n * n) + 0 ≡ c.size * n
  by-rows n fill =
      let turned : copies_in (map count_of path) * (n * n) + 0
      ≡ copies_in (map count_of path) * n * n = omega arith in turned ∙ ap (λ k. k * n) fill

  no-copies : (k x : ℕ) → k * 0 + x ≡ x
  no-copies k x = omega arith

  work-counts : (w : PlainWork) → copies_in (map count_of path) * work_size w ≡ c.size →
      PassCounts weight c (one_nest (with_work w)) (counted_as (copies_of path) w (has_diagonal o))
  work-counts (kernel trees) fill = record { operations = operations-of (kernel trees) _ fill refl; loads = once _ fill }
  work-counts (rows root n) fill = record { operations = operations-of (rows root n) _ fill refl; loads = by-rows n fill }
  work-counts (horner root n) fill = record { operations = operations-of (horner root n) _ fill refl; loads = by-rows n fill }
  work-counts (tile v) fill = record { operations = operations-of (tile v) 0 fill refl ∙ no-copies (copies_of path) _; loads = once _ fill }
  work-counts (copy n) fill = record { operations = operations-of (copy n) 0 fill refl; loads = once n fill }

pass-counts : (weight : ℕ) (c : Target) (p : PlainPass) → IsKnown c p →
    PassCounts weight c (one_nest (loop_of p)) (counted p)
pass-counts weight c p known =
    work-counts weight c p.path p.befores p.afters p.diagonal p.work
    (ap (λ x. x * work_size p.work) (copies-are p.path) ∙ sym (size_under-copies p.path (work_size p.work))
    ∙ known.shaped.fills)

-- pass by pass
costs-are : (weight : ℕ) (c : Target) (ps : List PlainPass) → AllKnown c ps →
    map (pass_cost weight c.modulus) (pass_nests c ps) ≡ map (counted_cost weight c.modulus c.size) (map counted ps)
costs-are weight c [] known = refl
costs-are weight c (p ∷ ps) known =
    ap₂ (λ x xs. x ∷ xs) (pass-counts weight c p known.0).operations (costs-are weight c ps known.1)

loads-are : (c : Target) (ps : List PlainPass) → AllKnown c ps →
    map pass_loads (pass_nests c ps) ≡ map (counted_loads c.size) (map counted ps)
loads-are c [] known = refl
loads-are c (p ∷ ps) known = ap₂ (λ x xs. x ∷ xs) (pass-counts 1 c p known.0).loads (loads-are c ps known.1)

module _ (c : Target) (l : Layout) (is : IsHosted c l) where
  pub layout_costs : (weight : ℕ) →
      map (pass_cost weight c.modulus) (pass_nests c (merged_of c l))
      ≡ map (counted_cost weight c.modulus c.size) (whole_passes c.lanes l)
  layout_costs weight =
      costs-are weight c (merged_of c l) (layout-known c l is)
      ∙ ap (map (counted_cost weight c.modulus c.size)) (merge_counts c l is.shares is.good)

  pub layout_loads :
      map pass_loads (pass_nests c (merged_of c l)) ≡ map (counted_loads c.size) (whole_passes c.lanes l)
  layout_loads =
      loads-are c (merged_of c l) (layout-known c l is)
      ∙ ap (map (counted_loads c.size)) (merge_counts c l is.shares is.good)
