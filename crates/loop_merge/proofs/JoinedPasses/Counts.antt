-- Joined passes count what both parts do, and a product for each word between them.
use Rattle.std.proofs.Common.{◌≡◌, ℕ, ◌+◌, List, [], ◌∷◌, ◌++◌, map, sym, ap, ◌∙◌, arith, subst, append-nil, All}
use Rattle.std.proofs.lemmas.List.{map-append}
use Rattle.loop_merge.specs.JoinedPasses.InOnePhase.{joined}
use Rattle.loop_merge.specs.JoinedPasses.Laws.{CountBoth}
use Rattle.loop_merge.specs.MultipliedPasses.Multiplied.{multiplied_last}
use Rattle.loop_merge.proofs.MultipliedPasses.Counts.{last-costs, last-loads, last-stores, most-last}
use Rattle.operators.specs.declared.target.Target.{Target}
use Rattle.sigma_spl.specs.Lists.{LastIs}
use Rattle.sigma_spl.specs.Merged.{PlainMerged}
use Rattle.sigma_spl.specs.Nest.{PlainNest, values}
use Rattle.sigma_spl.specs.Shared.Costs.{pass_cost, pass_loads, stored_in_pass}
use Rattle.sigma_spl.specs.Shared.Owners.{all_passes, most_actions}
use Rattle.sigma_spl.specs.Shared.Ready.{IsReadyPass}
use Rattle.sigma_spl.specs.Trees.{IsFree}

most-append : (h : Target) (ps qs : List (List PlainNest)) →
    most_actions h (ps ++ qs) ≡ most_actions h ps + most_actions h qs
most-append h [] qs = omega arith
most-append h (zs ∷ ps) qs = let rest = most-append h ps qs in omega (arith, rest)

pub most-joined : (h : Target) (ds : List ℕ) (ps qs : List (List PlainNest)) → All (IsReadyPass h) ps →
    LastIs IsFree ps →
    most_actions h (multiplied_last (values ds) ps ++ qs) ≡ most_actions h ps + h.size + most_actions h qs
most-joined h ds ps qs ready free =
    most-append h (multiplied_last (values ds) ps) qs
    ∙ ap (λ n. n + most_actions h qs) (most-last h (values ds) ps ready free)

pub joined_counts : (g k : PlainMerged) (ds : List ℕ) → CountBoth g k (joined g ds k)
joined_counts g k ds h ready free =
    let first = all_passes g.phases in
    let second = all_passes k.phases in
    let changed = multiplied_last (values ds) first in
    let whole : all_passes (joined g ds k).phases ≡ changed ++ second = append-nil (changed ++ second) in
    record {
      costs = λ weight.
          ap (map (pass_cost weight h.modulus)) whole
          ∙ map-append (pass_cost weight h.modulus) changed second
          ∙ ap (λ ns. ns ++ map (pass_cost weight h.modulus) second)
          (last-costs h (values ds) weight first ready.passes free);
      loads =
          ap (map pass_loads) whole
          ∙ map-append pass_loads changed second
          ∙ ap (λ ns. ns ++ map pass_loads second) (last-loads h (values ds) first);
      stores =
          ap (map stored_in_pass) whole
          ∙ map-append stored_in_pass changed second
          ∙ ap (λ ns. ns ++ map stored_in_pass second) (last-stores h (values ds) first);
    }

-- so does what has their phases
pub count_both : (g k : PlainMerged) (ds : List ℕ) (phases : List (List (List PlainNest))) →
    phases ≡ (joined g ds k).phases →
    CountBoth g k (record { size = g.size; procs = g.procs; lanes = g.lanes; phases = phases })
count_both g k ds phases is =
    let Counts : List (List (List PlainNest)) → Type 0 =
    λ ps. CountBoth g k (record { size = g.size; procs = g.procs; lanes = g.lanes; phases = ps }) in
    subst Counts (sym is) (joined_counts g k ds)
