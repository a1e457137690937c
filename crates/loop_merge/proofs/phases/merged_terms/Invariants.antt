use Rattle.std.specs.Prelude.{◌≡◌, ℕ, map}
use Rattle.sigma_spl.specs.Sigma.{AllCanMerge, passes_in_order}
use Rattle.sigma_spl.specs.Views.{plain_term}
use Rattle.loop_merge.specs.Views.{plain_phases}
use Rattle.loop_merge.proofs.phases.merged_terms.Given as goal

-- the terms that are left can be merged
abbrev pub invariant-loop-term : goal.invariant-loop-term
invariant-loop-term l =
    (plain_phases l.phases.items ≡ map (passes_in_order l.size) (map plain_term l.yielded)) × ((lanes : ℕ) × AllCanMerge lanes l.size (map plain_term l.term-iterator.rest.items))
