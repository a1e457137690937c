use Rattle.std.specs.Prelude.{◌≡◌, map}
use Rattle.loop_merge.specs.Coalescing.Copies.{all_coalesced}
use Rattle.loop_merge.specs.Views.{plain_phases}
use Rattle.generate.proofs.formula_code.coalesce_phases.Given as goal

abbrev pub invariant-loop-passes : goal.invariant-loop-passes
invariant-loop-passes l = plain_phases l.coalesced.items ≡ map all_coalesced (plain_phases l.yielded)
