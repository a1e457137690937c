use Rattle.std.specs.Prelude.{◌≡◌}
use Rattle.sigma_spl.specs.Shared.Owners.{all_passes}
use Rattle.loop_merge.specs.MultipliedPasses.Views.{plain_passes, plain_phases}
use Rattle.loop_merge.proofs.joined_passes.in_one_phase.Given as goal

abbrev pub invariant-loop-phase : goal.invariant-loop-phase
invariant-loop-phase l = plain_passes l.passes.items ≡ all_passes (plain_phases l.yielded)
