use Rattle.std.specs.Prelude.{◌≡◌}
use Rattle.loop_merge.specs.Coalescing.Copies.{all_coalesced}
use Rattle.loop_merge.specs.Coalescing.Views.{plain_passes}
use Rattle.loop_merge.proofs.coalescing.coalesce_copies.Given as goal

abbrev pub invariant-loop-pass : goal.invariant-loop-pass
invariant-loop-pass l = plain_passes l.coalesced.items ≡ all_coalesced (plain_passes l.yielded)
