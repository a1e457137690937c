use Rattle.std.specs.Prelude.{◌≡◌, ◌+◌, drop, map}
use Rattle.smp_rewrite.specs.Cut.{right_count}
use Rattle.smp_rewrite.specs.Layout.Views.{plain_step}
use Rattle.smp_rewrite.proofs.right_count.Given as goal

abbrev pub invariant-loop-step : goal.invariant-loop-step
invariant-loop-step l = (l.count ≡ l.step-index) × (right_count (map plain_step l.steps) ≡ l.count + right_count (map plain_step (drop l.step-index l.steps)))
