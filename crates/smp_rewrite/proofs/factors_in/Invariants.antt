use Rattle.std.specs.Prelude.{◌≡◌, ◌++◌, All, map}
use Rattle.std.specs.List.{flat_map}
use Rattle.smp_rewrite.specs.Cut.{factors_of}
use Rattle.smp_rewrite.specs.Laws.{step_size}
use Rattle.smp_rewrite.specs.Views.{plain_factor}
use Rattle.smp_rewrite.specs.Layout.Views.{plain_step}
use Rattle.smp_rewrite.proofs.factors_in.Given as goal

abbrev pub invariant-loop-step : goal.invariant-loop-step
invariant-loop-step l =
    (map plain_factor l.factors.items ++ flat_map (factors_of l.c.size l.c.procs) (map plain_step l.step-iterator.rest.items) ≡ flat_map (factors_of l.c.size l.c.procs) (map plain_step l.fn.steps.items))
    × All (λ s. step_size (plain_step s) ≡ l.c.size) l.step-iterator.rest.items
