use Rattle.std.proofs.Common.{◌≤◌, ℕ, ◌<◌}
use Rattle.std.specs.Prelude.{slice_index}
use Rattle.par_machine.proofs.phase.first_left.Given as goal

abbrev pub invariant-loop-proc : goal.invariant-loop-proc
invariant-loop-proc l = (q : ℕ) → q < l.proc → l.len ≤ slice_index l.done q
