use Rattle.std.proofs.Common.{◌≡◌, None, nat_le, subst, sym}
use Rattle.std.specs.List.{find}
use Rattle.schedules.specs.Turns.{named}
use Rattle.worked_machines.proofs.lines.streamed.Goals as goal

pub run_stream-result-requires-clause-no_stranger : goal.run_stream-result-requires-clause-no_stranger
run_stream-result-requires-clause-no_stranger c = subst (λ n. find (λ q. nat_le n q) (named c.in_ok-schedule.schedule) ≡ None) c.procs.ensures.value (sym c.in-None.ensures)
