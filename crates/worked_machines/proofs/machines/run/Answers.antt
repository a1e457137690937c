use Rattle.std.proofs.Common.{◌≡◌, None, nat_le, subst, sym}
use Rattle.std.specs.List.{find}
use Rattle.schedules.specs.Turns.{named}
use Rattle.worked_machines.proofs.machines.run.Goals as goal

pub run_list-requires : goal.run_list-requires
run_list-requires c = record {
  no_stranger = subst (λ n. find (λ q. nat_le n q) (named c.in_ok-schedule.schedule) ≡ None) c.procs.ensures.value (sym c.in-None.ensures);
}
