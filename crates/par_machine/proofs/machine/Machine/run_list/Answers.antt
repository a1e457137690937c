use Rattle.std.proofs.Common.{◌≡◌, None, arith, subst, sym, ap, nat_le}
use Rattle.std.specs.List.{find}
use Rattle.icode.specs.Machine.{Code}
use Rattle.schedules.specs.Turns.{named}
use Rattle.par_machine.proofs.Schedules.{turns_there}
use Rattle.par_machine.proofs.machine.Machine.run_list.Goals as goal

pub pass-requires : goal.pass-requires
pass-requires c =
    let procs = c.procs-procs.result in
    let known : find (λ q. nat_le procs q) (named c.args.schedule.now) ≡ None = subst (λ n. find (λ q. nat_le n q) (named c.args.schedule.now) ≡ None) (sym c.procs-procs.ensures.value) c.requires.no_stranger in
    let there = turns_there c.args.schedule.now procs (omega (arith, c.procs-procs.ensures.limits.0)) known c.loop-i.i (omega (arith, c.len-i-end.ensures.value)) in
    record { proc = omega (arith, there, c.turn_at-proc.ensures, c.procs-procs.ensures.value, ap (λ (code : Code). code.procs) c.loop-i.invariant.code) }
