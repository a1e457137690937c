use Rattle.std.proofs.Common.{◌≡◌, ◌≤◌, subst, sym, ◌∙◌, arith, length}
use Rattle.icode.specs.Buffers.{buffered_finished}
use Rattle.buffer_machine.specs.Running.{Running}
use Rattle.buffer_machine.specs.Stand.{buffered_of}
use Rattle.buffer_machine.proofs.Finishing.{finished_past}
use Rattle.buffer_machine.proofs.machine.BufMachine.finish.Goals as goal

pub returns-else-phase-len-clause-state : goal.returns-else-phase-len-clause-state
returns-else-phase-len-clause-state c =
    let a = c.self.inside in
    let w = c.self.invariant in
    let past : length a.walker.code.lists ≤ a.values.phase = omega (arith, w.lens.count, c.if-phase-len.false, c.phase.ensures, c.len.ensures, a.lens.ok.0) in
    subst (λ (r : Running). r.state ≡ buffered_finished r.code r.state) c.self.view_is
    (sym (finished_past a.walker.code w.good.lists (buffered_of a.values) w.busy past))
    ∙ c.loop-event.invariant.state
