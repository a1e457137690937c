use Rattle.std.proofs.Common.{◌≡◌, [], subst, sym, false}
use Rattle.icode.specs.Buffers.{buffered_completion, some_wait}
use Rattle.std.specs.Prelude.{IfNone}
use Rattle.buffer_machine.specs.Running.{Running}
use Rattle.buffer_machine.specs.Stand.{buffered_of}
use Rattle.buffer_machine.proofs.Finishing.{finished_quiet, where_none}
use Rattle.buffer_machine.proofs.machine.BufMachine.next_waiting.Goals as goal

pub returns-then-some_wait-clause-none : goal.returns-then-some_wait-clause-none
returns-then-some_wait-clause-none c =
    let a = c.self.inside in
    let w = c.self.invariant in
    subst (λ (r : Running). IfNone c.next_event.result (some_wait r.state.queues ≡ false)) c.self.view_is
    (where_none c.next_event.result (buffered_completion a.walker.code (buffered_of a.values) ≡ []) (some_wait (buffered_of a.values).queues ≡ false)
    (finished_quiet a.walker.code w.good.lists (buffered_of a.values) w.busy)
    (subst (λ (r : Running). IfNone c.next_event.result (buffered_completion r.code r.state ≡ [])) (sym c.self.view_is) c.next_event.ensures.none))
