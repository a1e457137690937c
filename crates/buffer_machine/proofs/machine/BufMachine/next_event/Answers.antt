use Rattle.std.proofs.Common.{◌≡◌, ◌<◌, [], refl, sym, subst, ◌∙◌, arith}
use Rattle.icode.specs.declared.event.Event.TheVariants.{Turn, Drain}
use Rattle.icode.specs.Buffers.{buffered_completion}
use Rattle.buffer_machine.specs.Next.{IsNextEvent}
use Rattle.buffer_machine.specs.Running.{Running}
use Rattle.buffer_machine.proofs.NextEvent.{all_idle, few_left, idle_at, idle_below, next_drain, next_turn, nothing_next}
use Rattle.buffer_machine.proofs.Whole.{phase_there, len_there, has_left}
use Rattle.buffer_machine.proofs.machine.BufMachine.next_event.Goals as goal

pub returns-then-phase-len-clause-none : goal.returns-then-phase-len-clause-none
returns-then-phase-len-clause-none c =
    let a = c.self.inside in
    subst (λ (r : Running). buffered_completion r.code r.state ≡ []) c.self.view_is
    (nothing_next a c.self.invariant (omega (arith, c.if-phase-len.true, c.phase-phase.ensures, c.len.ensures, a.lens.ok.0)))

pub returns-then-done-len-clause-found : goal.returns-then-done-len-clause-found
returns-then-done-len-clause-found c =
    let a = c.self.inside in
    let w = c.self.invariant in
    let q = c.loop-proc.proc in
    let lt : q < a.walker.code.procs = omega (arith, w.procs) in
    let here = has_left q w refl lt c.phase-phase.ensures
    (omega (arith, c.if-phase-len.false, c.len.ensures, a.lens.ok.0)) c.index-len.ensures c.done.ensures
    (omega (arith, c.if-done-len.true)) in
    subst (λ (r : Running). IsNextEvent r.code r.state (Turn q)) c.self.view_is
    (lt, next_turn here c.loop-proc.invariant)

pub returns-then-is_waiting-clause-found : goal.returns-then-is_waiting-clause-found
returns-then-is_waiting-clause-found c =
    let a = c.self.inside in
    let w = c.self.invariant in
    let q = c.loop-proc.proc in
    let lt : q < a.walker.code.procs = omega (arith, w.procs) in
    let len = len_there w c.phase-phase.ensures
    (omega (arith, c.if-phase-len.false, c.len.ensures, a.lens.ok.0)) _ c.index-len.ensures in
    subst (λ (r : Running). IsNextEvent r.code r.state (Drain q)) c.self.view_is (
      lt,
      next_drain a q w lt (omega (arith, c.if-done-len.false, c.done.ensures, len))
          (sym c.is_waiting.ensures ∙ c.if-is_waiting.true) c.loop-proc.invariant,
    )

pub loop-proc-preserved : goal.loop-proc-preserved
loop-proc-preserved c =
    let a = c.self.inside in
    let w = c.self.invariant in
    let q = c.loop-proc.proc in
    let lt : q < a.walker.code.procs = omega (arith, w.procs) in
    let len = len_there w c.phase-phase.ensures
    (omega (arith, c.if-phase-len.false, c.len.ensures, a.lens.ok.0)) _ c.index-len.ensures in
    idle_below a q
    (idle_at a q w lt (omega (arith, c.if-done-len.false, c.done.ensures, len))
    (sym c.is_waiting.ensures ∙ c.if-is_waiting.false)) c.loop-proc.invariant

pub returns-clause-none : goal.returns-clause-none
returns-clause-none c =
    let a = c.self.inside in
    let w = c.self.invariant in
    let phase = phase_there w c.phase-phase.ensures (omega (arith, c.if-phase-len.false, c.len.ensures, a.lens.ok.0)) in
    absurd (omega (arith, phase, all_idle a w (λ q lt. c.loop-proc.invariant q (omega (arith, w.procs, c.loop-proc-test.false)))))

pub returns-then-phase-len-clause-few : goal.returns-then-phase-len-clause-few
returns-then-phase-len-clause-few c = few_left c.self.view_is c.self.invariant

pub returns-then-done-len-clause-few : goal.returns-then-done-len-clause-few
returns-then-done-len-clause-few c = few_left c.self.view_is c.self.invariant

pub returns-then-is_waiting-clause-few : goal.returns-then-is_waiting-clause-few
returns-then-is_waiting-clause-few c = few_left c.self.view_is c.self.invariant

pub returns-clause-few : goal.returns-clause-few
returns-clause-few c = few_left c.self.view_is c.self.invariant
