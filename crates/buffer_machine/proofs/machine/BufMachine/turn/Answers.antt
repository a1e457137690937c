use Rattle.std.proofs.Common.{List, ℕ, ap, ap₂, sym, ◌∙◌, arith}
use Rattle.icode.specs.Buffers.{buffered_turn}
use Rattle.icode.specs.Machine.{answer, answer_with}
use Rattle.buffer_machine.specs.Running.{Running}
use Rattle.buffer_machine.specs.Stand.{Stand, buffered_of, settled_stand}
use Rattle.buffer_machine.proofs.Whole.{has_left, walker_left, action_is, can_act, turned}
use Rattle.buffer_machine.proofs.machine.BufMachine.turn.Goals as goal

pub action-action-requires-clause-left : goal.action-action-requires-clause-left
action-action-requires-clause-left c =
    let here = has_left c.args.proc c.self.invariant c.self.view_is c.requires.proc c.phase-phase.ensures
    (omega (arith, c.if-phase-len.false, c.len.ensures, c.self.inside.lens.ok.0)) c.index.ensures c.done.ensures
    (omega (arith, c.if-done-index.false)) in
    walker_left here

pub skip-requires-clause-left : goal.skip-requires-clause-left
skip-requires-clause-left c =
    let here = has_left c.args.proc c.self.invariant c.self.view_is c.requires.proc c.phase-phase.ensures
    (omega (arith, c.if-phase-len.false, c.len.ensures, c.self.inside.lens.ok.0)) c.index.ensures c.done.ensures
    (omega (arith, c.if-done-index.false)) in
    walker_left here

pub play-requires : goal.play-requires
play-requires c =
    let here = has_left c.args.proc c.self.invariant c.self.view_is c.requires.proc c.phase-phase.ensures
    (omega (arith, c.if-phase-len.false, c.len.ensures, c.self.inside.lens.ok.0)) c.index.ensures c.done.ensures
    (omega (arith, c.if-done-index.false)) in
    can_act here c.action-action.ensures

pub invariant_of-self : goal.invariant_of-self
invariant_of-self c =
    let here = has_left c.args.proc c.self.invariant c.self.view_is c.requires.proc c.phase-phase.ensures
    (omega (arith, c.if-phase-len.false, c.len.ensures, c.self.inside.lens.ok.0)) c.index.ensures c.done.ensures
    (omega (arith, c.if-done-index.false)) in
    (turned c.settle.new.self c.skip.new.self here c.action-action.ensures
    (c.settle.ensures ∙ ap₂ (λ (ls : List ℕ) (t : Stand). settled_stand ls t) c.deref.ensures.value c.play.ensures)
    c.skip.ensures.code c.skip.ensures.state).0

pub returns-clause-state : goal.returns-clause-state
returns-clause-state c =
    let here = has_left c.args.proc c.self.invariant c.self.view_is c.requires.proc c.phase-phase.ensures
    (omega (arith, c.if-phase-len.false, c.len.ensures, c.self.inside.lens.ok.0)) c.index.ensures c.done.ensures
    (omega (arith, c.if-done-index.false)) in
    (turned c.settle.new.self c.skip.new.self here c.action-action.ensures
    (c.settle.ensures ∙ ap₂ (λ (ls : List ℕ) (t : Stand). settled_stand ls t) c.deref.ensures.value c.play.ensures)
    c.skip.ensures.code c.skip.ensures.state).1
    ∙ ap (λ (r : Running). buffered_turn r.code r.state c.args.proc) c.self.view_is

pub returns-clause-answer : goal.returns-clause-answer
returns-clause-answer c =
    let a = c.self.inside in
    let here = has_left c.args.proc c.self.invariant c.self.view_is c.requires.proc c.phase-phase.ensures
    (omega (arith, c.if-phase-len.false, c.len.ensures, c.self.inside.lens.ok.0)) c.index.ensures c.done.ensures
    (omega (arith, c.if-done-index.false)) in
    sym (ap (answer_with a.walker.code (buffered_of a.values).state) (action_is here c.action-action.ensures))
    ∙ ap (λ (r : Running). answer r.code r.state.state c.args.proc) c.self.view_is
