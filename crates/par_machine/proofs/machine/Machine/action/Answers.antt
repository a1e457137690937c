use Rattle.std.proofs.Common.{◌≡◌, ◌∙◌, ap, sym, subst, arith, refl, List, Some}
use Rattle.icode.specs.Machine.{next_action}
use Rattle.icode.specs.declared.action.Action.{Action}
use Rattle.par_machine.specs.declared.cursor.Instruction.{Instruction}
use Rattle.par_machine.specs.Header.{header_of}
use Rattle.par_machine.specs.Hand.{step_at, action_of_step}
use Rattle.par_machine.specs.Running.{Running}
use Rattle.par_machine.specs.Views.{frame_of, stand_of}
use Rattle.par_machine.proofs.Frames.{hand_action}
use Rattle.par_machine.proofs.Starting.{IsLeft, left_is, can_play, set_is}
use Rattle.par_machine.proofs.machine.Machine.action.Goals as goal

left_here : (c : goal.After-deref) → IsLeft c.self.inside c.args.proc 1 c.index-routine.result.now
    c.index-processor.result.now
left_here c =
    left_is c.self.inside c.args.self.now c.args.proc 1 c.index-routine.result.now c.index-processor.result.now c.self.view_is c.self.invariant c.requires.proc (omega arith) (omega (arith, c.requires.left)) c.index-routine.ensures c.index-processor.ensures

pub action-requires-clause-closed : goal.action-requires-clause-closed
action-requires-clause-closed c =
    (can_play c.self.inside c.args.proc 1 c.index-routine.result.now c.index-processor.result.now c.deref.result.now c.self.inside.memory.items (left_here c) c.deref.ensures.value refl).closed

pub action-requires-clause-within : goal.action-requires-clause-within
action-requires-clause-within c =
    (can_play c.self.inside c.args.proc 1 c.index-routine.result.now c.index-processor.result.now c.deref.result.now c.self.inside.memory.items (left_here c) c.deref.ensures.value refl).within

pub action-requires-clause-runs : goal.action-requires-clause-runs
action-requires-clause-runs c =
    (can_play c.self.inside c.args.proc 1 c.index-routine.result.now c.index-processor.result.now c.deref.result.now c.self.inside.memory.items (left_here c) c.deref.ensures.value refl).runs 0 c.index-processor.result.now.place (omega arith)

pub returns : goal.returns
returns c =
    let a = c.self.inside in
    let q = c.args.proc in
    let r = c.index-routine.result.now in
    let p = c.index-processor.result.now in
    let left = left_is a c.args.self.now q 1 r p c.self.view_is c.self.invariant c.requires.proc (omega arith) (omega (arith, c.requires.left)) c.index-routine.ensures c.index-processor.ensures in
    subst (λ (x : Running). next_action x.code x.state q ≡ Some c.action.result) c.self.view_is
    (hand_action (frame_of a) (stand_of a) q r p.place c.self.invariant.running (set_is a q 1 r p left).here
    ∙ ap (λ (x : Action). Some x)
    (ap (λ (xs : List Instruction). action_of_step (step_at (header_of a.header) xs q p.place)) (sym c.deref.ensures.value) ∙ sym c.action.ensures))
