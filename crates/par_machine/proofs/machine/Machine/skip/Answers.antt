use Rattle.std.proofs.Common.{◌≡◌, ◌+◌, ◌∙◌, List, ℕ, ap, sym, subst, arith, All, refl, length, length-set}
use Rattle.std.specs.Prelude.{slice_index, slice_set}
use Rattle.std.specs.Vec.{with_item, with_items}
use Rattle.std.proofs.lemmas.List.{with_items_is}
use Rattle.icode.specs.Machine.{State}
use Rattle.par_machine.specs.Context.{Context}
use Rattle.par_machine.specs.Instruction.{IsClosed}
use Rattle.par_machine.specs.Processors.{registers_of}
use Rattle.par_machine.specs.Running.{Running}
use Rattle.par_machine.specs.Skipped.{skipped}
use Rattle.par_machine.specs.Views.{frame_of}
use Rattle.par_machine.proofs.Frames.{routine_is}
use Rattle.par_machine.proofs.Skips.{IsSkipped, skip_acts, skip_room, skipped_state, skipped_runs}
use Rattle.par_machine.proofs.Starting.{IsLeft, left_is, set_is, done_fits}
use Rattle.par_machine.proofs.Wholes.{done_is}
use Rattle.par_machine.proofs.machine.Machine.skip.Goals as goal

pub skip-requires : goal.skip-requires
skip-requires c =
    let a = c.self.inside in
    let r = c.index-routine.result.now in
    let p = c.index_mut-processor.result.now in
    let left = left_is c.self.inside c.args.self.now c.args.proc 1 c.index-routine.result.now c.index_mut-processor.result.now c.self.view_is c.self.invariant c.requires.proc (omega arith) (omega (arith, c.requires.left)) c.index-routine.ensures c.index_mut-processor.ensures.value in
    let now : All IsClosed r.code.items = (routine_is (frame_of a) a.phase r c.self.invariant.ready (set_is a c.args.proc 1 r p left).here.phase left.routine).closed in
    record {
      closed = subst (All IsClosed) (sym c.deref.ensures.value) now;
      act = skip_acts a c.args.proc r p c.deref.result.now left c.deref.ensures.value;
      room = skip_room a c.args.proc r p left;
    }

pub overflow_add-index_mut : goal.overflow_add-index_mut
overflow_add-index_mut c =
    let left = left_is c.self.inside c.args.self.now c.args.proc 1 c.index-routine.result.now c.index_mut-processor.result.now c.self.view_is c.self.invariant c.requires.proc (omega arith) (omega (arith, c.requires.left)) c.index-routine.ensures c.index_mut-processor.ensures.value in
    omega (arith, done_fits c.self.inside c.args.proc 1 c.index_mut.result.now c.index-routine.result.now c.index_mut-processor.result.now left c.index_mut.ensures.value)

left_before : (c : goal.After-self-5-1) → IsLeft c.self.inside c.args.proc 1 c.index-routine.result.now
    c.index_mut-processor.result.now
left_before c =
    left_is c.self.inside c.args.self.now c.args.proc 1 c.index-routine.result.now c.index_mut-processor.result.now c.self.view_is c.self.invariant c.requires.proc (omega arith) (omega (arith, c.requires.left)) c.index-routine.ensures c.index_mut-processor.ensures.value

abbrev done_after : goal.After-self-5-1 → List ℕ
done_after c = (with_items (with_item c.self.inside.done c.args.proc (c.index_mut.result.now + 1)) c.settle-self-inside.new.done).items

abbrev processors_after : goal.After-self-5-1 → List Context
processors_after c = (with_items (with_item c.self.inside.processors c.args.proc c.skip.new.self) c.settle-self-inside.new.processors).items

abbrev state_after : goal.After-self-5-1 → State
state_after c = record { memory = c.self.inside.memory.items; registers = registers_of (processors_after c); phase = c.settle-self-inside.result; done = done_after c }

passed : (c : goal.After-self-5-1) → IsSkipped c.self.inside c.args.proc c.index-routine.result.now
    c.index_mut-processor.result.now (state_after c) (processors_after c)
passed c =
    let a = c.self.inside in
    let q = c.args.proc in
    let d = c.index_mut.result.now in
    let done = with_items_is (with_item a.done q (d + 1)) c.settle-self-inside.new.done (c.settle-self-inside.auto.done ∙ (ap length c.deref_mut.ensures.value ∙ (length-set a.done.items q (d + 1) ∙ sym a.done.ok.0))) in
    let processors = with_items_is (with_item a.processors q c.skip.new.self) c.settle-self-inside.new.processors (c.settle-self-inside.auto.processors ∙ (ap length c.deref_mut-2.ensures.value ∙ (length-set a.processors.items q c.skip.new.self ∙ sym a.processors.ok.0))) in
    let before : d ≡ slice_index a.done.items q = sym (done_is a q d c.self.invariant (left_before c).proc c.index_mut.ensures.value) in
    record {
      code = c.deref.result.now;
      code_is = c.deref.ensures.value;
      after = c.skip.new.self;
      passed = c.skip.ensures;
      phases = c.deref-2.result.now;
      phases_are = c.deref-2.ensures.value;
      done = c.deref_mut.result.now;
      done_is = c.deref_mut.ensures.value ∙ ap (λ k. slice_set a.done.items q (k + 1)) before;
      moved = c.deref_mut-2.result.now;
      moved_is = c.deref_mut-2.ensures.value;
      memory = refl;
      registers = refl;
      phase_after = c.settle-self-inside.ensures.phase;
      done_after = λ code lengths pos same. done ∙ c.settle-self-inside.ensures.done code lengths pos same;
      processors_after = λ code lengths pos same. processors ∙ c.settle-self-inside.ensures.processors code lengths pos same;
      within = c.settle-self-inside.ensures.within;
    }

pub invariant_of-self : goal.invariant_of-self
invariant_of-self c =
    record {
      ready = c.self.invariant.ready;
      running = skipped_runs c.self.inside c.args.proc c.index-routine.result.now c.index_mut-processor.result.now (state_after c) (processors_after c) (left_before c) (passed c);
    }

pub returns-clause-state : goal.returns-clause-state
returns-clause-state c =
    skipped_state c.self.inside c.args.proc c.index-routine.result.now c.index_mut-processor.result.now (state_after c) (processors_after c) (left_before c) (passed c)
    ∙ ap (λ (r : Running). skipped r.code r.state c.args.proc) c.self.view_is
