use Rattle.std.proofs.Common.{◌≡◌, ◌+◌, ◌∙◌, List, ℕ, ap, sym, arith, refl, length, length-set, replicate}
use Rattle.std.specs.Prelude.{slice_index, slice_set}
use Rattle.std.specs.Vec.{with_item, with_items}
use Rattle.std.proofs.lemmas.List.{with_items_is}
use Rattle.icode.specs.Machine.{State, run}
use Rattle.par_machine.specs.Context.{Context}
use Rattle.par_machine.specs.Played.{playing}
use Rattle.par_machine.specs.Processors.{registers_of}
use Rattle.par_machine.specs.Running.{Running}
use Rattle.par_machine.proofs.Starting.{IsLeft, IsMoved, left_is, can_play, done_fits, moved_runs}
use Rattle.par_machine.proofs.Wholes.{done_is}
use Rattle.par_machine.proofs.machine.Machine.advance.Goals as goal

pub play-requires : goal.play-requires
play-requires c =
    let left = left_is c.self.inside c.args.self.now c.args.proc c.args.count c.index-routine.result.now c.index_mut-processor.result.now c.self.view_is c.self.invariant c.requires.proc c.requires.some c.requires.left c.index-routine.ensures c.index_mut-processor.ensures.value in
    can_play c.self.inside c.args.proc c.args.count c.index-routine.result.now c.index_mut-processor.result.now c.deref.result.now c.deref_mut.result.now left c.deref.ensures.value c.deref_mut.ensures.value

pub overflow_add-index_mut : goal.overflow_add-index_mut
overflow_add-index_mut c =
    let left = left_is c.self.inside c.args.self.now c.args.proc c.args.count c.index-routine.result.now c.index_mut-processor.result.now c.self.view_is c.self.invariant c.requires.proc c.requires.some c.requires.left c.index-routine.ensures c.index_mut-processor.ensures.value in
    omega (arith, done_fits c.self.inside c.args.proc c.args.count c.index_mut.result.now c.index-routine.result.now c.index_mut-processor.result.now left c.index_mut.ensures.value)

left_before : (c : goal.After-self-6-1) → IsLeft c.self.inside c.args.proc c.args.count c.index-routine.result.now
    c.index_mut-processor.result.now
left_before c =
    left_is c.self.inside c.args.self.now c.args.proc c.args.count c.index-routine.result.now c.index_mut-processor.result.now c.self.view_is c.self.invariant c.requires.proc c.requires.some c.requires.left c.index-routine.ensures c.index_mut-processor.ensures.value

abbrev memory_after : goal.After-self-6-1 → List ℕ
memory_after c = (with_items c.self.inside.memory c.play.new.memory).items

abbrev done_after : goal.After-self-6-1 → List ℕ
done_after c = (with_items (with_item c.self.inside.done c.args.proc (c.index_mut.result.now + c.args.count)) c.settle-self-inside.new.done).items

abbrev processors_after : goal.After-self-6-1 → List Context
processors_after c = (with_items (with_item c.self.inside.processors c.args.proc c.play.new.self) c.settle-self-inside.new.processors).items

abbrev state_after : goal.After-self-6-1 → State
state_after c = record { memory = memory_after c; registers = registers_of (processors_after c); phase = c.settle-self-inside.result; done = done_after c }

moved : (c : goal.After-self-6-1) → IsMoved c.self.inside c.args.proc c.args.count c.index-routine.result.now
    c.index_mut-processor.result.now (state_after c) (processors_after c)
moved c =
    let a = c.self.inside in
    let q = c.args.proc in
    let n = c.args.count in
    let d = c.index_mut.result.now in
    let memory = with_items_is a.memory c.play.new.memory (c.play.auto.memory ∙ (ap length c.deref_mut.ensures.value ∙ sym a.memory.ok.0)) in
    let done = with_items_is (with_item a.done q (d + n)) c.settle-self-inside.new.done (c.settle-self-inside.auto.done ∙ (ap length c.deref_mut-2.ensures.value ∙ (length-set a.done.items q (d + n) ∙ sym a.done.ok.0))) in
    let processors = with_items_is (with_item a.processors q c.play.new.self) c.settle-self-inside.new.processors (c.settle-self-inside.auto.processors ∙ (ap length c.deref_mut-3.ensures.value ∙ (length-set a.processors.items q c.play.new.self ∙ sym a.processors.ok.0))) in
    let before : d ≡ slice_index a.done.items q = sym (done_is a q d c.self.invariant (left_before c).proc c.index_mut.ensures.value) in
    record {
      code = c.deref.result.now;
      code_is = c.deref.ensures.value;
      before = c.deref_mut.result.now;
      before_is = c.deref_mut.ensures.value;
      after = c.play.new.self;
      played = ap (λ m. playing m c.play.new.self) memory ∙ c.play.ensures;
      phases = c.deref-2.result.now;
      phases_are = c.deref-2.ensures.value;
      done = c.deref_mut-2.result.now;
      done_is = c.deref_mut-2.ensures.value ∙ ap (λ k. slice_set a.done.items q (k + n)) before;
      moved = c.deref_mut-3.result.now;
      moved_is = c.deref_mut-3.ensures.value;
      registers = refl;
      phase_after = c.settle-self-inside.ensures.phase;
      done_after = λ code lengths pos same. done ∙ c.settle-self-inside.ensures.done code lengths pos same;
      processors_after = λ code lengths pos same. processors ∙ c.settle-self-inside.ensures.processors code lengths pos same;
      within = c.settle-self-inside.ensures.within;
    }

pub invariant_of-self : goal.invariant_of-self
invariant_of-self c =
    record {
      ready = c.self.invariant.ready;
      running = (moved_runs c.self.inside c.args.proc c.args.count c.index-routine.result.now c.index_mut-processor.result.now (state_after c) (processors_after c) (left_before c) (moved c)).runs;
    }

pub returns-clause-state : goal.returns-clause-state
returns-clause-state c =
    (moved_runs c.self.inside c.args.proc c.args.count c.index-routine.result.now c.index_mut-processor.result.now (state_after c) (processors_after c) (left_before c) (moved c)).state
    ∙ ap (λ (r : Running). run r.code r.state (replicate c.args.count c.args.proc)) c.self.view_is
