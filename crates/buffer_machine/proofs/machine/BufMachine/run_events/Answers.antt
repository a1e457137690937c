use Rattle.std.proofs.Common.{◌+◌, arith, subst, sym, ap, ap₂, ◌∙◌, drop}
use Rattle.icode.specs.Buffers.{Buffered, buffered_run}
use Rattle.icode.specs.Machine.{Code}
use Rattle.buffer_machine.specs.Listed.{HasNoStranger, events_of}
use Rattle.buffer_machine.proofs.Named.{event_there, next_of}
use Rattle.buffer_machine.proofs.machine.BufMachine.run_events.Goals as goal

pub loop-place-preserved : goal.loop-place-preserved
loop-place-preserved c =
    let before = c.loop-place in
    let events = events_of c.args.events c.procs-procs.result in
    let event = c.event_at.result in
    let rest = drop (before.place + 1) events in
    record {
      state = ap₂ (λ (k : Code) (b : Buffered). buffered_run k b rest) (c.step.ensures.code) (c.step.ensures.state)
          ∙ sym (ap (buffered_run before.self.code before.self.state) (next_of events before.place event c.event_at.ensures))
          ∙ before.invariant.state;
      code = c.step.ensures.code ∙ before.invariant.code;
    }

pub step-requires : goal.step-requires
step-requires c =
    let procs = c.procs-procs.result in
    let known = subst (HasNoStranger c.args.events) (sym c.procs-procs.ensures.value) c.requires.no_stranger in
    let there = event_there c.args.events procs (omega (arith, c.procs-procs.ensures.limits.0)) known c.loop-place.place c.event_at.result c.event_at.ensures in
    record { proc = omega (arith, there, c.procs-procs.ensures.value, ap (λ (code : Code). code.procs) c.loop-place.invariant.code) }
