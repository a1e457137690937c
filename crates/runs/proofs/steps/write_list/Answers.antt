use Rattle.std.proofs.Common.{◌∙◌, arith, subst, sym, ap}
use Rattle.std.proofs.lemmas.Result.{err_from_is_err_and}
use Rattle.icode.specs.Machine.{Code}
use Rattle.buffer_machine.specs.Listed.{HasNoStranger, events_of}
use Rattle.buffer_machine.proofs.Named.{event_there, next_of}
use Rattle.runs.specs.Faults.{FaultMet}
use Rattle.runs.proofs.FaultLemmas.{met_passes, met_prefix}
use Rattle.runs.proofs.Goes.{goes_met, goes_on}
use Rattle.runs.proofs.steps.write_list.Given.{Over}
use Rattle.runs.proofs.steps.write_list.Goals as goal

pub write_step-requires : goal.write_step-requires
write_step-requires g c =
    let procs = c.count-procs.result in
    let known = subst (HasNoStranger c.args.events) (sym c.count-procs.ensures.value) c.requires.no_stranger in
    let there = event_there c.args.events procs (omega (arith, c.count-procs.ensures.limits.0)) known c.loop-number.number c.event_at-event.result c.event_at-event.ensures in
    record { proc = omega (arith, there, c.count-procs.ensures.value, ap (λ (code : Code). code.procs) c.loop-number.invariant.code) }

pub loop-number-preserved : goal.loop-number-preserved
loop-number-preserved g c =
    let events = events_of c.args.events c.count-procs.result in
    let before = c.loop-number.invariant in
    let next = next_of events c.loop-number.number c.event_at-event.result c.event_at-event.ensures in
    let step = c.in_ok-write_step.ensures in
    record {
      goes = goes_on before.goes before.code next step.stands (g.O.Sink.taken c.write_step.new.output) step.bytes;
      code = step.code ∙ before.code;
      faults = step.cause.ok ∙ before.faults;
    }

-- the fault met the line of this event
met : (g : Over) (c : goal.After-from_residual g) → FaultMet (g.E.Engine.code c.args.machine.now)
    (g.E.Engine.stands c.args.machine.now) 0
    (events_of c.args.events (g.E.Engine.code c.args.machine.now).procs) (g.E.Engine.stands c.write_step.new.machine)
    (g.O.Sink.taken c.args.output.now) (g.O.Sink.taken c.write_step.new.output)
met g c =
    let taken = g.O.Sink.taken in
    let code = g.E.Engine.code c.args.machine.now in
    let events = events_of c.args.events c.count-procs.result in
    let before = c.loop-number.invariant in
    let next = next_of events c.loop-number.number c.event_at-event.result c.event_at-event.ensures in
    let step = c.in_err-write_step.ensures in
    subst (λ n. FaultMet code (g.E.Engine.stands c.args.machine.now) 0 (events_of c.args.events n)
    (g.E.Engine.stands c.write_step.new.machine) (taken c.args.output.now) (taken c.write_step.new.output))
    c.count-procs.ensures.value
    (goes_met before.goes before.code next step.stands (taken c.write_step.new.output) step.bytes)

pub returns-in_err-write_step-clause-bytes : goal.returns-in_err-write_step-clause-bytes
returns-in_err-write_step-clause-bytes g c =
    let p = err_from_is_err_and c.from_residual.result c.from_residual.ensures.1 in
    rw p.1 (met_prefix (met g c))

pub returns-in_err-write_step-clause-way : goal.returns-in_err-write_step-clause-way
returns-in_err-write_step-clause-way g c = met_passes (met g c)

pub returns-in_err-write_step-clause-met : goal.returns-in_err-write_step-clause-met
returns-in_err-write_step-clause-met g c =
    let p = err_from_is_err_and c.from_residual.result c.from_residual.ensures.1 in
    rw p.1 (met g c)
