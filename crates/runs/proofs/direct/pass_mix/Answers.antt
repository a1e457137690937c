use Rattle.std.proofs.Common.{◌∙◌, ◌+◌, arith, drop, sym, ap}
use Rattle.std.proofs.lemmas.List.{drop_all}
use Rattle.icode.specs.Machine.{Code}
use Rattle.buffer_machine.specs.declared.events.Events.TheVariants.{Mixed}
use Rattle.buffer_machine.proofs.Named.{event_there, next_of}
use Rattle.runs.specs.Standing.{Standing, direct, stepped}
use Rattle.runs.specs.Walks.{walked}
use Rattle.runs.proofs.direct.pass_mix.Goals as goal

pub pass_event-requires : goal.pass_event-requires
pass_event-requires c =
    let procs = c.args.machine.now.code.procs in
    let there = event_there (Mixed c.args.mix) procs (omega (arith, c.procs-limits.ensures.limits.0, c.procs-limits.ensures.value)) c.requires.no_stranger c.loop-place.place c.event_at.result c.event_at.ensures in
    record { proc = omega (arith, there, ap (λ (code : Code). code.procs) c.loop-place.invariant.code) }

pub loop-place-preserved : goal.loop-place-preserved
loop-place-preserved c =
    let code = c.args.machine.now.code in
    let mix = c.args.mix.now in
    let place = c.loop-place.place in
    let event = c.event_at.result in
    let now = c.loop-place.machine.state in
    let moved = c.pass_event.ensures.state ∙ ap (λ (k : Code). stepped k (direct now) event) c.loop-place.invariant.code in
    record {
      left = ap (λ (s : Standing). walked code s (drop (place + 1) mix)) moved
          ∙ sym (ap (walked code (direct now)) (next_of mix place event c.event_at.ensures)) ∙ c.loop-place.invariant.left;
      code = c.pass_event.ensures.code ∙ c.loop-place.invariant.code;
    }

pub returns-clause-state : goal.returns-clause-state
returns-clause-state c =
    let code = c.args.machine.now.code in
    let last = c.loop-place in
    sym (ap (walked code (direct last.machine.state)) (drop_all last.place c.args.mix.now (omega arith))) ∙ last.invariant.left
