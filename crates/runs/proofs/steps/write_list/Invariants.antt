use Rattle.std.proofs.Common.{◌≡◌, drop}
use Rattle.buffer_machine.specs.Listed.{events_of}
use Rattle.runs.proofs.Goes.{Goes}
use Rattle.runs.proofs.steps.write_list.Given as goal

abbrev pub invariant-loop-number : goal.invariant-loop-number
invariant-loop-number g l =
    let taken = g.O.Sink.taken in
    let code = g.E.Engine.code l.fn.machine in
    let events = events_of l.events l.procs in
    record {
      goes : Goes code (taken l.fn.output) (taken l.output) (g.E.Engine.stands l.fn.machine) 0 events
          (g.E.Engine.stands l.machine) l.number (drop l.number events);
      code : g.E.Engine.code l.machine ≡ code;
      faults : g.O.Sink.faults l.output ≡ g.O.Sink.faults l.fn.output;
    }
