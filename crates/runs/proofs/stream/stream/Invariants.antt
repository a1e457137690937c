use Rattle.std.proofs.Common.{◌≡◌, ◌++◌, ◌-◌, List, ℕ}
use Rattle.std.specs.Io.KnownBytes.{Appends}
use Rattle.io_edge.specs.Told.{Coming}
use Rattle.buffer_machine.specs.Listed.{events_of}
use Rattle.io_edge.specs.Feed.{Fed, to_come, limit}
use Rattle.data_stream.specs.Vectors.{IsReady}
use Rattle.runs.specs.Progress.{HasCome}
use Rattle.runs.specs.Stream.{texts, state_behind}
use Rattle.runs.specs.Texts.{text_at}
use Rattle.runs.specs.Walks.{ended}
use Rattle.runs.proofs.stream.stream.Given as goal

-- Wherever the data began, the later vectors are whole after the others. The output took their texts, the machine is where the last left it, and nothing failed
abbrev pub invariant-loop-machine : goal.invariant-loop-machine
invariant-loop-machine g l =
    let told = g.I.Source.told in
    let taken = g.O.Sink.taken in
    let code = g.E.Engine.code l.fn.machine in
    let events = events_of l.events code.procs in
    record {
      later : List (List ℕ);
      come : (old : Fed) (before : Coming) (seen : List (List ℕ)) →
          HasCome code.modulus l.fn.vectors old l.fn.feed before (to_come l.fn.feed (told l.fn.input)) seen
          → HasCome code.modulus l.vectors old l.feed before (to_come l.feed (told l.input)) (seen ++ later);
      wrote : Appends (taken l.fn.output) (taken l.output) (texts
          (λ x. text_at l.lines code (g.E.Engine.begun code x) events) later);
      stands : g.E.Engine.stands l.machine ≡ state_behind (λ x. ended code (g.E.Engine.begun code x) events)
          (g.E.Engine.stands l.fn.machine) later;
      ready : IsReady l.vectors l.feed (to_come l.feed (told l.input));
      size : l.vectors.size ≡ l.fn.vectors.size;
      code : g.E.Engine.code l.machine ≡ code;
      reads : g.I.Source.faults l.input ≡ g.I.Source.faults l.fn.input;
      writes : g.O.Sink.faults l.output ≡ g.O.Sink.faults l.fn.output;
    }

abbrev pub decreases-loop-machine : goal.decreases-loop-machine
decreases-loop-machine g l = limit - l.feed.taken
