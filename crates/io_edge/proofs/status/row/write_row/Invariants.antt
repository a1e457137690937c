use Rattle.std.proofs.Common.{take, ◌≡◌}
use Rattle.std.specs.List.{flat_map}
use Rattle.std.specs.Io.KnownBytes.{Appends}
use Rattle.io_edge.proofs.StatusLemmas.Lines.{text_of}
use Rattle.io_edge.proofs.status.row.write_row.Given as goal

-- the note took the parts before this one
abbrev pub invariant-loop-part : goal.invariant-loop-part
invariant-loop-part g l =
    let taken = g.E.Sink.taken in
    record {
      took : Appends (taken l.fn.note) (taken l.note) (flat_map text_of (take l.part-index l.parts));
      faults : g.E.Sink.faults l.note ≡ g.E.Sink.faults l.fn.note;
    }
