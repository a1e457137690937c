use Rattle.std.proofs.Common.{◌≡◌, ◌+◌, ◌≤◌, ◌-◌, length}
use Rattle.io_edge.specs.Told.{Consumes}
use Rattle.io_edge.specs.Feed.{to_come}
use Rattle.data_stream.proofs.parts.read_rest.Given as goal

-- the bytes so far were read, one a turn, and nothing failed
abbrev pub invariant-loop-text : goal.invariant-loop-text
invariant-loop-text g l =
    let told = g.S.Source.told in
    record {
      consumed : Consumes (to_come l.fn.feed (told l.fn.source)) (to_come l.feed (told l.source)) l.text.items;
      taken : l.feed.taken ≡ l.fn.feed.taken + length l.text.items;
      short : length l.text.items ≤ l.fn.most;
      faults : g.S.Source.faults l.source ≡ g.S.Source.faults l.fn.source;
    }

abbrev pub decreases-loop-text : goal.decreases-loop-text
decreases-loop-text g l = l.fn.most + 1 - length l.text.items
