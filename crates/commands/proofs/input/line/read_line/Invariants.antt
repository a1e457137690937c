use Rattle.std.proofs.Common.{◌≡◌, ◌≤◌, ◌-◌, false, take}
use Rattle.std.specs.List.{list_any}
use Rattle.io_edge.specs.Told.{Consumes}
use Rattle.io_edge.specs.Feed.{to_come}
use Rattle.commands.specs.Equations.Front.{is_line_end}
use Rattle.commands.proofs.input.line.read_line.Given as goal

-- the bytes so far were read, one a turn, none of them ends a line, and nothing failed
abbrev pub invariant-loop-byte : goal.invariant-loop-byte
invariant-loop-byte g l =
    let told = g.S.Source.told in
    record {
      consumed : Consumes (to_come l.fn.feed (told l.fn.source)) (to_come l.feed (told l.source))
          (take l.count l.buffer);
      taken : l.feed.taken ≡ l.count;
      short : l.count ≤ 256;
      unended : list_any is_line_end (take l.count l.buffer) ≡ false;
      faults : g.S.Source.faults l.source ≡ g.S.Source.faults l.fn.source;
    }

abbrev pub decreases-loop-byte : goal.decreases-loop-byte
decreases-loop-byte g l = 257 - l.count
