use Rattle.std.proofs.Common.{◌≡◌, ◌≤◌, ◌-◌, false, length}
use Rattle.std.specs.List.{list_any}
use Rattle.io_edge.specs.Told.{Consumes}
use Rattle.io_edge.specs.Feed.{to_come}
use Rattle.commands.specs.Equations.Front.{is_line_end}
use Rattle.commands.proofs.formulas.line.read_text.Given as goal

-- the bytes so far were read, one a turn, none of them ends a line, and nothing failed
abbrev pub invariant-loop-text : goal.invariant-loop-text
invariant-loop-text g l =
    let told = g.S.Source.told in
    record {
      consumed : Consumes (to_come l.fn.feed (told l.fn.source)) (to_come l.feed (told l.source)) l.text.items;
      taken : l.feed.taken ≡ length l.text.items;
      short : length l.text.items ≤ 65536;
      unended : list_any is_line_end l.text.items ≡ false;
      faults : g.S.Source.faults l.source ≡ g.S.Source.faults l.fn.source;
    }

abbrev pub decreases-loop-text : goal.decreases-loop-text
decreases-loop-text g l = 65537 - length l.text.items
