use Rattle.std.proofs.Common.{◌≡◌, ◌+◌, ◌≤◌, [], length, None}
use Rattle.listing_text.specs.Lines.{read_lines, later}
use Rattle.listing_text.specs.Progress.{progress_or_none, step, finish}
use Rattle.listing_text.proofs.reader.read.Given as goal

abbrev pub invariant-loop-cut : goal.invariant-loop-cut
invariant-loop-cut g l =
    let next = step g.L.Language.wording g.L.Language.grammar in
    record {
      so_far : later l.lines (read_lines next finish (progress_or_none l.progress) [] l.rest)
          ≡ read_lines next finish None [] l.fn.text;
      within : l.lines + length l.rest ≤ length l.fn.text;
    }

abbrev pub decreases-loop-cut : goal.decreases-loop-cut
decreases-loop-cut g l = length l.rest
