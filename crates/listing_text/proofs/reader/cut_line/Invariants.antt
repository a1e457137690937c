use Rattle.std.proofs.Common.{◌≡◌, take, true}
use Rattle.listing_text.specs.Lines.{is_open}
use Rattle.listing_text.proofs.reader.cut_line.Given as goal

abbrev pub invariant-loop-at : goal.invariant-loop-at
invariant-loop-at l = is_open (take l.at l.text) ≡ true
