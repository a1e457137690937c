use Rattle.std.proofs.Common.{arith}
use Rattle.listing_text.proofs.Owed.{owes}
use Rattle.listing_text.proofs.reader.with_line.Goals as goal

pub returns-then-progress-len : goal.returns-then-progress-len
returns-then-progress-len g c =
    rw (owes c.args.progress.at c.args.progress.owed.items (omega (arith, c.if-progress-len.true, c.len.ensures))) c.owing.ensures
