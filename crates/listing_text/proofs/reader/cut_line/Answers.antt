use Rattle.listing_text.proofs.LineCalls.{open_more}
use Rattle.listing_text.proofs.reader.cut_line.Goals as goal

pub loop-at-preserved : goal.loop-at-preserved
loop-at-preserved c = open_more c.args.text.now c.loop-at.at c.loop-at-test.true c.if-byte-eq10.false c.loop-at.invariant
