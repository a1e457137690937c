use Rattle.std.proofs.Common.{◌∙◌, arith}
use Rattle.icode.proofs.Tables.{table_more}
use Rattle.icode.proofs.copies.copied_tables.Goals as goal

pub loop-entries-preserved : goal.loop-entries-preserved
loop-entries-preserved c =
    table_more c.args.tables.now c.loop-entries.copy.items c.push.new.self.items c.loop-entries.entries-index c.entries-item.result c.in_ok-entries.entries (omega arith) c.entries-item.is (c.in_ok-entries.ensures ∙ c.deref.ensures.value) c.loop-entries.invariant c.in_ok-push.ensures.items
