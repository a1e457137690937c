use Rattle.std.proofs.Common.{refl}
use Rattle.icode.specs.Plain.{plain_tables}
use Rattle.listing_text.specs.Wording.{tables_text}
use Rattle.listing_text.proofs.PrintLoops.{printed_more}
use Rattle.listing_text.proofs.language.put_tables.Goals as goal

pub loop-number-preserved : goal.loop-number-preserved
loop-number-preserved g c =
    let w = g.L.Language.wording in
    printed_more (λ i tables. tables_text w i (plain_tables tables)) (λ table. w.table c.loop-number.number table.items) c.args.tables.now c.loop-number.number c.index-tables-number.result _ _ _ c.loop-number-test.true c.index-tables-number.is refl (rw c.deref.ensures.value at c.in_ok-put_table.ensures) c.loop-number.invariant
