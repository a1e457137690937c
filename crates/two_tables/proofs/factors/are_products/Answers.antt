use Rattle.std.proofs.Common.{length, sym, ◌∙◌}
use Rattle.two_tables.specs.Factors.{is_product_at}
use Rattle.two_tables.specs.Views.{plain_cut}
use Rattle.two_tables.proofs.Cutting.{range_more}
use Rattle.two_tables.proofs.factors.are_products.Goals as goal

pub loop-at-preserved : goal.loop-at-preserved
loop-at-preserved c =
    range_more (is_product_at c.args.modulus.now (plain_cut c.args.cut) c.args.first.now c.args.second.now c.args.entries.now) c.loop-at.at (length c.args.entries.now) _ c.loop-at-test.true
    (sym c.is_product_at.ensures ∙ c.if-not-is_product_at.false) c.loop-at.invariant
