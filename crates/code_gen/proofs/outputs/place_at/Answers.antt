use Rattle.code_gen.proofs.StatementRules.{writable-at}
use Rattle.code_gen.proofs.outputs.place_at.Goals as goal

pub place_expr-requires : goal.place_expr-requires
place_expr-requires c = writable-at c.args.sums.now c.args.item c.index-sums-item.result c.requires c.index-sums-item.is
