use Rattle.std.proofs.Common.{ap, sym, ◌∙◌, zero-add}
use Rattle.icode.specs.Lengths.{stmt_stores, body_stores}
use Rattle.icode.proofs.Lengths.{factor_small}
use Rattle.icode.proofs.StoreCounts.{stmt_stores-Loop}
use Rattle.icode.proofs.program.Stmt.+stores.Goals as goal

pub loop-stmt-init : goal.loop-stmt-init
loop-stmt-init t c =
    let e = ap stmt_stores c.in-Loop.is ∙ stmt_stores-Loop c.in-Loop.count c.in-Loop.body in
    let small = factor_small c.in-Loop.count (body_stores c.in-Loop.body.items) (stmt_stores c.args.self.now) e c.if-count-eq0.false c.requires.fits in
    record {
      product = rw (c.deref-stmt-items.ensures.value, zero-add) (sym e);
      fits = rw (c.deref-stmt-items.ensures.value, zero-add) small;
    }
