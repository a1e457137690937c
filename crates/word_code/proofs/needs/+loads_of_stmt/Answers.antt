use Rattle.std.proofs.Common.{ap, ◌∙◌}
use Rattle.icode.specs.Plain.{plain_stmt}
use Rattle.icode.proofs.Views.{plain_stmt-Loop}
use Rattle.word_code.proofs.Needing.{loads-more, loads-all}
use Rattle.word_code.proofs.needs.+loads_of_stmt.Goals as goal

pub loop-inner-preserved : goal.loop-inner-preserved
loop-inner-preserved t c =
    loads-more c.loop-inner.inner-index c.deref-inner-items.result.now c.inner-item.result c.loop-inner.loads c.loads_of_stmt.result c.and-loads.result
    c.loop-inner-test.true c.inner-item.is c.loads_of_stmt.ensures c.and-loads.ensures c.loop-inner.invariant

pub returns-after-loop-inner : goal.returns-after-loop-inner
returns-after-loop-inner t c =
    loads-all c.loop-inner.inner-index c.in-Loop.count c.deref-inner-items.result.now c.in-Loop.body.items (plain_stmt c.args.stmt.now) c.loop-inner.loads
    (ap plain_stmt c.in-Loop.is ∙ plain_stmt-Loop c.in-Loop.count c.in-Loop.body) c.deref-inner-items.ensures.value c.loop-inner-test.false c.loop-inner.invariant
