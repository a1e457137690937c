use Rattle.std.proofs.Common.{◌+◌, ◌++◌, drop, refl, append_assoc}
use Rattle.icode.specs.Plain.{plain_stmt, plain_body}
use Rattle.listing_text.specs.Nests.{is_nest_within, are_nests_within}
use Rattle.listing_text.specs.Wording.{Close, stmt_lines, body_lines}
use Rattle.listing_text.proofs.PrintLoops.{printed_more, tested_more}
use Rattle.listing_text.proofs.language.+put_stmt.Goals as goal

pub loop-inner-preserved : goal.loop-inner-preserved
loop-inner-preserved g t c =
    let line = g.L.Language.wording.line in
    record {
      text = printed_more (λ i stmts. body_lines line (c.args.depth + 1) (plain_body stmts) ++ line Close) (λ stmt. stmt_lines line (c.args.depth + 1) (plain_stmt stmt)) c.deref-inner-items.result.now c.loop-inner.inner-index c.inner-item.result _ _ _ c.loop-inner-test.true c.inner-item.is (append_assoc (stmt_lines line (c.args.depth + 1) (plain_stmt c.inner-item.result)) (body_lines line (c.args.depth + 1) (plain_body (drop (c.loop-inner.inner-index + 1) c.deref-inner-items.result.now))) (line Close)) c.in_ok-put_stmt-in-Loop.ensures c.loop-inner.invariant.text;
      nests = (tested_more (λ stmts. are_nests_within (plain_body stmts) (c.args.depth + 1)) (λ stmt. is_nest_within (plain_stmt stmt) (c.args.depth + 1)) c.deref-inner-items.result.now c.loop-inner.inner-index c.inner-item.result c.loop-inner-test.true c.inner-item.is refl c.loop-inner.invariant.nests).1;
      deep = c.loop-inner.invariant.deep;
    }
