use Rattle.std.proofs.Common.{refl}
use Rattle.icode.specs.Plain.{plain_stmt, plain_body}
use Rattle.listing_text.specs.Nests.{is_nest_within, are_nests_within}
use Rattle.listing_text.specs.Wording.{stmt_lines, body_lines}
use Rattle.listing_text.proofs.PrintLoops.{printed_more, tested_more}
use Rattle.listing_text.proofs.language.put_body.Goals as goal

pub loop-stmt-preserved : goal.loop-stmt-preserved
loop-stmt-preserved g c =
    let line = g.L.Language.wording.line in
    record {
      text = printed_more (λ i stmts. body_lines line 0 (plain_body stmts)) (λ stmt. stmt_lines line 0 (plain_stmt stmt)) c.args.body.now c.loop-stmt.stmt-index c.stmt-item.result _ _ _ c.loop-stmt-test.true c.stmt-item.is refl c.in_ok-put_stmt.ensures c.loop-stmt.invariant.text;
      nests = (tested_more (λ stmts. are_nests_within (plain_body stmts) 0) (λ stmt. is_nest_within (plain_stmt stmt) 0) c.args.body.now c.loop-stmt.stmt-index c.stmt-item.result c.loop-stmt-test.true c.stmt-item.is refl c.loop-stmt.invariant.nests).1;
    }
