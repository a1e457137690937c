use Rattle.std.proofs.Common.{◌≡◌, ◌++◌, ◌+◌, ◌<◌, drop}
use Rattle.std.specs.Prelude.{IsTrue}
use Rattle.icode.specs.Plain.{plain_stmt, plain_body}
use Rattle.listing_text.specs.Wording.{Close, stmt_lines, body_lines}
use Rattle.listing_text.specs.Nests.{are_nests_within}
use Rattle.listing_text.proofs.language.+put_stmt.Given as goal

abbrev pub invariant-loop-inner : goal.invariant-loop-inner
invariant-loop-inner g l =
    let line = g.L.Language.wording.line in
    record {
      text : l.out.items ++ (body_lines line (l.depth + 1) (plain_body (drop l.inner-index l.inner-items))
          ++ line Close) ≡ l.fn.out.items ++ stmt_lines line l.depth (plain_stmt l.stmt);
      nests : IsTrue (are_nests_within (plain_body (drop l.inner-index l.inner-items)) (l.depth + 1));
      deep : l.depth < 64;
    }
