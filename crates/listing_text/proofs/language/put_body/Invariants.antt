use Rattle.std.proofs.Common.{◌≡◌, ◌++◌, drop}
use Rattle.std.specs.Prelude.{IsTrue}
use Rattle.icode.specs.Plain.{plain_body}
use Rattle.listing_text.specs.Wording.{body_lines}
use Rattle.listing_text.specs.Nests.{are_nests_within}
use Rattle.listing_text.proofs.language.put_body.Given as goal

abbrev pub invariant-loop-stmt : goal.invariant-loop-stmt
invariant-loop-stmt g l =
    let line = g.L.Language.wording.line in
    record {
      text : l.out.items ++ body_lines line 0 (plain_body (drop l.stmt-index l.body)) ≡ l.fn.out.items
          ++ body_lines line 0 (plain_body l.body);
      nests : IsTrue (are_nests_within (plain_body (drop l.stmt-index l.body)) 0);
    }
