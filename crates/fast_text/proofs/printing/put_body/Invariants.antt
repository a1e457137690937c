use Rattle.std.proofs.Common.{◌≡◌, ◌++◌, drop}
use Rattle.std.specs.Prelude.{IsTrue}
use Rattle.word_code.specs.Views.{plain_word_body}
use Rattle.fast_text.specs.WordText.{word_body_text}
use Rattle.fast_text.specs.WordNests.{are_word_nests_within}
use Rattle.fast_text.proofs.printing.put_body.Given as goal

abbrev pub invariant-loop-stmt : goal.invariant-loop-stmt
invariant-loop-stmt l = record {
  text : l.out.items ++ word_body_text l.lanes 0 (plain_word_body (drop l.stmt-index l.body)) ≡ l.fn.out.items
      ++ word_body_text l.lanes 0 (plain_word_body l.body);
  nests : IsTrue (are_word_nests_within (plain_word_body (drop l.stmt-index l.body)) 0);
}
