use Rattle.std.proofs.Common.{◌≡◌, ◌++◌, ◌+◌, ◌<◌, drop, codes}
use Rattle.std.specs.Prelude.{IsTrue}
use Rattle.word_code.specs.Views.{plain_word_stmt, plain_word_body}
use Rattle.fast_text.specs.WordNests.{are_word_nests_within}
use Rattle.fast_text.specs.WordText.{word_stmt_text, word_body_text}
use Rattle.fast_text.proofs.printing.+put_stmt.Given as goal

abbrev pub invariant-loop-inner : goal.invariant-loop-inner
invariant-loop-inner l = record {
  text : l.out.items ++ (word_body_text l.lanes (l.depth + 1) (plain_word_body (drop l.inner-index l.inner-items))
      ++ codes "}\n") ≡ l.fn.out.items ++ word_stmt_text l.lanes l.depth (plain_word_stmt l.stmt);
  nests : IsTrue (are_word_nests_within (plain_word_body (drop l.inner-index l.inner-items)) (l.depth + 1));
  deep : l.depth < 64;
}
