use Rattle.std.proofs.Common.{append_assoc}
use Rattle.std.proofs.lemmas.Result.{IfOk-equal}
use Rattle.fast_text.proofs.function.put_one_phase.Goals as goal

pub returns : goal.returns
returns c =
    IfOk-equal c.put_word-5.result _ _ _ c.put_word-5.ensures
    (rw (
      c.in_ok-put_cases.ensures,
      c.in_ok-put_word-4.ensures,
      c.in_ok-put_input_check.ensures,
      c.in_ok-put_word-3.ensures,
      c.in_ok-put_word-2.ensures,
      c.in_ok-put_word.ensures,
    )
    (simp append_assoc))
