use Rattle.std.proofs.Common.{append_assoc}
use Rattle.std.proofs.lemmas.Result.{IfOk-equal}
use Rattle.fast_text.proofs.header.put_arrays_asked.Goals as goal

pub returns : goal.returns
returns c =
    IfOk-equal c.put_word-6.result _ _ _ c.put_word-6.ensures
    (rw (c.in_ok-put_word-5.ensures, c.in_ok-put_word-4.ensures, c.in_ok-put_word-3.ensures, c.in_ok-put_word-2.ensures, c.in_ok-put_word.ensures) (simp append_assoc))
