use Rattle.std.proofs.Common.{append_assoc}
use Rattle.std.proofs.lemmas.Result.{IfOk-equal}
use Rattle.fast_text.proofs.function.put_phase_call.Goals as goal

pub returns : goal.returns
returns c =
    IfOk-equal c.put_numbered-2.result _ _ _ c.put_numbered-2.ensures
    (rw (c.in_ok-put_numbered.ensures, c.in_ok-put_word.ensures) (simp append_assoc))
