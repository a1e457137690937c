use Rattle.std.proofs.Common.{codes}
use Rattle.std.proofs.lemmas.Result.{IfOk-equal}
use Rattle.fast_text.specs.FunctionText.{phase_call_text}
use Rattle.listing_text.specs.Numbers.{numbered_text}
use Rattle.fast_text.proofs.Pieces.{three_pieces}
use Rattle.fast_text.proofs.function.put_turns.Goals as goal

pub returns : goal.returns
returns c =
    IfOk-equal c.put_word.result _ _ _ c.put_word.ensures
    (rw (c.in_ok-put_phase_call.ensures, c.in_ok-put_numbered.ensures)
    (three_pieces c.args.out.now.items (numbered_text (codes "for (uint64_t q = 0; q < ") c.args.procs (codes "; q++) "))
    (phase_call_text c.args.name.now c.args.words c.args.number) (codes "\n")))
