use Rattle.std.proofs.Common.{codes}
use Rattle.std.proofs.lemmas.Result.{IfOk-equal}
use Rattle.word_code.specs.Views.{plain_word_body}
use Rattle.fast_text.specs.FunctionText.{each_from}
use Rattle.fast_text.specs.WordText.{declared_text, word_body_text}
use Rattle.fast_text.proofs.Pieces.{three_pieces}
use Rattle.fast_text.proofs.printing.put_phase.Goals as goal

pub returns : goal.returns
returns c =
    IfOk-equal c.put_word.result _ _ _ c.put_word.ensures
    (rw (c.in_ok-put_body.ensures, c.in_ok-put_registers.ensures)
    (three_pieces c.args.out.now.items (each_from declared_text c.args.regs 0)
    (word_body_text c.args.lanes 0 (plain_word_body c.args.body.now)) (codes "}\n")))
