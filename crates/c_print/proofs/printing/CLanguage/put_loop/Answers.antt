use Rattle.std.proofs.Common.{codes, decimal}
use Rattle.std.proofs.lemmas.Result.{IfOk-equal}
use Rattle.c_print.specs.CText.{loop_text}
use Rattle.c_print.proofs.Shapes.{four_numbers}
use Rattle.c_print.proofs.printing.CLanguage.put_loop.Goals as goal

pub returns : goal.returns
unfolding loop_text
returns c =
    IfOk-equal c.put_word.result _ _ _ c.put_word.ensures
    (rw (c.in_ok-put-4.ensures, c.in_ok-put-3.ensures, c.in_ok-put-2.ensures, c.in_ok-put.ensures)
    (four_numbers c.args.out.now.items (codes "for (uint64_t v") (decimal c.args.depth) (codes " = 0; v") (decimal c.args.depth) (codes " < ") (decimal c.args.count) (codes "; v") (decimal c.args.depth) (codes "++) {\n")))
