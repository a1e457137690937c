use Rattle.std.proofs.lemmas.Result.{IfOk-equal}
use Rattle.c_print.specs.CText.{add_text, sub_text, mul_text, functions_text}
use Rattle.c_print.proofs.Shapes.{two_pieces}
use Rattle.c_print.proofs.printing.CLanguage.put_between.Goals as goal

pub returns : goal.returns
unfolding functions_text
returns c = IfOk-equal c.put_mul.result _ _ _ c.put_mul.ensures (rw (c.in_ok-put_sub.ensures, c.in_ok-put_add.ensures) (two_pieces c.args.out.now.items add_text sub_text mul_text))
