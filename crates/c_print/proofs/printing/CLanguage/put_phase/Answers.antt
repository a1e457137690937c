use Rattle.std.proofs.Common.{codes}
use Rattle.std.proofs.lemmas.Result.{IfOk-equal}
use Rattle.listing_text.specs.Numbers.{numbered_text}
use Rattle.c_print.specs.CText.{phase_start_text}
use Rattle.c_print.proofs.Shapes.{two_pieces}
use Rattle.c_print.proofs.printing.CLanguage.put_phase.Goals as goal

pub returns : goal.returns
unfolding phase_start_text
returns c =
    IfOk-equal c.put_word.result _ _ _ c.put_word.ensures
    (rw (c.in_ok-put_numbered-2.ensures, c.in_ok-put_numbered.ensures)
    (two_pieces c.args.out.now.items (numbered_text (codes "void phase") c.args.number (codes "(uint64_t q) {\n")) (numbered_text (codes "uint64_t r[") c.args.regs (codes "][V];\n")) (codes "(void)q;\n")))
