use Rattle.std.proofs.Common.{◌*◌, codes}
use Rattle.std.proofs.lemmas.Result.{IfOk-equal}
use Rattle.listing_text.specs.Numbers.{numbered_text}
use Rattle.c_print.specs.CText.{front_text}
use Rattle.c_print.proofs.Shapes.{eight_pieces}
use Rattle.c_print.proofs.printing.put_front.Goals as goal

pub returns : goal.returns
unfolding front_text
returns c =
    IfOk-equal c.put_numbered-6.result _ _ _ c.put_numbered-6.ensures
    (rw (c.in_ok-put_numbered-5.ensures, c.in_ok-put_numbered-4.ensures, c.in_ok-put_numbered-3.ensures, c.in_ok-put_word-2.ensures, c.in_ok-put_numbered-2.ensures, c.in_ok-put_numbered.ensures, c.in_ok-put_word.ensures)
    (eight_pieces c.args.out.now.items (codes "#include <stdint.h>\n") (numbered_text (codes "#define M ") c.args.modulus (codes "ULL\n")) (numbered_text (codes "#define V ") c.args.lanes (codes "\n")) (codes "#define X (W + 0)\n")
    (numbered_text (codes "#define Y (W + ") c.args.words (codes ")\n")) (numbered_text (codes "#define A (W + ") (2 * c.args.words) (codes ")\n")) (numbered_text (codes "#define B (W + ") (3 * c.args.words) (codes ")\n"))
    (numbered_text (codes "static uint64_t W[") (4 * c.args.words) (codes "];\n"))))
