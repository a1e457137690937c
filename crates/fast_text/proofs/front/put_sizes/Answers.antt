use Rattle.std.proofs.Common.{codes}
use Rattle.std.proofs.lemmas.Result.{IfOk-equal}
use Rattle.listing_text.specs.Numbers.{numbered_text}
use Rattle.fast_text.specs.WordFront.{rough_text, sizes_text}
use Rattle.fast_text.proofs.Pieces.{five_pieces}
use Rattle.fast_text.proofs.front.put_sizes.Goals as goal

pub returns : goal.returns
unfolding sizes_text
returns c =
    IfOk-equal c.put_rough.result _ _ _ c.put_rough.ensures
    (rw (c.in_ok-put_numbered-3.ensures, c.in_ok-put_numbered-2.ensures, c.in_ok-put_numbered.ensures, c.in_ok-put_word.ensures)
    (five_pieces c.args.out.now.items (codes "#include <stdint.h>\n") (numbered_text (codes "#define M ") c.args.modulus (codes "ULL\n")) (numbered_text (codes "#define V ") c.args.lanes (codes "\n"))
    (numbered_text (codes "#define HALF ") c.args.half (codes "\n")) (rough_text c.args.rough)))
