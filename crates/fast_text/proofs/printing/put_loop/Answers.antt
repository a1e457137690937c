use Rattle.std.proofs.Common.{[], codes}
use Rattle.std.proofs.lemmas.Result.{IfOk-equal}
use Rattle.listing_text.specs.Numbers.{numbered_text}
use Rattle.fast_text.specs.WordText.{loop_text}
use Rattle.fast_text.proofs.Pieces.{four_pieces}
use Rattle.fast_text.proofs.printing.put_loop.Goals as goal

pub returns : goal.returns
unfolding loop_text
returns c =
    IfOk-equal c.put_numbered-4.result _ _ _ c.put_numbered-4.ensures
    (rw (c.in_ok-put_numbered-3.ensures, c.in_ok-put_numbered-2.ensures, c.in_ok-put_numbered.ensures)
    (four_pieces c.args.out.now.items (numbered_text (codes "for (uint64_t v") c.args.depth (codes " = 0; v")) (numbered_text [] c.args.depth (codes " < "))
    (numbered_text [] c.args.count (codes "; v")) (numbered_text [] c.args.depth (codes "++) {\n"))))
