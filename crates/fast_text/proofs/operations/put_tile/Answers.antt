use Rattle.std.proofs.Common.{codes}
use Rattle.std.proofs.lemmas.Result.{IfOk-equal}
use Rattle.fast_text.specs.WordText.{sources_text, targets_text, tile_text}
use Rattle.fast_text.proofs.Pieces.{five_pieces}
use Rattle.fast_text.proofs.operations.put_tile.Goals as goal

pub returns : goal.returns
unfolding tile_text
returns c =
    IfOk-equal c.put_word-3.result _ _ _ c.put_word-3.ensures
    (rw (c.in_ok-put_targets.ensures, c.in_ok-put_word-2.ensures, c.in_ok-put_sources.ensures, c.in_ok-put_word.ensures)
    (five_pieces c.args.out.now.items (codes "{ vec b[] = {") (sources_text c.args.lanes c.args.source) (codes "}; tile(b); ") (targets_text c.args.lanes c.args.register 0) (codes "}\n")))
