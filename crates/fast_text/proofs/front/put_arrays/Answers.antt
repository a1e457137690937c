use Rattle.std.proofs.Common.{codes}
use Rattle.std.proofs.lemmas.Result.{IfOk-equal}
use Rattle.listing_text.specs.Numbers.{numbered_text}
use Rattle.fast_text.specs.WordFront.{arrays_text}
use Rattle.fast_text.proofs.Pieces.{five_pieces}
use Rattle.fast_text.proofs.front.put_arrays.Goals as goal

pub returns : goal.returns
unfolding arrays_text
returns c =
    IfOk-equal c.put_numbered-4.result _ _ _ c.put_numbered-4.ensures
    (rw (c.in_ok-put_numbered-3.ensures, c.in_ok-put_numbered-2.ensures, c.in_ok-put_numbered.ensures, c.in_ok-put_word.ensures)
    (five_pieces c.args.out.now.items (codes "static __attribute__((aligned(64), unused)) word ") (numbered_text (codes "X[") c.args.words (codes "]")) (numbered_text (codes ", Y[") c.args.words (codes "]"))
    (numbered_text (codes ", A[") c.args.words (codes "]")) (numbered_text (codes ", B[") c.args.words (codes "];\n"))))
