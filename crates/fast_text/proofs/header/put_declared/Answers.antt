use Rattle.std.proofs.Common.{codes}
use Rattle.std.proofs.lemmas.Result.{IfOk-equal}
use Rattle.fast_text.specs.FunctionText.{arrays_asked_text}
use Rattle.fast_text.proofs.Pieces.{eight_pieces}
use Rattle.fast_text.proofs.header.put_declared.Goals as goal

pub returns : goal.returns
returns c =
    IfOk-equal c.put_arrays_asked-2.result _ _ _ c.put_arrays_asked-2.ensures
    (rw (
      c.in_ok-put_word-6.ensures,
      c.in_ok-put_word-5.ensures,
      c.in_ok-put_word-4.ensures,
      c.in_ok-put_arrays_asked.ensures,
      c.in_ok-put_word-3.ensures,
      c.in_ok-put_word-2.ensures,
      c.in_ok-put_word.ensures,
    )
    (eight_pieces c.args.out.now.items (codes "void ") c.args.name.now (codes "(") (arrays_asked_text c.args.word.now)
    (codes "void ") c.args.name.now (codes "_phase(uint64_t k, uint64_t q, ") (arrays_asked_text c.args.word.now)))
