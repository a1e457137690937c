use Rattle.std.proofs.Common.{codes}
use Rattle.std.proofs.lemmas.Result.{IfOk-equal}
use Rattle.fast_text.specs.FunctionText.{asked_text, declared_functions_text}
use Rattle.fast_text.proofs.Pieces.{pieces_between}
use Rattle.fast_text.proofs.header.put_functions_of.Goals as goal

pub returns : goal.returns
returns c =
    IfOk-equal c.put_word-2.result _ _ _ c.put_word-2.ensures
    (rw (c.in_ok-put_declared.ensures, c.in_ok-put_asked.ensures, c.in_ok-put_word.ensures)
    (pieces_between c.args.out.now.items (codes "#ifdef __cplusplus\nextern \"C\" {\n#endif\n")
    (asked_text c.args.capitals.now c.args.name.now)
    (declared_functions_text c.args.name.now c.args.word.now) (codes "#ifdef __cplusplus\n}\n#endif\n#endif\n")))
