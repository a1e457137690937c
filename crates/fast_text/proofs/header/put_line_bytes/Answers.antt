use Rattle.std.proofs.Common.{◌++◌, ◌*◌, ap}
use Rattle.std.proofs.lemmas.Result.{IfOk-equal}
use Rattle.fast_text.specs.FunctionText.{line_bytes_text}
use Rattle.fast_text.proofs.header.put_line_bytes.Goals as goal

pub returns : goal.returns
returns c =
    IfOk-equal c.put_macro.result _ _ _ c.put_macro.ensures
    (ap (λ bytes. c.args.out.now.items ++ line_bytes_text c.args.capitals.now (c.args.line * bytes)) c.bytes_of_word.ensures)
