use Rattle.std.proofs.lemmas.Result.{IfOk-equal}
use Rattle.fast_text.specs.FunctionText.{calls_text, input_asked_text, lines_told_text, results_told_text}
use Rattle.fast_text.proofs.Pieces.{four_pieces}
use Rattle.fast_text.proofs.header.put_asked.Goals as goal

pub returns : goal.returns
returns c =
    let capitals = c.args.capitals.now in
    IfOk-equal c.put_lines_told.result _ _ _ c.put_lines_told.ensures
    (rw (c.in_ok-put_results_told.ensures, c.in_ok-put_input_asked.ensures, c.in_ok-put_calls.ensures)
    (four_pieces c.args.out.now.items (calls_text capitals c.args.name.now) (input_asked_text capitals)
    (results_told_text capitals) (lines_told_text capitals)))
