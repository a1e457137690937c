use Rattle.std.proofs.Common.{Global, map, string_bytes}
use Rattle.commands.specs.Input.Stage.{status_of}
use Rattle.spiral_main.specs.Outcome.{AccountsFor}
use Rattle.spiral_main.proofs.OneSide.{one_side_fails}
use Rattle.spiral_main.proofs.FormulaTheorem.{formula_run_is_right}
use Rattle.spiral_main.proofs.Theorem.{any_run_is_right}
use Rattle.spiral_main.proofs.run.spiral_run.Goals as goal

pub returns-clause-after : goal.returns-clause-after
returns-clause-after g c = rw c.ending-status.ensures c.work.ensures.after

pub returns-clause-words : goal.returns-clause-words
returns-clause-words g c = rw c.ending-status.ensures c.work.ensures.words

pub returns-clause-told : goal.returns-clause-told
returns-clause-told g c = rw c.ending-status.ensures c.work.ensures.told

pub returns-clause-one_side : goal.returns-clause-one_side
returns-clause-one_side g c =
    one_side_fails (status_of c.work.result) (g.I.Source.faults c.args.input.now) (g.I.Source.faults c.work.new.input)
    (g.O.Sink.faults c.args.output.now) (g.O.Sink.faults c.work.new.output) c.work.ensures.read c.work.ensures.write

pub returns-clause-right : goal.returns-clause-right
returns-clause-right g c = λ well.
    let words = map (string_bytes {Z = Global}) c.args.words.now.items in
    let input = g.I.Source.told in
    let taken = g.O.Sink.taken in
    let status = c.ending-status.result in
    let told : AccountsFor words (input c.args.input.now) (input c.work.new.input) (taken c.args.output.now)
    (taken c.work.new.output) status = rw c.ending-status.ensures c.work.ensures.told in
    any_run_is_right words (input c.args.input.now) (input c.work.new.input) (taken c.args.output.now)
    (taken c.work.new.output) status told well

pub returns-clause-formulas : goal.returns-clause-formulas
returns-clause-formulas g c = λ well.
    let words = map (string_bytes {Z = Global}) c.args.words.now.items in
    let input = g.I.Source.told in
    let taken = g.O.Sink.taken in
    let status = c.ending-status.result in
    let told : AccountsFor words (input c.args.input.now) (input c.work.new.input) (taken c.args.output.now)
    (taken c.work.new.output) status = rw c.ending-status.ensures c.work.ensures.told in
    formula_run_is_right words (input c.args.input.now) (input c.work.new.input) (taken c.args.output.now)
    (taken c.work.new.output) status told well
