use Rattle.std.proofs.Common.{Err, arith, subst}
use Rattle.std.proofs.lemmas.Result.{err_from_is_err_and}
use Rattle.data_stream.proofs.TokensLemmas.{reports_none}
use Rattle.schedules.specs.Turns.{named}
use Rattle.spiral_words.specs.Statuses.Status.{IsDefined}
use Rattle.commands.specs.Equations.Apply.{apply_work}
use Rattle.commands.specs.Equations.Formulas.{formed}
use Rattle.commands.specs.Input.Ends.{EndsCleanly}
use Rattle.commands.specs.Input.Stage.{status_of}
use Rattle.commands.specs.Equations.Front.{line}
use Rattle.commands.proofs.Inputs.FrontLemmas.{text_refused}
use Rattle.commands.proofs.FormulaLemmas.CompiledLemmas.{line_unread, apply_told}
use Rattle.commands.proofs.formulas.apply.apply.Goals as goal

pub returns-in_err-text-clause-told : goal.returns-in_err-text-clause-told
returns-in_err-text-clause-told g c =
    let told = c.in_err-text.ensures.told in
    let p = err_from_is_err_and c.from_residual.result c.from_residual.ensures.1 in
    rw (p.1, p.2, told.2.1) (line_unread (formed (named c.args.schedule.now)) (apply_work c.args.modulus.now) _ _ _ c.formula_line.new.feed.taken told.0 told.2.0 told.1 told.2.2)

pub returns-in_err-program-clause-told : goal.returns-in_err-program-clause-told
returns-in_err-program-clause-told g c =
    let told = c.in_ok-text.ensures.told in
    let refused = subst (λ t. IsDefined c.in_err-program.field-0.0 → formed (named c.args.schedule.now) t (Err c.in_err-program.field-0.0)) c.deref.ensures.value c.in_err-program.ensures.refused in
    let p = err_from_is_err_and c.from_residual-in_err-program.result c.from_residual-in_err-program.ensures.1 in
    rw (p.1, p.2) (text_refused (line 65536) (formed (named c.args.schedule.now)) (apply_work c.args.modulus.now) _ _ _ c.formula_line.new.feed.taken told.0 c.in_ok-text.text.items c.in_err-program.field-0.0
    told.1 (omega (arith, told.2.1, told.2.2)) told.2.3 told.2.1 refused c.in_err-program.ensures.refusal)

pub returns-clause-told : goal.returns-clause-told
returns-clause-told g c =
    let told = c.in_ok-text.ensures.told in
    let made = rw c.deref.ensures.value at c.in_ok-program.ensures.program in
    apply_told c.args.modulus.now c.args.schedule.now c.in_ok-program.program c.new.result _ _ _ _ _
    c.formula_line.new.feed.taken told.0 c.in_ok-text.text.items (status_of c.stream_turns.result)
    told.1 (omega (arith, told.2.1, told.2.2)) told.2.0 told.2.3 told.2.1 made c.in_ok-program.ensures.turns
    c.new.ensures.items c.stream_turns.ensures.told

pub returns-clause-ends : goal.returns-clause-ends
returns-clause-ends g c =
    let read = g.I.Source.faults in
    let write = g.O.Sink.faults in
    let taken = g.O.Sink.taken in
    let same = reports_none (read c.args.input.now) (read c.formula_line.new.input) _ c.in_ok-text.ensures.ends.read (λ e. cc) in
    subst (λ n. EndsCleanly (status_of c.stream_turns.result) c.stream_turns.new.feed.held n (read c.stream_turns.new.input)
    (write c.args.output.now) (write c.stream_turns.new.output) (taken c.args.output.now) (taken c.stream_turns.new.output)) same c.stream_turns.ensures.ends
