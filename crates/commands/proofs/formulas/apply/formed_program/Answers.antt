use Rattle.std.proofs.Common.{sym, subst, ◌∙◌, inl}
use Rattle.std.proofs.lemmas.Result.{err_from_is_err_and}
use Rattle.schedules.specs.Turns.{named}
use Rattle.runs.specs.Stream.{HasNoStranger}
use Rattle.commands.proofs.FormulaLemmas.CompiledLemmas.{unformed, forms}
use Rattle.commands.proofs.formulas.apply.formed_program.Goals as goal

pub returns-in_err-formula-clause-refused : goal.returns-in_err-formula-clause-refused
returns-in_err-formula-clause-refused c =
    let p = err_from_is_err_and c.from_residual.result c.from_residual.ensures.1 in
    rw (p.1, p.2) (λ d. inl (c.in_err-formula.ensures.refused d))

pub returns-in_err-check_turns-clause-refused : goal.returns-in_err-check_turns-clause-refused
returns-in_err-check_turns-clause-refused c =
    let first = c.in_err-check_turns.ensures.first in
    let p = err_from_is_err_and c.from_residual-in_err-check_turns.result c.from_residual-in_err-check_turns.ensures.1 in
    rw (p.1, p.2, first.2) (λ _. unformed (named c.args.schedule.now) c.args.text.now c.in_ok-formula.formula first.0 c.in_ok-formula.ensures.formula (sym c.stranger.ensures ∙ first.1))

pub returns-clause-program : goal.returns-clause-program
returns-clause-program c = (
  c.in_ok-formula.formula,
  forms (named c.args.schedule.now) c.args.text.now c.in_ok-formula.formula c.in_ok-formula.ensures.formula (sym c.stranger.ensures ∙ c.in_ok-check_turns.ensures.none),
  c.in_ok-program.ensures.code,
)

pub returns-clause-turns : goal.returns-clause-turns
returns-clause-turns c = subst (HasNoStranger c.args.schedule.now) (sym c.in_ok-program.ensures.code.header.procs) (sym c.stranger.ensures ∙ c.in_ok-check_turns.ensures.none)
