use Rattle.std.proofs.Common.{Err, ◌∙◌, sym, subst}
use Rattle.spl_text.specs.Answer.{Answers}
use Rattle.spl_text.proofs.Answering.{answer_formula, answer_fault}
use Rattle.spl_text.proofs.Lengths.{few_parts}
use Rattle.spl_text.proofs.ReadAgain.{only_formula, only_fault}
use Rattle.spl_text.proofs.reading.read_spl.Goals as goal

pub returns-in-Ok-clause-answer : goal.returns-in-Ok-clause-answer
returns-in-Ok-clause-answer c = answer_formula c.args.text.now c.in-Ok.f c.in-Ok.ensures

pub returns-in-Err-clause-answer : goal.returns-in-Err-clause-answer
returns-in-Err-clause-answer c =
    subst (λ fault. Answers c.args.text.now (Err fault)) (sym c.fault_at.ensures)
    (answer_fault c.args.text.now c.in-Err.halt c.in-Err.ensures)

pub returns-in-Ok-clause-only : goal.returns-in-Ok-clause-only
returns-in-Ok-clause-only c = λ f l s p. (tt, only_formula c.args.text.now c.in-Ok.f c.in-Ok.ensures f l s p)

pub returns-in-Err-clause-only : goal.returns-in-Err-clause-only
returns-in-Err-clause-only c = λ f l s p. (c.fault_at.ensures ∙ only_fault c.args.text.now c.in-Err.halt c.in-Err.ensures f l s p, tt)

pub returns-in-Ok-clause-parts : goal.returns-in-Ok-clause-parts
returns-in-Ok-clause-parts c = few_parts c.args.text.now c.in-Ok.f
    (answer_formula c.args.text.now c.in-Ok.f c.in-Ok.ensures).spelt
