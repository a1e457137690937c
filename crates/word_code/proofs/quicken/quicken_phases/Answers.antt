use Rattle.std.proofs.Common.{◌≡◌, List, subst, sym, ◌∙◌, arith, true}
use Rattle.icode.specs.declared.program.Stmt.{Stmt}
use Rattle.icode.specs.Limits.{is_body_within}
use Rattle.icode.specs.Plain.{plain_body}
use Rattle.word_code.proofs.Loosening.{one-phase}
use Rattle.word_code.proofs.Wholes.{phase_within}
use Rattle.word_code.proofs.quicken.quicken_phases.Goals as goal

pub quicken_alone-requires-clause-within : goal.quicken_alone-requires-clause-within
quicken_alone-requires-clause-within c =
    subst (λ (xs : List Stmt). is_body_within c.args.setting.modulus (plain_body xs) 0 ≡ true) (sym c.deref.ensures.value)
    (phase_within c.args.setting.modulus c.args.phases.now 0 c.index-phases-0.result c.requires.within
    (one-phase c.args.procs c.args.phases.now (sym c.if-is_alone.true ∙ c.is_alone.ensures)) c.index-phases-0.is)

pub quicken_phase-requires-clause-within : goal.quicken_phase-requires-clause-within
quicken_phase-requires-clause-within c =
    subst (λ (xs : List Stmt). is_body_within c.args.setting.modulus (plain_body xs) 0 ≡ true) (sym c.deref-in-loop-body.ensures.value)
    (phase_within c.args.setting.modulus c.args.phases.now c.loop-body.body-index c.body-item.result c.requires.within (omega arith) c.body-item.is)
