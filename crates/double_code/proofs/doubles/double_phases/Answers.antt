use Rattle.std.proofs.Common.{◌≡◌, List, subst, sym, arith, true}
use Rattle.icode.specs.declared.program.Stmt.{Stmt}
use Rattle.icode.specs.Limits.{is_body_within}
use Rattle.icode.specs.Plain.{plain_body}
use Rattle.double_code.proofs.Entries.{phase_within}
use Rattle.double_code.proofs.doubles.double_phases.Goals as goal

pub double_phase-requires-clause-within : goal.double_phase-requires-clause-within
double_phase-requires-clause-within c =
    subst (λ (xs : List Stmt). is_body_within c.args.setting.modulus (plain_body xs) 0 ≡ true)
    (sym c.deref.ensures.value)
    (phase_within c.args.setting.modulus c.args.phases.now c.loop-body.body-index c.body-item.result c.requires.within
    (omega arith) c.body-item.is)
