use Rattle.std.proofs.Common.{◌↔◌, Bool, IsTrue, subst, sym}
use Rattle.icode.specs.Actions.{plain_code}
use Rattle.icode.specs.Fresh.{IsFresh}
use Rattle.icode.specs.Program.{plain_program}
use Rattle.code_check.proofs.MarksComplete.{marks_decide}
use Rattle.code_check.proofs.fresh.is_fresh.Goals as goal

pub returns-clause-decides : goal.returns-clause-decides
returns-clause-decides c apart =
    let p = c.args.program.now in
    subst (λ (b : Bool). IsTrue b ↔ IsFresh (plain_code (plain_program p))) (sym c.in_ok-fresh.ensures)
    (marks_decide (plain_program p) p.header.of_line.0 c.requires.fits apart)
