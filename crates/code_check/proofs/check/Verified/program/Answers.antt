use Rattle.icode.specs.Program.{plain_program}
use Rattle.code_check.proofs.Phases.{limits_of}
use Rattle.code_check.proofs.Whole.{passed_fits}
use Rattle.code_check.proofs.check.Verified.program.Goals as goal

pub returns-clause-fits : goal.returns-clause-fits
returns-clause-fits c = passed_fits (plain_program c.self.inside.program.now) (limits_of c.self.inside.program.now) c.self.invariant

pub returns-clause-order : goal.returns-clause-order
returns-clause-order c = c.order_is_free.ensures.program c.self.inside.program.now c.self.invariant.apart
