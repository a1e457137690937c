use Rattle.icode.specs.Plain.{plain_body}
use Rattle.nests.specs.Views.{loops_in}
use Rattle.nests.proofs.bodies.+are_nested.Given as goal

abbrev pub decreases-are_nested : goal.decreases-are_nested
decreases-are_nested l = loops_in (plain_body l.body.now)
