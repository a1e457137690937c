use Rattle.icode.specs.Plain.{plain_body}
use Rattle.nests.specs.Views.{loops_in}
use Rattle.nests.proofs.bodies.+innermost.Given as goal

abbrev pub decreases-innermost : goal.decreases-innermost
decreases-innermost l = loops_in (plain_body l.body.now)
