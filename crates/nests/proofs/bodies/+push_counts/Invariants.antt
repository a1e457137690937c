use Rattle.icode.specs.Plain.{plain_body}
use Rattle.nests.specs.Views.{loops_in}
use Rattle.nests.proofs.bodies.+push_counts.Given as goal

abbrev pub decreases-push_counts : goal.decreases-push_counts
decreases-push_counts l = loops_in (plain_body l.body.now)
