use Rattle.icode.specs.Plain.{plain_body}
use Rattle.nests.specs.Views.{loops_in}
use Rattle.nests.proofs.bodies.+last_stride.Given as goal

abbrev pub decreases-last_stride : goal.decreases-last_stride
decreases-last_stride l = loops_in (plain_body l.body.now)
