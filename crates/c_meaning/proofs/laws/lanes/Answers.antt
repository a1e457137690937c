use Rattle.c_meaning.proofs.LaneValues.{lanes_compute, lanes_become}
use Rattle.c_meaning.proofs.ScaleValues.{lanes_scale}
use Rattle.c_meaning.proofs.LaneSteps.{lanes_are_steps}
use Rattle.c_meaning.proofs.laws.lanes.Goals as goal

pub returns : goal.returns
returns _ = record { values = lanes_compute; products = lanes_scale; steps = lanes_become; order = lanes_are_steps }
