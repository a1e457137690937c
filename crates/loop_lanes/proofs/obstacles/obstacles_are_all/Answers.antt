use Rattle.loop_lanes.proofs.NoObstacle as law
use Rattle.loop_lanes.proofs.obstacles.obstacles_are_all.Goals as goal

pub returns : goal.returns
returns c = law.obstacles_are_all
