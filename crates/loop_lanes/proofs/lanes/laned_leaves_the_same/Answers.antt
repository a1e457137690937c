use Rattle.loop_lanes.proofs.Law as law
use Rattle.loop_lanes.proofs.lanes.laned_leaves_the_same.Goals as goal

-- src/laws.rt
pub returns : goal.returns
returns c = law.laned_leaves_the_same
