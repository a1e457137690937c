use Rattle.std.proofs.Common.{arith}
use Rattle.icode.proofs.LaneSteps.{write_step}
use Rattle.icode.proofs.lanes.write_lanes.Goals as goal

pub loop-lane-preserved : goal.loop-lane-preserved
loop-lane-preserved c = write_step c.args.values.now c.loop-lane.words c.args.words.now c.args.at c.loop-lane.lane c.told-values (omega arith) c.loop-lane.invariant
