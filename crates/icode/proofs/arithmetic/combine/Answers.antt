use Rattle.std.proofs.Common.{arith, ◌∙◌, length-set}
use Rattle.icode.specs.Operation.{operated}
use Rattle.icode.proofs.LaneSteps.{combine_step}
use Rattle.icode.proofs.arithmetic.combine.Goals as goal

pub loop-lane-preserved : goal.loop-lane-preserved
loop-lane-preserved c =
    let inv = c.loop-lane.invariant in
    record {
      whole = length-set c.loop-lane.values c.loop-lane.lane _ ∙ inv.whole;
      combined = combine_step (operated c.args.operation c.args.modulus.now) c.loop-lane.values c.args.left.now c.args.right.now c.loop-lane.lane _ inv.whole c.told-left c.told-right (omega arith) c.operate.ensures inv.combined;
    }
