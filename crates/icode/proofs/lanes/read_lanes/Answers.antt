use Rattle.std.proofs.Common.{arith, refl, ◌∙◌, length-set, ◌+◌}
use Rattle.icode.proofs.LaneSteps.{read_step}
use Rattle.icode.proofs.Residues.{below-set, below-zeros}
use Rattle.icode.proofs.lanes.read_lanes.Goals as goal

pub loop-lane-init : goal.loop-lane-init
loop-lane-init c = record {
  whole = refl;
  read = refl;
  below = λ m pos h. below-zeros m 16 pos;
}

pub loop-lane-preserved : goal.loop-lane-preserved
loop-lane-preserved c =
    let inv = c.loop-lane.invariant in
    record {
      whole = length-set c.loop-lane.values c.loop-lane.lane _ ∙ inv.whole;
      read = read_step c.loop-lane.values c.args.words.now c.args.at c.loop-lane.lane _ inv.whole (omega arith) refl inv.read;
      below = λ m pos h. below-set m c.loop-lane.values c.loop-lane.lane _ (inv.below m pos h) (h (c.args.at + c.loop-lane.lane));
    }
