use Rattle.std.proofs.Common.{◌*◌, ◌∙◌, ap}
use Rattle.icode.specs.Machine.{with_words}
use Rattle.icode.proofs.LaneSteps.{take-zeros}
use Rattle.icode.proofs.effect.clear_register.Goals as goal

pub returns : goal.returns
returns c =
    let lanes = c.args.shape.now.lanes in
    c.write_lanes.ensures ∙ ap (with_words c.args.registers.now (c.args.register * lanes)) (take-zeros lanes 16 c.args.shape.now.limits.of_lanes.1)
