use Rattle.std.proofs.Common.{arith, ◌*◌, ◌∙◌, ap, take, le_of_eq}
use Rattle.icode.specs.Machine.{with_words, words_at, lane_by_lane}
use Rattle.icode.proofs.Words.{length-words_at}
use Rattle.icode.specs.Operation.{operated}
use Rattle.icode.specs.declared.arithmetic.Operation.TheVariants.{Product}
use Rattle.icode.proofs.LaneSteps.{lane_by_lane-take}
use Rattle.icode.proofs.effect.scale_register.Goals as goal

pub returns : goal.returns
returns c =
    let lanes = c.args.shape.now.lanes in
    let f = operated Product c.args.shape.now.modulus in
    let registers = c.args.registers.now in
    let from = c.args.source * lanes in
    c.write_lanes.ensures
    ∙ ap (with_words registers (c.args.register * lanes))
    (c.combine-values.ensures
    ∙ (ap (λ xs. lane_by_lane f xs (take lanes c.args.factors.now)) c.read_lanes-x.ensures.value
    ∙ lane_by_lane-take f lanes (words_at lanes registers from) c.args.factors.now (le_of_eq (length-words_at lanes registers from))))

pub combine-values-requires-clause-left_in : goal.combine-values-requires-clause-left_in
combine-values-requires-clause-left_in c = c.read_lanes-x.ensures.below c.args.shape.now.modulus (omega (arith, c.requires.residues 0)) c.requires.residues
