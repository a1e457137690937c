use Rattle.std.proofs.Common.{arith, ◌*◌, ◌∙◌, ap, ap₂}
use Rattle.icode.specs.Machine.{with_words, lane_by_lane, words_at}
use Rattle.icode.proofs.Words.{length-words_at}
use Rattle.icode.specs.Operation.{operated}
use Rattle.icode.specs.declared.arithmetic.Operation.TheVariants.{Difference}
use Rattle.icode.proofs.LaneSteps.{take-zeros, negated_lanes}
use Rattle.icode.proofs.Residues.{below-zeros}
use Rattle.icode.proofs.effect.negate_register.Goals as goal

pub combine-values-requires-clause-left_in : goal.combine-values-requires-clause-left_in
combine-values-requires-clause-left_in c = below-zeros c.args.shape.now.modulus 16 (omega (arith, c.requires.residues 0))

pub combine-values-requires-clause-right_in : goal.combine-values-requires-clause-right_in
combine-values-requires-clause-right_in c = c.read_lanes-x.ensures.below c.args.shape.now.modulus (omega (arith, c.requires.residues 0)) c.requires.residues

pub returns : goal.returns
returns c =
    let lanes = c.args.shape.now.lanes in
    let m = c.args.shape.now.modulus in
    let registers = c.args.registers.now in
    let from = c.args.source * lanes in
    c.write_lanes.ensures
    ∙ ap (with_words registers (c.args.register * lanes))
    (c.combine-values.ensures
    ∙ (ap₂ (lane_by_lane (operated Difference m)) (take-zeros lanes 16 c.args.shape.now.limits.of_lanes.1) c.read_lanes-x.ensures.value
    ∙ negated_lanes m lanes (words_at lanes registers from) (length-words_at lanes registers from)))
