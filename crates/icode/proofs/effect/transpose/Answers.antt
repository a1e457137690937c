use Rattle.std.proofs.Common.{◌≡◌, ◌≤◌, ◌*◌, arith, ◌∙◌, ap, length, length-set}
use Rattle.icode.specs.Machine.{transposed, with_words}
use Rattle.icode.proofs.Transposes.{transpose_step, length-transposed, take-all}
use Rattle.icode.proofs.effect.transpose.Goals as goal

pub loop-lane-preserved : goal.loop-lane-preserved
loop-lane-preserved c =
    let inv = c.loop-lane.invariant in
    record {
      same = length-set c.loop-lane.registers _ _ ∙ inv.same;
      so_far = transpose_step c.args.lanes c.args.register c.args.source c.loop-row.row c.loop-lane.lane c.loop-lane.registers c.args.registers.now (omega arith) (omega arith) c.requires.apart inv.so_far;
    }

pub returns : goal.returns
returns c =
    let T = transposed c.args.lanes c.args.registers.now c.args.source in
    let row : c.loop-row.row ≡ c.args.lanes = omega arith in
    let all : length T ≤ c.loop-row.row * c.args.lanes = omega (arith, length-transposed c.args.lanes c.args.registers.now c.args.source, ap (λ k. k * c.args.lanes) row) in
    c.loop-row.invariant.so_far ∙ ap (with_words c.args.registers.now (c.args.register * c.args.lanes)) (take-all _ T all)
