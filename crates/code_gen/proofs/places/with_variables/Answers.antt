use Rattle.std.proofs.Common.{◌-◌, arith}
use Rattle.perm_algebra.specs.Views.{plain_sum}
use Rattle.code_gen.proofs.PassCode.Writing.{next-variable}
use Rattle.code_gen.specs.Views.{parts_in, plain_frame}
use Rattle.code_gen.proofs.places.with_variables.Goals as goal

pub loop-depth-preserved : goal.loop-depth-preserved
loop-depth-preserved c =
    next-variable (plain_frame c.args.frame) c.args.open_loops c.loop-depth.depth (c.loop-depth.depth - 1) c.factor_of-factor.result (plain_sum c.args.sum.now) (parts_in c.args.others)
    (parts_in c.loop-depth.parts) (parts_in c.in_ok-parts.parts) (omega arith) (omega arith) c.factor_of-factor.ensures c.loop-depth.invariant c.in_ok-parts.ensures
