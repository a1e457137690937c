use Rattle.std.proofs.Common.{◌∙◌, refl, sym, ap, arith, List}
use Rattle.icode.specs.Plain.{plain_stmt, Do, body_of}
use Rattle.loop_lanes.specs.Views.{plain_ops}
use Rattle.nests.proofs.Straight.{straight_is, whole}
use Rattle.loop_lanes.proofs.loops.straight.Goals as goal
use Rattle.std.specs.Prelude.{map}
use Rattle.icode.specs.declared.program.Op.{Op}

pub returns : goal.returns
returns c =
    ap body_of (whole (λ (ops : List Op). map Do (plain_ops ops)) c.loop-op.op-index c.args.ops.now (map plain_stmt c.loop-op.stmts.items) (omega (arith, c.loop-op-test.false)) c.loop-op.invariant refl)
    ∙ sym (straight_is (plain_ops c.args.ops.now))
