use Rattle.std.proofs.Common.{sym, ap₂, ◌∙◌, arith}
use Rattle.icode.specs.Plain.{PlainBody, PlainOp, NoStmts, AndStmts, Do}
use Rattle.code_gen.specs.PassCode.Statements.{followed_by}
use Rattle.code_gen.proofs.PlainRules.{straight-take}
use Rattle.code_gen.proofs.kernel_statements.straight.Goals as goal

pub loop-instruction-preserved : goal.loop-instruction-preserved
loop-instruction-preserved c =
    c.in_ok-put_op.ensures
    ∙ ap₂ (λ (b : PlainBody) (o : PlainOp). followed_by b (AndStmts (Do o) NoStmts)) c.loop-instruction.invariant c.op.ensures
    ∙ sym (straight-take c.args.code.now c.loop-instruction.instruction-index _ (omega arith))
