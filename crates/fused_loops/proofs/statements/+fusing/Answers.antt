use Rattle.icode.specs.Plain.{plain_body}
use Rattle.fused_loops.specs.Fused.{fused_stmts}
use Rattle.fused_loops.proofs.Seen.{last-changed, into-do, into-loop, stmt-none, stmt-do}
use Rattle.fused_loops.proofs.statements.+fusing.Goals as goal

pub fuse_stmt-returns-then-loops-eq0 : goal.fuse_stmt-returns-then-loops-eq0
fuse_stmt-returns-then-loops-eq0 t c =
    stmt-none c.args.loops c.args.made.now.items c.push.new.self.items c.args.stmt c.if-loops-eq0.true c.in_ok-push.ensures.items

pub fuse_stmt-returns-in_ok-push-in-Do : goal.fuse_stmt-returns-in_ok-push-in-Do
fuse_stmt-returns-in_ok-push-in-Do t c =
    stmt-do c.args.loops c.args.made.now.items c.push-in-Do.new.self.items c.args.stmt c.in-Do.op c.in-Do.is c.in_ok-push-in-Do.ensures.items

pub fuse_into-returns-in_ok-push-in-Do : goal.fuse_into-returns-in_ok-push-in-Do
fuse_into-returns-in_ok-push-in-Do t c =
    into-do (fused_stmts c.args.loops (plain_body c.args.inside.items)) c.args.made.now.items c.push.new.self.items c.args.last c.in-Do.op c.in-Do.is c.in_ok-push-in-Do.ensures.items

pub fuse_into-returns-in_ok-push-in-Loop : goal.fuse_into-returns-in_ok-push-in-Loop
fuse_into-returns-in_ok-push-in-Loop t c =
    into-loop (fused_stmts c.args.loops (plain_body c.args.inside.items)) c.args.made.now.items c.push-in-Loop.new.self.items c.args.last c.in-Loop.count c.in-Loop.body
    c.fuse_stmts.new.made c.in-Loop.is c.in_ok-push-in-Loop.ensures.items c.in_ok-fuse_stmts-in-Loop.ensures

pub fuse_in_last-returns-in_ok-fuse_into : goal.fuse_in_last-returns-in_ok-fuse_into
fuse_in_last-returns-in_ok-fuse_into t c =
    last-changed (fused_stmts c.args.loops (plain_body c.args.inside.items)) c.args.made.now.items c.pop.new.self.items c.fuse_into.new.made.items c.in-Some.last
    c.in-Some.ensures.items c.in_ok-fuse_into.ensures
