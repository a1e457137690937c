use Rattle.std.proofs.Common.{◌≡◌, ap₂, subst, ◌∙◌}
use Rattle.icode.specs.Plain.{plain_stmt, plain_body}
use Rattle.fused_loops.specs.Blocks.{shared}
use Rattle.fused_loops.specs.Fused.{fused_onto, fused_phase}
use Rattle.fused_loops.proofs.Seen.{onto-kept}
use Rattle.fused_loops.proofs.fusion.fuse_phase.Goals as goal

pub loop-stmt-preserved : goal.loop-stmt-preserved
loop-stmt-preserved c =
    let whole = fused_phase c.args.lanes (plain_body c.args.body.items) in
    onto-kept c.args.lanes c.loop-stmt.wait c.loop-stmt.before.items c.in_ok-blocks.blocks.items (plain_stmt c.in-Some.stmt) (plain_body c.loop-stmt.made.items)
    (plain_body c.fuse_stmt.new.made.items) (plain_body c.next.new.self.rest.items) c.shared.result c.saturating_sub-wait.result whole c.saturating_sub-wait.ensures
    (c.shared.ensures.value ∙ ap₂ shared c.deref-in-loop-stmt.ensures.value c.deref-in-loop-stmt-2.ensures.value)
    c.in_ok-blocks.ensures c.in_ok-fuse_stmt.ensures
    (subst (λ ss. fused_onto c.args.lanes c.loop-stmt.wait c.loop-stmt.before.items (plain_body c.loop-stmt.made.items) (plain_body ss) ≡ whole)
    c.in-Some.ensures.steps.0 c.loop-stmt.invariant)
