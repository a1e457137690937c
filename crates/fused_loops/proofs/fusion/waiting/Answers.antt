use Rattle.std.proofs.Common.{ℕ, ◌+◌, ap, sym, ◌∙◌, drop, arith}
use Rattle.icode.specs.Plain.{plain_body}
use Rattle.fused_loops.proofs.Seen.{waits, waits-first, after-nest, after-other}
use Rattle.fused_loops.proofs.fusion.waiting.Goals.{then-not-is_nest, else-not-is_nest}
use Rattle.fused_loops.proofs.fusion.waiting.Goals as goal

pub loop-index-init : goal.loop-index-init
loop-index-init c = waits-first c.args.lanes (plain_body c.args.body.now)

pub loop-index-preserved : goal.loop-index-preserved
loop-index-preserved c =
    let index = c.loop-index.index in
    let with_count : ℕ → ℕ = λ count. waits c.args.lanes (plain_body (drop (index + 1) c.args.body.now)) count (index + 1) in
    elim c.if-not-is_nest.branch [
      | then-not-is_nest w ↦
          after-other c.args.lanes c.args.body.now c.index-body-index.result index c.loop-index.count _ (omega (arith, c.loop-index-test.true)) c.index-body-index.is
          c.loop-index.invariant (sym c.is_nest.ensures ∙ w.if-not-is_nest.true)
          ∙ ap with_count (sym w.count-is)
      | else-not-is_nest w ↦
          after-nest c.args.lanes c.args.body.now c.index-body-index.result index c.loop-index.count _ (omega (arith, c.loop-index-test.true)) c.index-body-index.is
          c.loop-index.invariant (sym c.is_nest.ensures ∙ w.if-not-is_nest.false)
          ∙ ap with_count (sym w.count-is)
    ]
