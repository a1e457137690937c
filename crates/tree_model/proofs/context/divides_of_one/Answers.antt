use Rattle.std.proofs.Common.{◌≡◌, true, arith, ap}
use borrow.Author.Count.{below_more}
use Rattle.matrix_meaning.specs.declared.Request.{Request}
use Rattle.tree_model.proofs.Splits.{no_left_fits}
use Rattle.tree_model.proofs.context.divides_of_one.Goals as goal

pub loop-r-preserved : goal.loop-r-preserved
loop-r-preserved c = below_more _ _ c.loop-r.invariant (λ w. let yes : c.fits_left.result ≡ true = c.fits_left.ensures.1 w in grind arith)

pub returns : goal.returns
returns c =
    (λ e. absurd (grind arith), λ can. absurd (no_left_fits c.args.c.now c.loop-r.r (omega (arith, ap (λ (x : Request). x.size) c.request-r-end.ensures.value)) c.loop-r.invariant c.if-is_plain.ensures can))
