use Rattle.std.proofs.Common.{subst}
use Rattle.std.specs.Prelude.{All}
use Rattle.std.proofs.lemmas.List.Elements.{All-tail}
use Rattle.sigma_lower.specs.Room.{IsRoomy}
use Rattle.sigma_lower.proofs.Sigmas.{before-more}
use Rattle.sigma_spl.specs.Views.{plain_term}
use Rattle.vec_rewrite.specs.declared.VecFactor.{VecFactor}
use Rattle.vec_rewrite.specs.Vectors.{factor_step}
use Rattle.vec_rewrite.specs.Views.{plain_vec_factor}
use Rattle.sigma_lower.proofs.tree.factors_before.Goals as goal

pub loop-factor-preserved : goal.loop-factor-preserved
loop-factor-preserved c =
    let roomy : VecFactor → Type 0 = λ f. IsRoomy (factor_step c.args.procs c.args.lanes (plain_vec_factor f)) in (
      before-more c.args.procs c.args.lanes c.loop-factor.yielded c.in-Some.factor (plain_term c.args.after) (plain_term c.loop-factor.product) (plain_term c.in_ok-term.term) (plain_term c.in_ok-product.product)
          c.loop-factor.invariant.0 c.in_ok-term.ensures c.in_ok-product.ensures,
      All-tail roomy c.in-Some.factor c.next.new.self.rest.items (subst (All roomy) c.in-Some.ensures.steps.0 c.loop-factor.invariant.1),
    )
