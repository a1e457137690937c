use Rattle.std.proofs.Common.{rules, ◌≡◌, All, List, None, Option, ◌++◌, map, subst, append_assoc}
use Rattle.std.proofs.lemmas.List.Elements.{All-tail}
use Rattle.smp_rewrite.specs.declared.Factor.{Factor}
use Rattle.smp_rewrite.specs.Views.{plain_factor}
use Rattle.vec_rewrite.specs.declared.Grid.{Grid}
use Rattle.vec_rewrite.specs.Laws.{HasRows}
use Rattle.vec_rewrite.specs.Turning.{laned_from}
use Rattle.vec_rewrite.specs.Vectors.{PlainFactor}
use Rattle.vec_rewrite.specs.Views.{plain_vec_factor}
use Rattle.vec_rewrite.proofs.laned_all.Goals as goal

pub loop-factor-preserved : goal.loop-factor-preserved
loop-factor-preserved c =
    let all : Option Grid → List Factor → List PlainFactor = λ order fs. laned_from c.args.d order (map plain_factor fs) in
    let rows : Factor → Type 0 = λ f. HasRows (plain_factor f) in
    let left = subst (λ fs. (map plain_vec_factor c.loop-factor.out.items ++ all c.loop-factor.order fs ≡ all None c.args.factors.items) × All rows fs) c.in-Some.ensures.steps.0 c.loop-factor.invariant in
    (search (rules, append_assoc, left.0), All-tail rows c.in-Some.factor _ left.1)
