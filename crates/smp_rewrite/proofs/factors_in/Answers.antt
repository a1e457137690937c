use Rattle.std.proofs.Common.{rules, ◌≡◌, All, List, ◌++◌, map, subst, append_assoc}
use Rattle.std.specs.List.{flat_map}
use Rattle.std.proofs.lemmas.List.Elements.{All-tail}
use Rattle.smp_rewrite.specs.Layout.Views.{plain_step}
use Rattle.smp_rewrite.specs.declared.layout.Step.{Step}
use Rattle.smp_rewrite.specs.Cut.{factors_of}
use Rattle.smp_rewrite.specs.Laws.{step_size}
use Rattle.smp_rewrite.specs.Smp.{PlainFactor}
use Rattle.smp_rewrite.specs.Views.{plain_factor}
use Rattle.smp_rewrite.proofs.factors_in.Goals as goal

pub loop-step-preserved : goal.loop-step-preserved
loop-step-preserved c =
    let all : List Step → List PlainFactor = λ ss. flat_map (factors_of c.args.c.now.size c.args.c.now.procs) (map plain_step ss) in
    let sized : Step → Type 0 = λ s. step_size (plain_step s) ≡ c.args.c.now.size in
    let left = subst (λ ss. (map plain_factor c.loop-step.factors.items ++ all ss ≡ all c.args.steps.items) × All sized ss) c.in-Some.ensures.steps.0 c.loop-step.invariant in
    (search (rules, append_assoc, left.0), All-tail sized c.in-Some.step _ left.1)
