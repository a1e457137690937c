use Rattle.std.proofs.Common.{sym, ap, ◌∙◌, subst, map}
use Rattle.std.proofs.lemmas.List.{with_items_is}
use Rattle.sigma_spl.specs.Views.{plain_nest}
use Rattle.sigma_spl.specs.Merge.{lifted}
use Rattle.loop_nests.specs.Lifted.{AllFit, AllLift, behind}
use Rattle.loop_nests.proofs.Standing.{all-fit, behind-lifted}
use Rattle.loop_nests.proofs.beside.all_lifted.Goals as goal

pub raise_nests-requires : goal.raise_nests-requires
raise_nests-requires c =
    subst (λ zs. AllFit c.args.before (map plain_nest zs)) (sym c.deref_mut.ensures.value)
    (all-fit c.args.path.now c.args.size c.args.before (map plain_nest c.args.nests.items) c.in-None.ensures.cases c.requires)

pub lift_nests-requires : goal.lift_nests-requires
lift_nests-requires c =
    subst (λ zs. AllLift c.args.path.now c.args.size c.args.before (map plain_nest zs)) (sym c.deref_mut-in-Some.ensures.value) c.requires

pub returns-in-None : goal.returns-in-None
returns-in-None c =
    ap (map plain_nest) (with_items_is c.args.nests c.raise_nests.new.nests (c.raise_nests.auto.nests ∙ c.deref_mut.ensures.len))
    ∙ c.raise_nests.ensures
    ∙ ap (λ zs. map (behind c.args.before) (map plain_nest zs)) c.deref_mut.ensures.value
    ∙ behind-lifted c.args.path.now c.args.size c.args.before (map plain_nest c.args.nests.items) c.in-None.ensures.cases

pub returns-in_ok-lift_nests-in-Some : goal.returns-in_ok-lift_nests-in-Some
returns-in_ok-lift_nests-in-Some c =
    ap (map plain_nest) (with_items_is c.args.nests c.lift_nests.new.nests (c.lift_nests.auto.nests ∙ c.deref_mut-in-Some.ensures.len))
    ∙ c.in_ok-lift_nests-in-Some.ensures
    ∙ ap (λ zs. map (lifted c.args.path.now c.args.size c.args.before) (map plain_nest zs)) c.deref_mut-in-Some.ensures.value
