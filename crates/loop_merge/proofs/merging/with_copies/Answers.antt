use Rattle.std.proofs.Common.{sym, ap, ◌∙◌, subst, ◌<◌, ◌∷◌, []}
use Rattle.sigma_spl.specs.Views.{plain_work}
use Rattle.sigma_spl.specs.Work.{work_size}
use Rattle.sigma_spl.proofs.Keeps.{inner_positive}
use Rattle.loop_nests.specs.Places.Known.{IsKnownPass}
use Rattle.loop_merge.proofs.States.{known-nest}
use Rattle.loop_merge.proofs.merging.with_copies.Goals as goal

pub natural_nest-requires-clause-some : goal.natural_nest-requires-clause-some
natural_nest-requires-clause-some c = inner_positive c.args.path.now (work_size (plain_work c.args.work)) (subst (λ z. 0 < z) (sym c.requires.good.term.1) c.requires.room.some)

pub with_pass-requires-clause-known : goal.with_pass-requires-clause-known
with_pass-requires-clause-known c =
    subst (IsKnownPass c.args.limits.room c.args.limits.size) (sym (c.in_ok-pass.ensures ∙ ap (λ z. z ∷ []) c.in_ok-nest.ensures))
    (known-nest c.args.limits.room c.args.limits.size c.requires.room c.args.path.now (plain_work c.args.work) c.requires.good c.requires.several c.requires.words)
