use Rattle.std.proofs.Common.{sym, ap, ◌∙◌, subst, ◌<◌, ◌∷◌, [], length}
use Rattle.sigma_spl.proofs.Keeps.{inner_positive}
use Rattle.loop_nests.specs.Places.Known.{IsKnownPass}
use Rattle.loop_merge.proofs.States.{known-move}
use Rattle.loop_merge.proofs.merging.with_moved.Goals as goal

pub moved_nest-requires-clause-some : goal.moved_nest-requires-clause-some
moved_nest-requires-clause-some c = inner_positive c.args.path.now (length c.args.places.now) (subst (λ z. 0 < z) (sym c.requires.good.term.1) c.requires.room.some)

pub with_pass-requires-clause-known : goal.with_pass-requires-clause-known
with_pass-requires-clause-known c =
    subst (IsKnownPass c.args.limits.room c.args.limits.size) (sym (c.in_ok-pass.ensures ∙ ap (λ z. z ∷ []) c.in_ok-nest.ensures))
    (known-move c.args.limits.room c.args.limits.size c.requires.room c.args.path.now c.args.places.now c.requires.good c.requires.several)
