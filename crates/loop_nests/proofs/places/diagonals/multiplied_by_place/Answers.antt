use Rattle.std.proofs.Common.{sym, ap, ◌∙◌, [], map}
use Rattle.std.proofs.lemmas.List.{map-id}
use Rattle.sigma_spl.specs.Views.{plain_factors, plain_nest}
use Rattle.perm_algebra.specs.Views.{plain_sum}
use Rattle.loop_nests.proofs.PlaceLemmas.Passes.{multiplied-from}
use Rattle.loop_nests.proofs.places.diagonals.multiplied_by_place.Goals as goal

pub returns : goal.returns
returns c =
    multiplied-from (plain_nest c.in_ok-other.other) (plain_nest c.args.nest.now) (plain_factors c.args.factors.now) [] (map plain_sum c.in_ok-places.places.items) c.in_ok-other.ensures
    (c.in_ok-places.ensures ∙ ap (map plain_sum) c.deref.ensures.value ∙ sym (map-id (map plain_sum c.args.nest.now.scatters.items)))
