use Rattle.std.proofs.Common.{◌∙◌, map}
use Rattle.sigma_spl.specs.Views.{plain_nest}
use Rattle.perm_algebra.specs.Views.{plain_sum}
use Rattle.loop_nests.proofs.PlaceLemmas.Passes.{limited-of, ready-of}
use Rattle.loop_nests.proofs.places.changes.places_by.Goals as goal

pub simplified_sums-requires-clause-ready : goal.simplified_sums-requires-clause-ready
simplified_sums-requires-clause-ready c =
    ready-of c.args.access (plain_nest c.args.nest.now) c.deref.result.now (map plain_sum c.places_of.result.now) c.requires.ready (c.deref.ensures ∙ c.in_ok-counts.ensures) c.places_of.ensures

pub simplified_sums-requires-clause-within : goal.simplified_sums-requires-clause-within
simplified_sums-requires-clause-within c =
    limited-of c.args.access c.args.limits.room c.args.limits.size (plain_nest c.args.nest.now) c.deref.result.now (map plain_sum c.places_of.result.now) c.requires.within (c.deref.ensures ∙ c.in_ok-counts.ensures) c.places_of.ensures
