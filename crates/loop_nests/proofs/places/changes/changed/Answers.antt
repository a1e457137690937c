use Rattle.std.proofs.Common.{sym, ap, ◌∙◌, map}
use Rattle.std.proofs.lemmas.List.{with_items_is}
use Rattle.std.specs.List.{list_all}
use Rattle.index_fn.specs.Index.{mapping_of}
use Rattle.sigma_spl.specs.Views.{plain_nest}
use Rattle.loop_nests.specs.Places.Sides.{changed, nest_can_take, places_by}
use Rattle.loop_nests.specs.Places.Views.{plain_sums}
use Rattle.loop_nests.proofs.PlaceLemmas.Changes.{nests_in}
use Rattle.loop_nests.proofs.PlaceLemmas.Passes.{change-tests}
use Rattle.loop_nests.proofs.places.changes.changed.Goals as goal

pub returns-in-None-clause-refused : goal.returns-in-None-clause-refused
returns-in-None-clause-refused c = λ zs is.
    let access = c.args.access in
    let room = c.args.limits.room in
    let n = c.args.limits.size in
    let f = mapping_of c.args.f.now in (
      sym (change-tests access room n f (map plain_nest c.args.nests.items) c.requires.known.within)
          ∙ ap (λ xs. list_all (nest_can_take access room n f) (map plain_nest xs)) (sym c.deref.ensures.value)
          ∙ c.in_ok-all_places_by.ensures.none c.in-None.is,
      ap nests_in (sym is),
    )

pub returns-in-Some-clause-made : goal.returns-in-Some-clause-made
returns-in-Some-clause-made c = λ zs is.
    let access = c.args.access in
    let room = c.args.limits.room in
    let n = c.args.limits.size in
    let f = mapping_of c.args.f.now in
    let made = c.in_ok-all_places_by.ensures.some c.in-Some.places c.in-Some.is in (
      sym (change-tests access room n f (map plain_nest c.args.nests.items) c.requires.known.within)
          ∙ ap (λ xs. list_all (nest_can_take access room n f) (map plain_nest xs)) (sym c.deref.ensures.value)
          ∙ made.0,
      ap nests_in (sym is)
          ∙ ap (map plain_nest) (with_items_is c.args.nests c.put_all_places.new.nests (c.put_all_places.auto.nests ∙ c.deref_mut.ensures.len))
          ∙ c.put_all_places.ensures f (ap (map plain_sums) c.deref_mut-in-Some.ensures.value ∙ made.1 ∙ ap (λ xs. map (places_by access f) (map plain_nest xs)) (c.deref.ensures.value ∙ sym c.deref_mut.ensures.value))
          ∙ ap (λ xs. changed access f (map plain_nest xs)) c.deref_mut.ensures.value,
    )
