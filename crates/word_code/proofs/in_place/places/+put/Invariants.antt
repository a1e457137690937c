use Rattle.std.proofs.Common.{◌≡◌, ◌++◌, drop}
use Rattle.icode.specs.Plain.{plain_body}
use Rattle.word_code.specs.InPlace.Routing.{places_in}
use Rattle.word_code.specs.InPlace.Views.{plain_places}
use Rattle.word_code.proofs.in_place.places.+put.Given as goal

abbrev pub invariant-put_places_in-loop-stmt : goal.invariant-put_places_in-loop-stmt
invariant-put_places_in-loop-stmt l =
    plain_places l.places.items ++ places_in l.side (plain_body (drop l.stmt-index l.body))
    ≡ plain_places l.fn.places.items ++ places_in l.side (plain_body l.body)
