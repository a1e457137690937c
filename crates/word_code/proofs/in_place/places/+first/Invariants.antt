use Rattle.std.proofs.Common.{◌≡◌, drop}
use Rattle.icode.specs.Plain.{plain_body}
use Rattle.word_code.specs.InPlace.Routing.{first_array_in}
use Rattle.word_code.proofs.in_place.places.+first.Given as goal

abbrev pub invariant-first_array_in-loop-stmt : goal.invariant-first_array_in-loop-stmt
invariant-first_array_in-loop-stmt l = first_array_in (plain_body (drop l.stmt-index l.body)) ≡ first_array_in (plain_body l.body)
