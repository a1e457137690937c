use Rattle.word_code.proofs.InPlace.Choosing.{AreChosen}
use Rattle.word_code.proofs.in_place.routing.choose.Given as goal

abbrev pub invariant-loop-behind : goal.invariant-loop-behind
invariant-loop-behind l = AreChosen l.behind l.body l.routes.items l.target
