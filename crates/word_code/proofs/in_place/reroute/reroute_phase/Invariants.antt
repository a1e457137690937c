use Rattle.word_code.proofs.InPlace.Rerouting.{AreRerouted}
use Rattle.word_code.proofs.in_place.reroute.reroute_phase.Given as goal

abbrev pub invariant-loop-index : goal.invariant-loop-index
invariant-loop-index l = AreRerouted l.routes l.index l.initial.body l.body
