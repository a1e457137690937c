use Rattle.std.proofs.Common.{Vec, Global}
use Rattle.word_code.specs.declared.program.WordStmt.{WordStmt}
use Rattle.word_code.specs.Views.{plain_word_body}
use Rattle.nests.proofs.Items.{AreChanged}
use Rattle.word_code.specs.InPlace.Routes.{rerouted_phase}
use Rattle.word_code.proofs.in_place.reroute.reroute_phases.Given as goal

abbrev pub invariant-loop-body : goal.invariant-loop-body
invariant-loop-body l = AreChanged (λ (body : Vec WordStmt Global). plain_word_body body.items) (rerouted_phase l.routes) l.body-index l.fn.phases l.phases
