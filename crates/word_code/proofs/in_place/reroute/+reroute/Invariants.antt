use Rattle.word_code.specs.Views.{plain_word_stmt}
use Rattle.nests.proofs.Items.{AreChanged}
use Rattle.word_code.specs.InPlace.Routes.{rerouted_stmt}
use Rattle.word_code.proofs.in_place.reroute.+reroute.Given as goal

abbrev pub invariant-reroute_body-loop-stmt : goal.invariant-reroute_body-loop-stmt
invariant-reroute_body-loop-stmt l =
    goal.unvisited-reroute_body-loop-stmt l × AreChanged plain_word_stmt (rerouted_stmt l.route) l.stmt-index l.initial.body l.body
