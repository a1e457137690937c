use Rattle.std.proofs.Common.{sym, ◌∙◌}
use Rattle.word_code.specs.InPlace.Views.{homes_of}
use Rattle.word_code.proofs.InPlace.Housing.{words_go_on}
use Rattle.word_code.proofs.in_place.homes.HomeTable.are_home.Goals as goal

pub loop-word-preserved : goal.loop-word-preserved
loop-word-preserved c =
    c.loop-word.invariant
    ∙ words_go_on (homes_of c.args.self.now) c.args.count c.args.at c.args.to c.loop-word.word c.loop-word-test.true (sym c.if-not-is_home.ensures)
