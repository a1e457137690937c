use Rattle.word_code.proofs.in_place.homes.HomeTable.+house.Given as goal

abbrev pub decreases-house : goal.decreases-house
decreases-house l = l.count
