use Rattle.word_code.proofs.InPlace.Law.{in_place_is_same}
use Rattle.word_code.proofs.in_place.laws.in_place_leaves_the_same.Goals as goal

pub returns : goal.returns
returns c = in_place_is_same
