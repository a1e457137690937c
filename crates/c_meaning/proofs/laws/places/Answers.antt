use Rattle.c_meaning.proofs.PlaceTexts.{places_are_trees}
use Rattle.c_meaning.proofs.PlaceValues.{places_have_values}
use Rattle.c_meaning.proofs.laws.places.Goals as goal

pub returns : goal.returns
returns _ = record { trees = places_are_trees; values = places_have_values }
