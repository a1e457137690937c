use Rattle.fast_main.proofs.Existence.{passed_sound}
use Rattle.fast_main.proofs.words_are_sound.Goals as goal

pub returns : goal.returns
returns c = passed_sound
