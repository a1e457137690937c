use Rattle.spiral_words.proofs.Decided.{asked_or_usage}
use Rattle.spiral_words.proofs.words_are_decided.Goals as goal

pub returns : goal.returns
returns c = asked_or_usage
