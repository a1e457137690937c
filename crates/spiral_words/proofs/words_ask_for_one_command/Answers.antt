use Rattle.spiral_words.proofs.OneCommand.{asked_once}
use Rattle.spiral_words.proofs.words_ask_for_one_command.Goals as goal

pub returns : goal.returns
returns c = asked_once
