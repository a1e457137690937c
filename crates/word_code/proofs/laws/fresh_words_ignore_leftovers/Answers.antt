use Rattle.word_code.proofs.FreshWords.{fresh_words_ignore_leftovers}
use Rattle.word_code.proofs.laws.fresh_words_ignore_leftovers.Goals as goal

pub returns : goal.returns
returns c words left fresh are x turns size = fresh_words_ignore_leftovers words left fresh are x turns size
