use Rattle.fast_text.proofs.TextBack.{texts_determine_words}
use Rattle.fast_text.proofs.laws.texts_determine_words.Goals as goal

pub returns : goal.returns
returns c form has fresh other p q of_p of_q same = texts_determine_words form has fresh other p q of_p of_q same
