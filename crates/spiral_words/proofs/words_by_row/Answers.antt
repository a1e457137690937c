use Rattle.spiral_words.proofs.Meanings.{by_row}
use Rattle.spiral_words.proofs.words_by_row.Goals as goal

pub returns : goal.returns
returns c = by_row
