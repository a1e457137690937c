use Rattle.c_meaning.proofs.RowsHold.{expressions_hold, front_is, procedures_hold}
use Rattle.c_meaning.proofs.laws.small_texts.Goals as goal

pub returns : goal.returns
returns _ = record { expressions = expressions_hold; front = front_is; procedures = procedures_hold }
