use Rattle.spl_text.proofs.Answering.{one_answer, some_answer, answer_is_read, read_is_answer}
use Rattle.spl_text.proofs.texts_have_one_answer.Goals as goal

pub returns-clause-one : goal.returns-clause-one
returns-clause-one c = one_answer

pub returns-clause-some : goal.returns-clause-some
returns-clause-some c = some_answer

pub returns-clause-read : goal.returns-clause-read
returns-clause-read c = λ text answer. (answer_is_read text answer, read_is_answer text answer)
