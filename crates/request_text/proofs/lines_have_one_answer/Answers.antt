use Rattle.request_text.proofs.OneAnswer.{spelt_once, one_answer, line_answered, conv_spelt_once, one_conv_answer}
use Rattle.request_text.proofs.OneAnswer.{conv_line_answered}
use Rattle.request_text.proofs.lines_have_one_answer.Goals as goal

pub returns-clause-spelt : goal.returns-clause-spelt
returns-clause-spelt c = spelt_once

pub returns-clause-answer : goal.returns-clause-answer
returns-clause-answer c = one_answer

pub returns-clause-some : goal.returns-clause-some
returns-clause-some c = line_answered

pub returns-clause-conv_spelt : goal.returns-clause-conv_spelt
returns-clause-conv_spelt c = conv_spelt_once

pub returns-clause-conv_answer : goal.returns-clause-conv_answer
returns-clause-conv_answer c = one_conv_answer

pub returns-clause-conv_some : goal.returns-clause-conv_some
returns-clause-conv_some c = conv_line_answered
