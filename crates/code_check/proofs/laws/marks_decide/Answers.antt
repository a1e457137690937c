use Rattle.code_check.proofs.MarksComplete.{marks_decide}
use Rattle.code_check.proofs.laws.marks_decide.Goals as goal

pub returns : goal.returns
returns c = marks_decide
