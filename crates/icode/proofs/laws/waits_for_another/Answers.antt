use Rattle.icode.proofs.Open.{phases_open, waits_for, done_where}
use Rattle.icode.proofs.laws.waits_for_another.Goals as goal

pub returns-clause-opens : goal.returns-clause-opens
returns-clause-opens c code is x turns = phases_open code is x turns

pub returns-clause-waits : goal.returns-clause-waits
returns-clause-waits c code is x turns q = waits_for code is x turns q

pub returns-clause-done : goal.returns-clause-done
returns-clause-done c code is x turns q = done_where code is x turns q
