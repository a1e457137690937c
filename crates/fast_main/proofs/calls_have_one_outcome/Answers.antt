use Rattle.fast_main.proofs.Once.{outcome_once}
use Rattle.fast_main.proofs.calls_have_one_outcome.Goals as goal

pub returns-clause-status : goal.returns-clause-status
returns-clause-status c words bytes a b s t p q = (outcome_once words bytes a b s t p q).0

pub returns-clause-text : goal.returns-clause-text
returns-clause-text c words bytes a b s t p q = (outcome_once words bytes a b s t p q).1
