use Rattle.matrix_meaning.proofs.Asked.{asked_by_forward, asked_by_parts, asked_of_one}
use Rattle.matrix_meaning.proofs.Requests.{inverse_is_valid}
use Rattle.matrix_meaning.proofs.laws.asked_of_requests.Goals as goal

pub returns-clause-one : goal.returns-clause-one
returns-clause-one c = asked_of_one

pub returns-clause-forward : goal.returns-clause-forward
returns-clause-forward c = asked_by_forward

pub returns-clause-parts : goal.returns-clause-parts
returns-clause-parts c = asked_by_parts

pub returns-clause-valid : goal.returns-clause-valid
returns-clause-valid c = inverse_is_valid
