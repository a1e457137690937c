use Rattle.icode.proofs.SequenceLemmas.ByLane.{arithmetic_is_by_lane, lists_follow, muls_are_by_lane, operations_are_by_lane}
use Rattle.icode.proofs.SequenceLemmas.ByLane.{weighted_is_by_lane}
use Rattle.icode.proofs.sequences.arithmetic_is_by_lane.Goals as goal

pub returns-clause-lanes : goal.returns-clause-lanes
returns-clause-lanes _ = arithmetic_is_by_lane

pub returns-clause-follow : goal.returns-clause-follow
returns-clause-follow _ = lists_follow

pub returns-clause-operations : goal.returns-clause-operations
returns-clause-operations _ = operations_are_by_lane

pub returns-clause-muls : goal.returns-clause-muls
returns-clause-muls _ = muls_are_by_lane

pub returns-clause-weighted : goal.returns-clause-weighted
returns-clause-weighted _ = weighted_is_by_lane
