use Rattle.spiral_main.proofs.RightRequests.{planned_is_right}
use Rattle.spiral_main.proofs.planned_requests_are_right.Goals as goal

pub returns : goal.returns
returns c = planned_is_right
