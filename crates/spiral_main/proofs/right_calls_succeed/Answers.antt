use Rattle.spiral_main.proofs.RightCalls.{right_calls}
use Rattle.spiral_main.proofs.right_calls_succeed.Goals as goal

pub returns : goal.returns
returns c = right_calls
