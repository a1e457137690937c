use Rattle.spiral_main.proofs.Calls.{one_status}
use Rattle.spiral_main.proofs.calls_have_one_status.Goals as goal

pub returns : goal.returns
returns c = one_status
