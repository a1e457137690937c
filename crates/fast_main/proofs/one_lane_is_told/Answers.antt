use Rattle.fast_main.proofs.OneLane.{tells_one_lane}
use Rattle.fast_main.proofs.one_lane_is_told.Goals as goal

pub returns : goal.returns
returns c lanes p count = tells_one_lane lanes p
