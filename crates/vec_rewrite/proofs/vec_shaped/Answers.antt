use Rattle.vec_rewrite.proofs.LaneShapes as laws
use Rattle.vec_rewrite.proofs.vec_shaped.Goals as goal

pub returns : goal.returns
returns c = laws.vec_shaped
