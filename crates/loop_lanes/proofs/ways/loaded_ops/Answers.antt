use Rattle.std.proofs.Common.{refl, ap}
use Rattle.loop_lanes.specs.Views.{ops_made}
use Rattle.loop_lanes.proofs.Choices.{first_made, second_made}
use Rattle.loop_lanes.proofs.ways.loaded_ops.Goals as goal

pub returns-in-Some : goal.returns-in-Some
returns-in-Some c = first_made _ _ _ _ _ _ _ _ refl refl c.in_ok-ops.ensures (ap ops_made c.in-Some.is)

pub returns-in_ok-made-in-None : goal.returns-in_ok-made-in-None
returns-in_ok-made-in-None c =
    second_made _ _ _ _ _ _ _ _ refl refl c.in_ok-ops.ensures (ap ops_made c.in-None.is) c.in_ok-made-in-None.ensures
