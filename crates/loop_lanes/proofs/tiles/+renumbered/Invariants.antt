use Rattle.std.proofs.Common.{length}
use Rattle.loop_lanes.proofs.tiles.+renumbered.Given as goal

abbrev pub decreases-renumbered : goal.decreases-renumbered
decreases-renumbered l = length l.turned.now
