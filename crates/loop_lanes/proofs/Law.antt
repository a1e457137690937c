-- The law of lanes from loops.
use Rattle.loop_lanes.specs.Laws.{LanedLeavesTheSame}
use Rattle.loop_lanes.specs.Layers.{LanesWrite, LeaveWrites}
use Rattle.std.proofs.Common.{length}
use Rattle.loop_lanes.proofs.ColumnsAre.{columns_write, factored_columns_write}
use Rattle.loop_lanes.proofs.Told.{groups_write, groups_are_sure}
use Rattle.loop_lanes.proofs.LoadsTold.{of_kinds}
use Rattle.loop_lanes.proofs.LoadsHeld.{loaded_write, loaded_factored_write, loaded_rows_write}
use Rattle.loop_lanes.proofs.Nests.{lanes_follow}
use Rattle.loop_lanes.proofs.RoundsAre.{rounds_are_lanes}
use Rattle.loop_lanes.proofs.RowsAre.{rows_write}

lanes_write : LanesWrite
lanes_write v p to ops vs b q group can =
    of_kinds (λ new. LeaveWrites v p new ops vs b q) v p.regs (length vs) to ops can
    (rows_write v p to ops vs b q group) (columns_write v p to ops vs b q group)
    (factored_columns_write v p to ops vs b q group) (loaded_rows_write v p to ops vs b q group)
    (loaded_write v p to ops vs b q group) (loaded_factored_write v p to ops vs b q group)

pub laned_leaves_the_same : LanedLeavesTheSame
laned_leaves_the_same = lanes_follow (rounds_are_lanes groups_write groups_are_sure lanes_write)
