use Rattle.loop_lanes.proofs.Choices.{fails_first, holds_all}
use Rattle.loop_lanes.proofs.columns.are_columns.Goals as goal

pub returns-then-are_ops_by_lane : goal.returns-then-are_ops_by_lane
returns-then-are_ops_by_lane c =
    holds_all _ _ _ _ _ _ _ _ (c.are_tiles.ensures c.args.array) c.if-are_tiles.true c.are_stores_by_lane.ensures c.if-are_stores_by_lane.true
    c.are_ops_by_lane.ensures c.if-are_ops_by_lane.true c.are_distinct.ensures

pub returns-else-are_tiles : goal.returns-else-are_tiles
returns-else-are_tiles c = fails_first _ _ _ (c.are_tiles.ensures c.args.array) c.if-are_tiles.false
