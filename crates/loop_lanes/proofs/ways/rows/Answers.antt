use Rattle.std.proofs.Common.{◌≡◌, ◌*◌, ap, arith}
use Rattle.nests.specs.Places.{stride}
use Rattle.loop_lanes.specs.Views.{stored_reference}
use Rattle.loop_lanes.proofs.Made.{narrow_first}
use Rattle.loop_lanes.proofs.ways.rows.Goals as goal

pub put_in_row-requires : goal.put_in_row-requires
put_in_row-requires c =
    let v = c.args.group.lanes in
    let loop = c.args.group.depth in
    let to = stored_reference c.args.target in
    let wide : v * stride loop to.parts ≡ v * 1 = ap (λ s. v * s) c.requires.unit in
    narrow_first v loop to c.args.ops.now c.loop-op.op-index c.op-item.result _ c.requires.few (omega (arith, c.requires.few, wide))
    c.loop-op-test.true c.op-item.is c.in_ok-copy.ensures c.loop-op.invariant.by_lane
