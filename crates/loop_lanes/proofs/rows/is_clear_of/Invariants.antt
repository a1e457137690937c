use Rattle.std.proofs.Common.{◌≡◌, drop}
use Rattle.std.specs.List.{list_all}
use Rattle.loop_lanes.specs.Rows.{is_clear}
use Rattle.loop_lanes.proofs.rows.is_clear_of.Given as goal

abbrev pub invariant-loop-other : goal.invariant-loop-other
invariant-loop-other l = list_all (is_clear l.lanes l.constant) (drop l.other-index l.others) ≡ list_all (is_clear l.lanes l.constant) l.others
