use Rattle.std.proofs.Common.{◌≡◌, take}
use Rattle.icode.specs.Machine.{with_words}
use Rattle.icode.proofs.lanes.write_lanes.Given as goal

abbrev pub invariant-loop-lane : goal.invariant-loop-lane
invariant-loop-lane l = l.words ≡ with_words l.fn.words l.at (take l.lane l.values)
