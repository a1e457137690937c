use Rattle.std.proofs.Common.{◌≡◌, ◌++◌, map, drop}
use Rattle.icode.specs.Plain.{plain_part}
use Rattle.loop_lanes.proofs.tiles.copied_parts.Given as goal

abbrev pub invariant-loop-part : goal.invariant-loop-part
invariant-loop-part l = map plain_part l.copies.items ++ map plain_part (drop l.part-index l.parts) ≡ map plain_part l.parts
