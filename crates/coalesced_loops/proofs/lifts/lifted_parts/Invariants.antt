use Rattle.std.proofs.Common.{◌≡◌, take, map, flat_map}
use Rattle.icode.specs.Plain.{plain_part}
use Rattle.coalesced_loops.specs.Views.{lifted_part}
use Rattle.coalesced_loops.proofs.lifts.lifted_parts.Given as goal

abbrev pub invariant-loop-part : goal.invariant-loop-part
invariant-loop-part l =
    map plain_part l.made.items ≡ flat_map (lifted_part l.depth) (map plain_part (take l.part-index l.parts))
