use Rattle.std.proofs.Common.{◌≡◌, ◌+◌, take, map}
use Rattle.icode.specs.Plain.{plain_stmt}
use Rattle.coalesced_loops.specs.Coalesced.{coalesced_stmt}
use Rattle.coalesced_loops.proofs.coalescing.+coalesced_stmt.Given as goal

abbrev pub decreases-coalesced_stmt : goal.decreases-coalesced_stmt
decreases-coalesced_stmt l = goal.size-coalesced_stmt l

abbrev pub invariant-loop-inner : goal.invariant-loop-inner
invariant-loop-inner l =
    map plain_stmt l.inside.items ≡ map (coalesced_stmt (l.depth + 1)) (map plain_stmt (take l.inner-index l.inner-items))
