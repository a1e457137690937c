use Rattle.std.proofs.Common.{◌≡◌, take, map}
use Rattle.icode.specs.Plain.{plain_stmt}
use Rattle.coalesced_loops.specs.Coalesced.{coalesced_stmt}
use Rattle.coalesced_loops.proofs.coalescing.coalesced_body.Given as goal

abbrev pub invariant-loop-stmt : goal.invariant-loop-stmt
invariant-loop-stmt l = map plain_stmt l.made.items ≡ map (coalesced_stmt 0) (map plain_stmt (take l.stmt-index l.body))
