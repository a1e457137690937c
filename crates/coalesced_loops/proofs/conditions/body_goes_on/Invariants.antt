use Rattle.std.proofs.Common.{◌≡◌, drop}
use Rattle.icode.specs.Plain.{plain_body}
use Rattle.coalesced_loops.specs.Coalesced.{body_goes_on}
use Rattle.coalesced_loops.proofs.conditions.body_goes_on.Given as goal

abbrev pub invariant-loop-stmt : goal.invariant-loop-stmt
invariant-loop-stmt l =
    body_goes_on l.depth l.inner (plain_body (drop l.stmt-index l.body))
    ≡ body_goes_on l.depth l.inner (plain_body l.body)
