use Rattle.std.proofs.Common.{◌≡◌, take, map}
use Rattle.icode.specs.Plain.{plain_phases}
use Rattle.coalesced_loops.specs.Coalesced.{coalesced_body}
use Rattle.coalesced_loops.proofs.coalescing.coalesced_phases.Given as goal

abbrev pub invariant-loop-body : goal.invariant-loop-body
invariant-loop-body l = plain_phases l.made.items ≡ map (coalesced_body 0) (plain_phases (take l.body-index l.phases))
