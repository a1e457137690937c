use Rattle.std.proofs.Common.{◌≡◌, ◌+◌, drop}
use Rattle.std.specs.Prelude.{if◌then◌else◌}
use Rattle.icode.specs.Plain.{plain_body}
use Rattle.nests.specs.Nests.{are_nests}
use Rattle.fused_loops.specs.Fused.{waiting}
use Rattle.fused_loops.proofs.fusion.waiting.Given as goal

abbrev pub invariant-loop-index : goal.invariant-loop-index
invariant-loop-index l =
    let rest = plain_body (drop l.index l.body) in
    waiting l.lanes (plain_body l.body) ≡ (if are_nests l.lanes rest then l.count else l.index + waiting l.lanes rest)
