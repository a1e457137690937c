use Rattle.std.proofs.Common.{◌≡◌}
use Rattle.icode.specs.Plain.{plain_body}
use Rattle.fused_loops.specs.Fused.{fused_onto, fused_phase}
use Rattle.fused_loops.proofs.fusion.fuse_phase.Given as goal

abbrev pub invariant-loop-stmt : goal.invariant-loop-stmt
invariant-loop-stmt l =
    fused_onto l.lanes l.wait l.before.items (plain_body l.made.items) (plain_body l.stmt-iterator.rest.items) ≡ fused_phase l.lanes (plain_body l.fn.body.items)
