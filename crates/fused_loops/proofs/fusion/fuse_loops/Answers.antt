use Rattle.std.proofs.Common.{ap, ◌∙◌}
use Rattle.icode.specs.Limits.{are_phases_within}
use Rattle.icode.specs.Plain.{plain_phases}
use Rattle.fused_loops.proofs.Programs.{fused-within}
use Rattle.fused_loops.proofs.fusion.fuse_loops.Goals as goal

pub invariant_of-result : goal.invariant_of-result
invariant_of-result c =
    let p = c.args.program in
    record {
      header = p.header;
      constants = p.constants;
      statements = ap (are_phases_within p.modulus) c.in_ok-phases.ensures ∙ fused-within p.modulus p.lanes (plain_phases p.phases.items) p.statements;
    }
