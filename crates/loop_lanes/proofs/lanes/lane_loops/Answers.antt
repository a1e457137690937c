use Rattle.std.proofs.Common.{◌≡◌, ◌*◌, ◌^◌, ◌<◌, List, Some, map, sym, ap, ◌∙◌, arith}
use Rattle.std.specs.List.{list_all}
use Rattle.icode.specs.Limits.{are_phases_within}
use Rattle.icode.specs.Plain.{PlainBody, plain_phases}
use Rattle.loop_lanes.specs.Lanes.{are_lanable, laned_body}
use Rattle.loop_lanes.specs.Views.{phases_if, phases_made}
use Rattle.loop_lanes.proofs.Choices.{made_if}
use Rattle.loop_lanes.proofs.Limited.{header-within, phases-within}
use Rattle.loop_lanes.proofs.lanes.lane_loops.Goals as goal

pub invariant_of-result : goal.invariant_of-result
invariant_of-result c =
    let p = c.args.program in
    let v = c.args.lanes in
    let old : List PlainBody = plain_phases p.phases.items in
    let few : 3 * p.regs < 2 ^ 20 = omega (arith, c.if-program.false) in
    let made : Some (plain_phases c.in-Some.phases.items) ≡ phases_if v p.regs old =
    ap phases_made (sym c.in-Some.is) ∙ c.in_ok-phases.ensures
    ∙ ap (λ phases. phases_if v p.regs (plain_phases phases)) c.deref.ensures.value in
    let parts = made_if (list_all (are_lanable v) old) (map (laned_body v p.regs) old) (plain_phases c.in-Some.phases.items) made in
    record {
      header = header-within p.size p.modulus p.procs p.line p.lanes p.regs v c.requires few p.header;
      constants = p.constants;
      statements = ap (are_phases_within p.modulus) parts.1 ∙ phases-within p.modulus v p.regs old c.requires few parts.0 p.statements;
    }
