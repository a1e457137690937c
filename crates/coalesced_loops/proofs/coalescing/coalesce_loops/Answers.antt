use Rattle.std.proofs.Common.{ap, ◌∙◌}
use Rattle.icode.specs.Limits.{are_tables_within, are_phases_within}
use Rattle.icode.specs.Plain.{plain_tables, plain_phases}
use Rattle.coalesced_loops.proofs.Steps.{phases-within}
use Rattle.coalesced_loops.proofs.coalescing.coalesce_loops.Goals as goal

pub invariant_of-result : goal.invariant_of-result
invariant_of-result c =
    let p = c.args.program.now in
    record {
      header = p.header;
      constants =
          ap (are_tables_within p.modulus) (c.in_ok-tables.ensures ∙ ap plain_tables c.deref-2.ensures.value)
          ∙ p.constants;
      statements =
          ap (are_phases_within p.modulus) c.in_ok-phases.ensures
          ∙ (phases-within p.modulus (plain_phases c.deref.result.now)
          (ap (λ phases. are_phases_within p.modulus (plain_phases phases)) c.deref.ensures.value ∙ p.statements));
    }
