use Rattle.std.proofs.Common.{◌∙◌, ap}
use Rattle.icode.specs.Limits.{are_phases_within}
use Rattle.icode.specs.Plain.{plain_phases}
use Rattle.interchange.proofs.Limited.{phases-within, phases-shallow}
use Rattle.interchange.proofs.programs.interchange.Goals as goal

pub interchange_all-phases-requires : goal.interchange_all-phases-requires
interchange_all-phases-requires c = phases-shallow c.args.program.modulus (plain_phases c.args.program.phases.items) c.args.program.statements

pub invariant_of-result : goal.invariant_of-result
invariant_of-result c = record {
  header = c.args.program.header;
  constants = c.args.program.constants;
  statements = ap (are_phases_within c.args.program.modulus) c.interchange_all-phases.ensures ∙ phases-within c.args.program.modulus c.args.program.lanes (plain_phases c.args.program.phases.items) c.args.program.statements;
}
