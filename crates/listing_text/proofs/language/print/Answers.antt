use Rattle.icode.specs.Plain.{plain_phases}
use Rattle.listing_text.proofs.Depths.{phases_nest}
use Rattle.listing_text.proofs.language.print.Goals as goal

pub put_phases-requires : goal.put_phases-requires
put_phases-requires g c =
    rw c.deref-2.ensures.value (phases_nest c.args.program.now.modulus (plain_phases c.args.program.now.phases.items) c.args.program.now.statements)
