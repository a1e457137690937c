use Rattle.icode.specs.Program.{plain_program}
use Rattle.fast_main.proofs.Laned.{several_coalesced}
use Rattle.fast_main.proofs.prepare.put_on_several.Goals as goal

pub returns : goal.returns
returns c =
    several_coalesced c.args.lanes (plain_program c.args.program) (plain_program c.in_ok-there.there)
    (plain_program c.in_ok-made.made) c.in_ok-there.ensures.made c.if-there-lanes.false c.in_ok-made.ensures
