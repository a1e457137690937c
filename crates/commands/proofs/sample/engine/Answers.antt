use Rattle.commands.proofs.Programs.{code_made}
use Rattle.std.proofs.Common.{sym, subst}
use Rattle.commands.specs.Programs.{IsCodeFor}
use Rattle.commands.proofs.sample.engine.Goals as goal

pub returns-clause-machine : goal.returns-clause-machine
returns-clause-machine c =
    subst (IsCodeFor c.args.request.now) (sym c.in_ok-machine.ensures.code) (code_made c.args.request.now c.in_ok-program.program c.in_ok-program.ensures.program)
