use Rattle.double_code.proofs.Leaving.{same_from}
use Rattle.double_code.proofs.doubles.make_double.Goals as goal

pub returns-clause-same : goal.returns-clause-same
returns-clause-same c =
    same_from c.in_ok-doubles.doubles c.args.program.now c.in_ok-doubles.ensures c.requires.below
