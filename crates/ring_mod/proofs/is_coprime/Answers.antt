use Rattle.ring_mod.proofs.Coprime.{one_tells}
use Rattle.ring_mod.proofs.is_coprime.Goals as goal

pub returns : goal.returns
returns c = one_tells c.args.a c.args.b c.gcd.result c.gcd.ensures
