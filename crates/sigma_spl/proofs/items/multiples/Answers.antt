use Rattle.std.proofs.Common.{◌*◌}
use Rattle.sigma_spl.proofs.Numbered.{one-more}
use Rattle.sigma_spl.proofs.items.multiples.Goals as goal

pub loop-k-preserved : goal.loop-k-preserved
loop-k-preserved c = one-more (λ i. i * c.args.lanes) c.loop-k.items.items c.push.new.self.items c.loop-k.k c.in_ok-push.ensures.items c.loop-k.invariant
