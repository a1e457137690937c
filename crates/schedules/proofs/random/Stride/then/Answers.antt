use Rattle.std.proofs.Common.{◌^◌}
use Rattle.schedules.proofs.Strides.{composed_maps}
use Rattle.schedules.proofs.random.Stride.then.Goals as goal

pub returns : goal.returns
returns c = λ v. composed_maps (2 ^ 64) c.args.self.multiplier c.args.self.increment c.args.next.multiplier c.args.next.increment v
