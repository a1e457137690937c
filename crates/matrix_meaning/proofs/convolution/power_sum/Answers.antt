use Rattle.matrix_meaning.proofs.GeometricSums.{power_sum_by_powers}
use Rattle.matrix_meaning.proofs.convolution.power_sum.Goals as goal

pub returns : goal.returns
returns c = power_sum_by_powers c.args.modulus.now c.args.n c.args.w c.args.k c.pow.result c.geometric_sum.result.0 c.pow.ensures.value c.geometric_sum.ensures.sum
