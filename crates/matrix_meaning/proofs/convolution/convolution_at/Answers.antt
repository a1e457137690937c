use Rattle.std.proofs.Common.{◌*◌, rules, slice_index, length, refl}
use Rattle.ring_mod.specs.Residue.{difference_mod}
use Rattle.operators.proofs.Sums.{product_sum_more}
use Rattle.matrix_meaning.proofs.convolution.convolution_at.Goals as goal

pub loop-l-preserved : goal.loop-l-preserved
loop-l-preserved c = (
  product_sum_more c.args.modulus.now c.args.modulus.now c.loop-l.l c.loop-l.sum (slice_index c.args.h.now c.loop-l.l) (slice_index c.args.x.now (difference_mod (length c.args.x.now) c.args.k c.loop-l.l)) c.mul-term.result c.add-sum.result
      (λ j. slice_index c.args.h.now j * slice_index c.args.x.now (difference_mod (length c.args.x.now) c.args.k j))
      refl
      c.loop-l.invariant.0
      c.mul-term.ensures.value
      refl
      c.add-sum.ensures.value,
  search rules,
)
