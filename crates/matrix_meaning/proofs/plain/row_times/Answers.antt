use Rattle.std.proofs.Common.{◌*◌, ap, rules, slice_index}
use Rattle.matrix_meaning.specs.Dimensions.{entry_in}
use Rattle.operators.proofs.Sums.{product_sum_more}
use Rattle.matrix_meaning.proofs.plain.row_times.Goals as goal

pub loop-l-preserved : goal.loop-l-preserved
loop-l-preserved c = (
  product_sum_more c.args.m c.unwrap-modulus.result c.loop-l.l c.loop-l.sum c.entry.result (slice_index c.args.x.now c.loop-l.l) c.mul-term.result c.add-sum.result
      (λ j. entry_in c.args.kind c.args.m c.args.sizes.now c.args.roots.now c.args.k j * slice_index c.args.x.now j)
      (search rules)
      c.loop-l.invariant.0
      c.mul-term.ensures.value
      (ap (λ e. e * slice_index c.args.x.now c.loop-l.l) c.entry.ensures.value)
      c.add-sum.ensures.value,
  search rules,
)
