use Rattle.std.proofs.Common.{◌+◌, ◌*◌, ◌%◌, ap, refl, ◌∙◌, arith, slice_index}
use Rattle.operators.specs.Sum.{sum_below}
use Rattle.commands.proofs.SampleLemmas.{weight_more}
use Rattle.commands.proofs.sample.weighted_sum.Goals as goal

pub loop-place-preserved : goal.loop-place-preserved
loop-place-preserved c =
    let before = c.loop-place in
    record {
      sum = weight_more c.args.modulus before.place before.sum c.reduce-weight.result (slice_index c.args.vector.now before.place) c.reduce.result c.mul-term.result c.add-sum.result c.args.vector.now
          before.invariant.sum c.reduce-weight.ensures.value refl c.reduce.ensures.value c.mul-term.ensures.value c.add-sum.ensures.value;
      small = c.add-sum.ensures.residue;
    }

pub returns : goal.returns
returns c =
    let last = c.loop-place in
    last.invariant.sum ∙ ap (λ n. sum_below n (λ k. (k + 1) * slice_index c.args.vector.now k) % c.args.modulus) (omega arith)
