use Rattle.std.proofs.Common.{◌<◌, ap, sym, ◌∙◌, arith, length}
use Rattle.std.proofs.lemmas.List.{take_all, take_more_set}
use Rattle.schedules.specs.Turns.{next_state}
use Rattle.commands.specs.Sample.{sample_vector}
use Rattle.commands.proofs.SampleLemmas.{state_more, sample_more}
use Rattle.commands.proofs.sample.fill.Goals as goal

pub loop-place-preserved : goal.loop-place-preserved
loop-place-preserved c =
    let before = c.loop-place in
    let here : before.place < length before.vector = omega arith in
    record {
      state = c.next_state-state.ensures ∙ ap next_state before.invariant.state ∙ sym (state_more before.place c.args.seed);
      words = take_more_set before.vector before.place c.reduce.result here
          ∙ sample_more c.args.modulus c.args.seed before.place before.state c.next_state-state.result c.reduce.result _ before.invariant.words before.invariant.state c.next_state-state.ensures c.reduce.ensures.value;
    }

pub returns : goal.returns
returns c =
    let last = c.loop-place in
    sym (take_all last.place last.vector (omega arith)) ∙ last.invariant.words ∙ ap (λ n. sample_vector c.args.modulus n c.args.seed) (omega arith)
