use Rattle.std.proofs.Common.{◌≡◌, ◌<◌, ◌/◌, sym, ap, ◌∙◌, arith, length}
use Rattle.std.proofs.lemmas.List.{take_all, take_more_set}
use Rattle.icode.specs.Machine.{padded, words_at}
use Rattle.runs.specs.Standing.{memory_at}
use Rattle.runs.proofs.StreamLemmas.{word_more}
use Rattle.runs.proofs.stream.take_results.Goals as goal

pub loop-place-preserved : goal.loop-place-preserved
loop-place-preserved g c =
    let here : c.loop-place.place < length c.loop-place.vector = omega arith in
    record {
      words = take_more_set c.loop-place.vector c.loop-place.place c.word_at.result here
          ∙ word_more c.loop-place.place _ _ c.word_at.result _ c.loop-place.invariant.words c.word_at.ensures.value;
    }

pub word_at-requires : goal.word_at-requires
word_at-requires g c =
    record { inside = omega (arith, c.words-first.ensures.room.1, c.words-first.ensures.value, c.requires.size, c.loop-place-test.true) }

pub returns : goal.returns
returns g c =
    let code = g.E.Engine.code c.args.machine.now in
    let memory = memory_at (g.E.Engine.stands c.args.machine.now) in
    let last = c.loop-place in
    let first : c.words-first.result / 4 ≡ padded code = omega (arith, c.words-first.ensures.value) in
    let count : last.place ≡ code.size = omega (arith, c.requires.size) in
    sym (take_all last.place last.vector (omega arith)) ∙ last.invariant.words
    ∙ ap (λ n. words_at n memory (c.words-first.result / 4)) count
    ∙ ap (λ i. words_at code.size memory i) first
