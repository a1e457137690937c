use Rattle.std.proofs.Common.{◌≡◌, ◌<◌, ◌+◌, ◌++◌, refl, sym, ap, subst, ◌∙◌, arith, take, length, false}
use Rattle.std.proofs.lemmas.List.{length-take-le, take_all, take_more_set}
use Rattle.std.specs.List.{All}
use Rattle.data_stream.specs.Vectors.{Cut}
use Rattle.data_stream.proofs.TokenLemmas.{not_true}
use Rattle.data_stream.proofs.TokensLemmas.{reports_none, not_ended}
use Rattle.data_stream.proofs.VectorLemmas.{residues_below, vector_counted, no_vector, no_vector_bytes, none_yet}
use Rattle.data_stream.proofs.VectorLemmas.{vector_push, vector_whole, vector_ending, vector_fault}
use Rattle.data_stream.proofs.vectors.Vectors.next.Goals as goal

pub loop-place-init : goal.loop-place-init
loop-place-init g c = record {
  progress = no_vector _ c.args.feed.now.taken c.args.self.now.ended c.args.modulus.now;
  end = c.requires.ready.end;
  fresh = λ e. (refl, e, no_vector_bytes _ c.args.feed.now.taken c.args.self.now.ended c.args.modulus.now);
  size = refl;
  done = refl;
  faults = refl;
  none = λ _. no_vector_bytes _ c.args.feed.now.taken c.args.self.now.ended c.args.modulus.now;
  within = λ h. absurd (omega arith);
  calm = c.requires.ready.within;
  positive = λ h. absurd (omega arith);
}

pub returns-in-Ok-None-clause-answer : goal.returns-in-Ok-None-clause-answer
returns-in-Ok-None-clause-answer g c =
    let answer = rw c.in-Ok-None.field-0-is at c.in-Ok-None.ensures.answer in
    let before = c.loop-place in
    let here : before.place < length before.vector = omega arith in
    let count = length-take-le before.place before.vector (omega arith) in
    let size : c.self.inside.size ≡ c.args.self.now.size = ap (λ (v : Cut). v.size) (c.self.view_is ∙ c.number.ensures.same) ∙ before.invariant.size in
    rw (c.ending.ensures, size) (vector_ending _ _ _ c.args.feed.now before.feed c.number.new.feed c.args.self.now.ended before.self.ended c.number.new.self.ended c.args.self.now.size c.args.modulus.now c.args.self.now.done
    (take before.place before.vector) answer.0 before.vector _ before.invariant.progress
    (λ e. let f = before.invariant.fresh e in ap (λ l. l ++ answer.0) f.2 ∙ (answer.2 f.1).0) answer.1 answer.2 answer.3 before.place count (omega (arith, c.requires.size)))

pub returns-in-Err-clause-answer : goal.returns-in-Err-clause-answer
returns-in-Err-clause-answer g c =
    let answer = c.in-Err.ensures.answer in
    let before = c.loop-place in
    let count = length-take-le before.place before.vector (omega arith) in
    let going : before.self.ended ≡ false = not_true before.self.ended (λ e. let other = (answer.2 e).2 in cc) in
    let done : c.self.inside.done ≡ c.args.self.now.done = ap (λ (v : Cut). v.done) (c.self.view_is ∙ c.number.ensures.same) ∙ before.invariant.done in
    let at : c.self.inside.done + before.place + 1 ≡ c.args.self.now.done + length (take before.place before.vector) + 1 = omega arith in
    rw (c.fault_at.ensures, at) (vector_fault _ _ _ c.args.feed.now before.feed c.number.new.feed c.args.self.now.ended before.self.ended c.number.new.self.ended c.args.self.now.size c.args.modulus.now c.args.self.now.done
    (take before.place before.vector) answer.0 before.vector c.in-Err.fault before.invariant.progress
    (λ e. absurd (not_ended before.self.ended going (before.invariant.fresh e).1)) (λ over. before.invariant.none (none_yet before.place before.feed.taken before.invariant.within over)) answer.1 going answer.3 (omega (arith, c.requires.size)))

pub loop-place-preserved : goal.loop-place-preserved
loop-place-preserved g c =
    let answer = rw c.in-Ok-Some.field-0-is at c.in-Ok-Some.ensures.answer in
    let before = c.loop-place in
    let here : before.place < length before.vector = omega arith in
    record {
      progress = rw (take_more_set before.vector before.place c.reduce.result here, c.reduce.ensures.value)
          (vector_push _ _ _ c.args.feed.now.taken before.feed c.number.new.feed before.self.ended c.number.new.self.ended c.args.modulus.now
          (take before.place before.vector) answer.0 c.in-Ok-Some.value _ before.invariant.progress answer.1 answer.2 answer.3);
      end = c.number.ensures.end;
      fresh = λ e. let other = (answer.2 (before.invariant.fresh e).1).2 in absurd (cc);
      size = ap (λ (v : Cut). v.size) c.number.ensures.same ∙ before.invariant.size;
      done = ap (λ (v : Cut). v.done) c.number.ensures.same ∙ before.invariant.done;
      faults = reports_none _ _ _ c.in-Ok-Some.ensures.cause (λ e. cc) ∙ before.invariant.faults;
      none = λ e. absurd (omega arith);
      within = λ _. c.in-Ok-Some.ensures.within (λ e. cc);
      calm = λ _. c.in-Ok-Some.ensures.within (λ e. cc);
      positive = λ _. omega (arith, c.reduce.ensures.residue);
    }

pub returns-clause-answer : goal.returns-clause-answer
returns-clause-answer g c =
    let last = c.loop-place in
    let all = take_all last.place last.vector (omega arith) in
    rw (ap (λ (v : Cut). v.ended) c.self-2.view_is) (vector_whole _ _ c.args.feed.now last.feed c.args.self.now.ended last.self.ended c.args.self.now.size c.args.modulus.now c.args.self.now.done (take last.place last.vector) last.vector last.invariant.progress
    all (omega (arith, c.requires.size)) (λ e. (last.invariant.fresh e).2))

pub returns-clause-ready : goal.returns-clause-ready
returns-clause-ready g c =
    λ _.
    let last = c.loop-place in
    let all = take_all last.place last.vector (omega arith) in
    let whole = vector_whole _ _ c.args.feed.now last.feed c.args.self.now.ended last.self.ended c.args.self.now.size c.args.modulus.now c.args.self.now.done (take last.place last.vector) last.vector last.invariant.progress
    all (omega (arith, c.requires.size)) (λ e. (last.invariant.fresh e).2) in
    let rises = vector_counted c.args.feed.now last.feed last.self.ended c.args.self.now.size c.args.modulus.now c.args.self.now.done whole.0 last.vector whole.3 in
    let done : c.self-2.inside.done ≡ c.args.self.now.done = ap (λ (v : Cut). v.done) c.self-2.view_is ∙ last.invariant.done in
    let size : c.self-2.inside.size ≡ c.args.self.now.size = ap (λ (v : Cut). v.size) c.self-2.view_is ∙ last.invariant.size in
    let low = last.invariant.within (omega (arith, size, c.requires.size, c.self-2.invariant)) in
    record {
      few = omega (arith, rises, done, c.requires.size, c.requires.ready.counted, low);
      counted = omega (arith, rises, done, c.requires.size, c.requires.ready.counted);
      within = λ e. last.invariant.calm (sym (ap (λ (v : Cut). v.ended) c.self-2.view_is) ∙ e);
      end = λ e. last.invariant.end (sym (ap (λ (v : Cut). v.ended) c.self-2.view_is) ∙ e);
    }

pub returns-clause-residues : goal.returns-clause-residues
returns-clause-residues g c =
    λ _.
    let last = c.loop-place in
    let all = take_all last.place last.vector (omega arith) in
    let whole = vector_whole _ _ c.args.feed.now last.feed c.args.self.now.ended last.self.ended c.args.self.now.size c.args.modulus.now c.args.self.now.done (take last.place last.vector) last.vector last.invariant.progress
    all (omega (arith, c.requires.size)) (λ e. (last.invariant.fresh e).2) in
    let size : c.self-2.inside.size ≡ c.args.self.now.size = ap (λ (v : Cut). v.size) c.self-2.view_is ∙ last.invariant.size in
    let some : 0 < last.place = omega (arith, size, c.requires.size, c.self-2.invariant) in
    subst (All (λ v. v < c.args.modulus.now)) (sym whole.3.1.4) (residues_below c.args.modulus.now whole.3.1.0 (last.invariant.positive some))
