use Rattle.std.proofs.Common.{◌≡◌, refl, sym, ap, subst, ◌∙◌, arith, true}
use Rattle.std.proofs.lemmas.Result.{err_from_is_err_and}
use Rattle.io_edge.specs.Feed.{to_come}
use Rattle.data_stream.proofs.TokensLemmas.{Progress, no_progress, no_progress_bytes, progress_push, progress_skip}
use Rattle.data_stream.proofs.TokensLemmas.{progress_ended, progress_end, progress_none, progress_bad, progress_faulted}
use Rattle.data_stream.proofs.TokensLemmas.{reports_none, not_ended}
use Rattle.data_stream.specs.Vectors.{Cut}
use Rattle.data_stream.proofs.vectors.Vectors.number.Goals as goal

pub loop-byte-init : goal.loop-byte-init
loop-byte-init g c = record {
  progress = no_progress _ c.args.feed.now.taken c.new-token.result.count c.new-token.result.value c.new-token.ensures;
  faults = refl;
  fresh = λ _. no_progress_bytes _ c.args.feed.now.taken c.new-token.result.count c.new-token.result.value c.new-token.ensures;
}

pub returns-in_err-byte-clause-answer : goal.returns-in_err-byte-clause-answer
returns-in_err-byte-clause-answer g c =
    let p = err_from_is_err_and c.from_residual.result c.from_residual.ensures.1 in
    let r = progress_faulted _ _ _ c.args.feed.now c.loop-byte.feed c.byte.new.self c.loop-byte.token.count c.loop-byte.token.value c.args.self.now.ended c.in_err-byte.field-0.0 c.loop-byte.invariant.progress c.loop-byte.invariant.fresh c.in_err-byte.ensures.answer in
    rw (p.1, p.2) (r.0, r.1, λ e. absurd (not_ended _ c.if-self.false (ap (λ (v : Cut). v.ended) c.self.view_is ∙ e)), r.2)

pub returns-then-token-gt0-clause-answer : goal.returns-then-token-gt0-clause-answer
returns-then-token-gt0-clause-answer g c =
    let given = rw c.in-Some.is at c.in_ok-byte.ensures.answer in
    let r = progress_ended _ _ _ c.args.feed.now c.byte.new.self c.loop-byte.feed.taken c.loop-byte.token.count c.loop-byte.token.value c.in-Some.byte c.args.self.now.ended c.loop-byte.invariant.progress
    given.0 given.2 (sym c.is_between.ensures ∙ c.if-is_between.true) c.if-token-gt0.true in
    (r.0, r.1, λ e. absurd (not_ended _ c.if-self.false (ap (λ (v : Cut). v.ended) c.self.view_is ∙ e)), r.2)

pub loop-byte-preserved-else-token-gt0 : goal.loop-byte-preserved-else-token-gt0
loop-byte-preserved-else-token-gt0 g c =
    let given = rw c.in-Some.is at c.in_ok-byte.ensures.answer in
    let none : c.loop-byte.token.count ≡ 0 = omega arith in
    let before = c.loop-byte.feed in
    let start = to_come c.args.feed.now (g.S.Source.told c.args.source.now) in
    let reached = to_come before (g.S.Source.told c.loop-byte.source) in
    let p = subst (λ n. Progress start reached c.args.feed.now.taken before.taken n c.loop-byte.token.value) none c.loop-byte.invariant.progress in
    record {
      progress = rw (given.2, none) (progress_skip start reached _ c.args.feed.now.taken before.taken c.loop-byte.token.value c.in-Some.byte p given.0 (sym c.is_between.ensures ∙ c.if-is_between.true));
      faults = reports_none _ _ _ c.in_ok-byte.ensures.cause (λ e. cc) ∙ c.loop-byte.invariant.faults;
      fresh = λ over. absurd (omega (arith, over, given.1, given.2));
    }

pub returns-then-not-push-clause-answer : goal.returns-then-not-push-clause-answer
returns-then-not-push-clause-answer g c =
    let given = rw c.in-Some.is at c.in_ok-byte.ensures.answer in
    let p = c.loop-byte.invariant.progress in
    let r = progress_bad _ _ _ c.args.feed.now c.byte.new.self c.loop-byte.feed.taken c.loop-byte.token.count c.loop-byte.token.value c.in-Some.byte c.args.self.now.ended p
    given.0 given.2 (sym c.is_between.ensures ∙ c.if-is_between.false) (c.if-not-push.ensures.bad p.run p.digits refl) in
    (r.0, r.1, λ e. absurd (not_ended _ c.if-self.false (ap (λ (v : Cut). v.ended) c.self.view_is ∙ e)), r.2)

pub loop-byte-preserved : goal.loop-byte-preserved
loop-byte-preserved g c =
    let given = rw c.in-Some.is at c.in_ok-byte.ensures.answer in
    let p = c.loop-byte.invariant.progress in
    record {
      progress = rw given.2 (progress_push _ _ _ c.args.feed.now.taken c.loop-byte.feed.taken c.loop-byte.token.count c.loop-byte.token.value c.push.new.self.count c.push.new.self.value c.in-Some.byte p
          given.0 (sym c.is_between.ensures ∙ c.if-is_between.false) (c.if-not-push.ensures.good p.run p.digits refl));
      faults = reports_none _ _ _ c.in_ok-byte.ensures.cause (λ e. cc) ∙ c.loop-byte.invariant.faults;
      fresh = λ over. absurd (omega (arith, over, given.1, given.2));
    }

pub returns-clause-answer : goal.returns-clause-answer
returns-clause-answer g c =
    let given = rw c.in_default.is at c.in_ok-byte.ensures.answer in
    let r = progress_end _ _ _ c.args.feed.now c.byte.new.self c.loop-byte.feed.taken c.loop-byte.token.count c.loop-byte.token.value true c.loop-byte.invariant.progress
    given.0 refl given.3 (omega arith) in
    (r.0, r.1, λ e. absurd (not_ended _ c.if-self.false (ap (λ (v : Cut). v.ended) c.self.view_is ∙ e)), r.2)

pub returns-then-token-eq0-clause-answer : goal.returns-then-token-eq0-clause-answer
returns-then-token-eq0-clause-answer g c =
    let given = rw c.in_default.is at c.in_ok-byte.ensures.answer in
    let none : c.loop-byte.token.count ≡ 0 = omega arith in
    let before = c.loop-byte.feed in
    let start = to_come c.args.feed.now (g.S.Source.told c.args.source.now) in
    let reached = to_come before (g.S.Source.told c.loop-byte.source) in
    let p = subst (λ n. Progress start reached c.args.feed.now.taken before.taken n c.loop-byte.token.value) none c.loop-byte.invariant.progress in
    let r = progress_none start reached _ c.args.feed.now c.byte.new.self before.taken c.loop-byte.token.value true p given.0 refl given.3 in
    (r.0, r.1, λ e. absurd (not_ended _ c.if-self.false (ap (λ (v : Cut). v.ended) c.self.view_is ∙ e)), r.2)
