use Rattle.std.proofs.Common.{◌≡◌, ◌<◌, ◌++◌, ◌∷◌, [], Ok, Err, false, refl, sym, ap, subst, ◌∙◌, arith, append-nil}
use Rattle.std.proofs.Common.{append_assoc}
use Rattle.std.proofs.lemmas.Result.{err_from_is_err_and}
use Rattle.std.proofs.KnownBytes.{Appends-nil}
use Rattle.icode.specs.Machine.{Code}
use Rattle.buffer_machine.specs.Listed.{events_of}
use Rattle.io_edge.specs.Feed.{to_come}
use Rattle.data_stream.specs.Reading.{GivesVector}
use Rattle.data_stream.proofs.TokenLemmas.{not_true}
use Rattle.data_stream.proofs.TokensLemmas.{reports_none}
use Rattle.data_stream.proofs.VectorLemmas.{vector_counted}
use Rattle.runs.specs.Progress.{HasCome, ReadsData}
use Rattle.runs.specs.Texts.{text_at}
use Rattle.runs.specs.Walks.{ended}
use Rattle.runs.specs.StreamFault.{stream_fault}
use Rattle.runs.specs.declared.stream.StreamFault.TheVariants.{WriteFault}
use Rattle.runs.proofs.ProgressLemmas.{come_push, come_end, come_fault, come_unwritten}
use Rattle.runs.proofs.StreamLemmas.{state_behind-push, texts_more, texts_cut, writes_fault}
use Rattle.runs.proofs.stream.stream.Goals as goal

pub loop-machine-init : goal.loop-machine-init
loop-machine-init g c = record {
  later = [];
  come = λ old before seen h. subst (λ l. HasCome (g.E.Engine.code c.args.machine.now).modulus c.args.vectors.now old c.args.feed.now before (to_come c.args.feed.now (g.I.Source.told c.args.input.now)) l) (sym (append-nil seen)) h;
  wrote = Appends-nil (g.O.Sink.taken c.args.output.now);
  stands = refl;
  ready = c.requires.ready;
  size = refl;
  code = refl;
  reads = refl;
  writes = refl;
}

pub loop-machine-smaller : goal.loop-machine-smaller
loop-machine-smaller g c =
    let before = c.loop-machine in
    let answer = rw c.in-Vector.is at c.in_ok-next.ensures.answer in
    let rises = vector_counted before.feed c.next.new.feed c.next.new.self.ended before.vectors.size c.ring-modulus.result before.vectors.done answer.0 c.next.new.vector answer.3 in
    omega (arith, rises, c.in_ok-next.ensures.within (λ e. cc), c.requires.some, before.invariant.size)

pub loop-machine-preserved : goal.loop-machine-preserved
loop-machine-preserved g c =
    let before = c.loop-machine in
    let inv = before.invariant in
    let code = g.E.Engine.code c.args.machine.now in
    let events = events_of c.args.events code.procs in
    let taken = g.O.Sink.taken in
    let x = c.next.new.vector in
    let some : 0 < before.vectors.size = omega (arith, c.requires.some, inv.size) in
    let reached = to_come c.next.new.feed (g.I.Source.told c.next.new.source) in
    let answer = rw (c.in-Vector.is, c.ring-modulus.ensures) at c.in_ok-next.ensures.answer in
    record {
      later = inv.later ++ x ∷ [];
      come = λ old start seen h. subst (λ l. HasCome code.modulus c.next.new.self old c.next.new.feed start reached l) (append_assoc seen inv.later (x ∷ []))
          (come_push code.modulus before.vectors c.next.new.self old before.feed c.next.new.feed start (to_come before.feed (g.I.Source.told before.input)) reached (seen ++ inv.later) answer.0 x
          some c.next.ensures.size (rw c.in-Vector.is at c.in_ok-next.ensures.done refl) (c.in_ok-next.ensures.within (λ e. cc)) answer.1 (λ e. (answer.2 e, (c.next.ensures.once e).1)) answer.3
          (inv.come old start seen h));
      wrote = texts_more (λ y. text_at c.args.lines code (g.E.Engine.begun code y) events) (taken c.args.output.now) (taken before.output) (taken c.write_run.new.output) inv.later x
          (text_at c.args.lines (g.E.Engine.code before.machine) (g.E.Engine.begun (g.E.Engine.code before.machine) x) (events_of c.args.events (g.E.Engine.code before.machine).procs))
          (ap (λ (k : Code). text_at c.args.lines k (g.E.Engine.begun k x) (events_of c.args.events k.procs)) inv.code) inv.wrote c.in_ok-write_run.ensures.bytes;
      stands = c.in_ok-write_run.ensures.stands ∙ ap (λ (k : Code). ended k (g.E.Engine.begun k x) (events_of c.args.events k.procs)) inv.code ∙ sym (state_behind-push (λ y. ended code (g.E.Engine.begun code y) events) (g.E.Engine.stands c.args.machine.now) inv.later x);
      ready = rw c.in-Vector.is at c.in_ok-next.ensures.ready refl;
      size = c.next.ensures.size ∙ inv.size;
      code = c.write_run.ensures.code ∙ inv.code;
      reads = reports_none _ _ _ c.in_ok-next.ensures.cause (λ e. cc) ∙ inv.reads;
      writes = c.in_ok-write_run.ensures.cause.ok ∙ inv.writes;
    }

pub returns-in_err-next-clause-streams : goal.returns-in_err-next-clause-streams
returns-in_err-next-clause-streams g c =
    let before = c.loop-machine in
    let inv = before.invariant in
    let code = g.E.Engine.code c.args.machine.now in
    let fault = c.in_err-next.field-0.0 in
    let x = c.next.new.vector in
    let some : 0 < before.vectors.size = omega (arith, c.requires.some, inv.size) in
    let reached = to_come c.next.new.feed (g.I.Source.told c.next.new.source) in
    let answer = c.in_err-next.ensures.answer in
    let given = subst (λ m. GivesVector before.vectors.size m before.vectors.done before.feed c.next.new.feed answer.0 c.next.new.self.ended x (Err fault)) c.ring-modulus.ensures answer.3 in
    let going : before.vectors.ended ≡ false = not_true before.vectors.ended (λ e. let other = (c.next.ensures.once e).0 in cc c.in_err-next.was) in
    let p = err_from_is_err_and c.from_residual.result c.from_residual.ensures.1 in
    rw (p.1, p.2) (λ old start seen h. record {
      later = inv.later;
      reads = subst (λ n. ReadsData n code.modulus old c.next.new.feed start reached (seen ++ inv.later) (Err (stream_fault fault))) inv.size
          (come_fault code.modulus before.vectors c.next.new.self.ended old before.feed c.next.new.feed start (to_come before.feed (g.I.Source.told before.input)) reached (seen ++ inv.later) answer.0 x fault
          some c.in_err-next.ensures.within answer.1 going given c.next.ensures.end (inv.come old start seen h));
      wrote = writes_fault fault _ _ _ _ inv.wrote;
      stands = λ _. inv.stands;
    })

pub returns-in_err-write_run-clause-streams : goal.returns-in_err-write_run-clause-streams
returns-in_err-write_run-clause-streams g c =
    let before = c.loop-machine in
    let inv = before.invariant in
    let code = g.E.Engine.code c.args.machine.now in
    let events = events_of c.args.events code.procs in
    let taken = g.O.Sink.taken in
    let x = c.next.new.vector in
    let some : 0 < before.vectors.size = omega (arith, c.requires.some, inv.size) in
    let reached = to_come c.next.new.feed (g.I.Source.told c.next.new.source) in
    let answer = rw (c.in-Vector.is, c.ring-modulus.ensures) at c.in_ok-next.ensures.answer in
    let within = c.in_ok-next.ensures.within (λ e. cc) in
    let p = err_from_is_err_and c.from_residual-in_err-write_run.result c.from_residual-in_err-write_run.ensures.1 in
    rw (p.1, p.2) (λ old start seen h. record {
      later = inv.later ++ x ∷ [];
      reads = subst (λ n. ReadsData n code.modulus old c.next.new.feed start reached (seen ++ (inv.later ++ x ∷ [])) (Err WriteFault)) (c.next.ensures.size ∙ inv.size)
          (come_unwritten code.modulus c.next.new.self old c.next.new.feed start reached (seen ++ (inv.later ++ x ∷ [])) (omega (arith, some, c.next.ensures.size)) within c.next.ensures.end
          (subst (λ l. HasCome code.modulus c.next.new.self old c.next.new.feed start reached l) (append_assoc seen inv.later (x ∷ []))
          (come_push code.modulus before.vectors c.next.new.self old before.feed c.next.new.feed start (to_come before.feed (g.I.Source.told before.input)) reached (seen ++ inv.later) answer.0 x
          some c.next.ensures.size (rw c.in-Vector.is at c.in_ok-next.ensures.done refl) within answer.1 (λ e. (answer.2 e, (c.next.ensures.once e).1)) answer.3
          (inv.come old start seen h))));
      wrote = texts_cut (λ y. text_at c.args.lines code (g.E.Engine.begun code y) events) (taken c.args.output.now) (taken before.output) (taken c.write_run.new.output) inv.later x
          (text_at c.args.lines (g.E.Engine.code before.machine) (g.E.Engine.begun (g.E.Engine.code before.machine) x) (events_of c.args.events (g.E.Engine.code before.machine).procs))
          (ap (λ (k : Code). text_at c.args.lines k (g.E.Engine.begun k x) (events_of c.args.events k.procs)) inv.code) inv.wrote c.in_err-write_run.ensures.bytes;
      stands = λ other. absurd (other refl);
    })

pub returns-clause-streams : goal.returns-clause-streams
returns-clause-streams g c =
    let before = c.loop-machine in
    let inv = before.invariant in
    let code = g.E.Engine.code c.args.machine.now in
    let some : 0 < before.vectors.size = omega (arith, c.requires.some, inv.size) in
    let reached = to_come c.next.new.feed (g.I.Source.told c.next.new.source) in
    let answer = rw c.in_default.is at c.in_ok-next.ensures.answer in
    λ old start seen h. record {
      later = inv.later;
      reads = subst (λ n. ReadsData n code.modulus old c.next.new.feed start reached (seen ++ inv.later) (Ok tt)) inv.size
          (come_end code.modulus before.vectors c.next.new.self.ended old before.feed c.next.new.feed start (to_come before.feed (g.I.Source.told before.input)) reached (seen ++ inv.later) answer.0 c.next.new.vector
          some (c.in_ok-next.ensures.within (λ e. cc)) answer.1 (λ e. (answer.2 e, (c.next.ensures.once e).1)) answer.3 c.next.ensures.end (inv.come old start seen h));
      wrote = inv.wrote;
      stands = λ _. inv.stands;
    }
