use Rattle.std.proofs.Common.{◌≡◌, [], Ok, Err, false, refl, ap, subst, arith, length}
use Rattle.io_edge.specs.Feed.{to_come}
use Rattle.data_stream.specs.Vectors.{Cut}
use Rattle.runs.specs.Progress.{ReadsData}
use Rattle.runs.specs.StreamFault.{stream_fault}
use Rattle.runs.specs.declared.stream.StreamFault.TheVariants.{Truncated}
use Rattle.runs.proofs.ProgressLemmas.{come_none, come_push, come_end, come_fault, fault_reads}
use Rattle.runs.proofs.first.read_first.Goals as goal

pub returns-in-Ok-Vector-clause-come : goal.returns-in-Ok-Vector-clause-come
returns-in-Ok-Vector-clause-come g c =
    let start = to_come c.args.feed.now (g.I.Source.told c.args.input.now) in
    let reached = to_come c.next.new.feed (g.I.Source.told c.next.new.source) in
    let cut = c.args.vectors.now in
    let size : cut.size ≡ length c.args.vector.now = ap (λ (v : Cut). v.size) c.requires.new in
    let answer = rw c.in-Ok-Vector.field-0-is at c.in-Ok-Vector.ensures.answer in
    come_push c.args.modulus.now cut c.next.new.self c.args.feed.now c.args.feed.now c.next.new.feed start start reached [] answer.0 c.next.new.vector
    (omega (arith, c.requires.some, size)) c.next.ensures.size (rw c.in-Ok-Vector.field-0-is at c.in-Ok-Vector.ensures.done refl) (c.in-Ok-Vector.ensures.within (λ e. cc))
    answer.1 (λ e. (answer.2 e, (c.next.ensures.once e).1)) answer.3 (come_none c.args.modulus.now (length c.args.vector.now) cut c.args.feed.now start c.requires.new)

pub returns-in-Ok-End-clause-none : goal.returns-in-Ok-End-clause-none
returns-in-Ok-End-clause-none g c =
    let start = to_come c.args.feed.now (g.I.Source.told c.args.input.now) in
    let reached = to_come c.next.new.feed (g.I.Source.told c.next.new.source) in
    let cut = c.args.vectors.now in
    let size : cut.size ≡ length c.args.vector.now = ap (λ (v : Cut). v.size) c.requires.new in
    let answer = rw c.in-Ok-End.field-0-is at c.in-Ok-End.ensures.answer in
    let reads = come_end c.args.modulus.now cut c.next.new.self.ended c.args.feed.now c.args.feed.now c.next.new.feed start start reached [] answer.0 c.next.new.vector
    (omega (arith, c.requires.some, size)) (c.in-Ok-End.ensures.within (λ e. cc)) answer.1 (λ e. (answer.2 e, (c.next.ensures.once e).1)) answer.3 c.next.ensures.end
    (come_none c.args.modulus.now (length c.args.vector.now) cut c.args.feed.now start c.requires.new) in (
      Ok tt,
      (λ e. cc),
      subst (λ n. ReadsData n c.args.modulus.now c.args.feed.now c.next.new.feed start reached [] (Ok tt)) size reads,
      ap (Truncated 0) c.next.auto.vector,
    )

pub returns-in-Err-clause-none : goal.returns-in-Err-clause-none
returns-in-Err-clause-none g c =
    let start = to_come c.args.feed.now (g.I.Source.told c.args.input.now) in
    let reached = to_come c.next.new.feed (g.I.Source.told c.next.new.source) in
    let cut = c.args.vectors.now in
    let fault = c.in-Err.fault in
    let size : cut.size ≡ length c.args.vector.now = ap (λ (v : Cut). v.size) c.requires.new in
    let going : cut.ended ≡ false = ap (λ (v : Cut). v.ended) c.requires.new in
    let answer = c.in-Err.ensures.answer in
    let reads = come_fault c.args.modulus.now cut c.next.new.self.ended c.args.feed.now c.args.feed.now c.next.new.feed start start reached [] answer.0 c.next.new.vector fault
    (omega (arith, c.requires.some, size)) c.in-Err.ensures.within answer.1 going answer.3 c.next.ensures.end
    (come_none c.args.modulus.now (length c.args.vector.now) cut c.args.feed.now start c.requires.new) in (
      Err (stream_fault fault),
      fault_reads fault,
      subst (λ n. ReadsData n c.args.modulus.now c.args.feed.now c.next.new.feed start reached [] (Err (stream_fault fault))) size reads,
      c.from.ensures,
    )
