use Rattle.std.proofs.Common.{◌≡◌, [], ap, ◌∙◌, arith, length}
use Rattle.icode.specs.Buffers.{buffered_runs, buffered_start}
use Rattle.buffer_machine.specs.Listed.{events_of}
use Rattle.io_edge.specs.Feed.{to_come}
use Rattle.data_stream.specs.Vectors.{Cut}
use Rattle.runs.specs.Standing.{queued}
use Rattle.runs.specs.Texts.{buffered_text, text_at}
use Rattle.runs.specs.Walks.{ended}
use Rattle.runs.proofs.ProgressLemmas.{come_none, ready_none, streams_as, streams_new}
use Rattle.runs.proofs.TwoMachines.{buffered_at, ended_events, text_of_events}
use Rattle.runs.proofs.buffered.run_buffered.Goals as goal

pub stream-requires : goal.stream-requires
stream-requires g c =
    let start = to_come c.args.feed.now (g.I.Source.told c.args.input.now) in
    let size : c.new-vectors.result.size ≡ length c.args.vector.now = ap (λ (v : Cut). v.size) c.new-vectors.ensures in
    record {
      some = omega (arith, size, c.requires.some);
      cut = size ∙ c.requires.size;
      size = c.requires.size;
      no_stranger = c.requires.no_stranger;
      ready = ready_none c.args.feed.now start c.new-vectors.ensures;
    }

pub returns-clause-streams : goal.returns-clause-streams
returns-clause-streams g c =
    let start = to_come c.args.feed.now (g.I.Source.told c.args.input.now) in
    let code = c.args.machine.now.code in
    let events = events_of c.args.events code.procs in
    let taken = g.O.Sink.taken in
    let reached = to_come c.stream.new.feed (g.I.Source.told c.stream.new.input) in
    let size : c.new-vectors.result.size ≡ code.size = ap (λ (v : Cut). v.size) c.new-vectors.ensures ∙ c.requires.size in
    let all = c.stream.ensures.streams c.args.feed.now start [] (come_none code.modulus (length c.args.vector.now) c.new-vectors.result c.args.feed.now start c.new-vectors.ensures) in
    let told = streams_as buffered_at [] (λ x. text_at c.args.lines code (queued (buffered_start code x)) events) (buffered_text c.args.lines code events)
    (λ x. ended code (queued (buffered_start code x)) events) (λ x. buffered_runs code x events) c.new-vectors.result.size code.modulus c.args.feed.now c.stream.new.feed start reached
    (taken c.args.output.now) (taken c.stream.new.output) (queued c.args.machine.now.state) (queued c.stream.new.machine.state) c.stream.result
    (λ x. text_of_events code c.args.lines events x) (λ x. ap buffered_at (ended_events code x events)) all in
    streams_new size told
