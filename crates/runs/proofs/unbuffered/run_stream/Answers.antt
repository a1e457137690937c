use Rattle.std.proofs.Common.{◌≡◌, [], ap, ◌∙◌, arith}
use Rattle.io_edge.specs.Feed.{to_come}
use Rattle.data_stream.specs.Vectors.{Cut}
use Rattle.runs.proofs.ProgressLemmas.{come_none, ready_none, streams_new}
use Rattle.runs.proofs.unbuffered.run_stream.Goals as goal

pub run_vectors-requires : goal.run_vectors-requires
run_vectors-requires g c =
    let start = to_come c.args.feed.now (g.I.Source.told c.args.input.now) in
    let size : c.new-vectors.result.size ≡ c.size.result = ap (λ (v : Cut). v.size) c.new-vectors.ensures in
    record {
      some = omega (arith, size, c.size.ensures.some);
      cut = size ∙ c.size.ensures.value;
      size = c.requires.size;
      no_stranger = c.requires.no_stranger;
      ready = ready_none c.args.feed.now start c.new-vectors.ensures;
    }

pub returns-clause-streams : goal.returns-clause-streams
returns-clause-streams g c =
    let start = to_come c.args.feed.now (g.I.Source.told c.args.input.now) in
    let code = c.args.machine.now.code in
    let size : c.new-vectors.result.size ≡ code.size = ap (λ (v : Cut). v.size) c.new-vectors.ensures ∙ c.size.ensures.value in
    streams_new size
    (c.run_vectors.ensures.streams c.args.feed.now start []
    (come_none code.modulus c.size.result c.new-vectors.result c.args.feed.now start c.new-vectors.ensures))
