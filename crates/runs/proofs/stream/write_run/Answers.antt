use Rattle.std.proofs.Common.{◌∙◌, List, ℕ, subst}
use Rattle.std.proofs.lemmas.Result.{err_from_is_err_and}
use Rattle.std.specs.Io.KnownBytes.{Appends}
use Rattle.buffer_machine.specs.Listed.{events_of}
use Rattle.io_edge.specs.Taken.{AppendsPrefix, WritesAll}
use Rattle.io_edge.proofs.TakenLemmas.{prefix_more, writes_after}
use Rattle.data_stream.specs.Line.{line_of}
use Rattle.runs.specs.Texts.{asked_lines, results_at}
use Rattle.runs.specs.Walks.{ended}
use Rattle.runs.proofs.StreamLemmas.{lines_begun, stands_begun, results_left, held_at_ok}
use Rattle.runs.proofs.stream.write_run.Goals as goal

pub returns-in_err-take_steps-clause-bytes : goal.returns-in_err-take_steps-clause-bytes
returns-in_err-take_steps-clause-bytes g c =
    let code = g.E.Engine.code c.args.machine.now in
    let first = g.E.Engine.begun code c.args.vector.now in
    let events = events_of c.args.events code.procs in
    let a = g.O.Sink.taken c.args.output.now in
    let b = g.O.Sink.taken c.take_steps.new.output in
    let p = err_from_is_err_and c.from_residual.result c.from_residual.ensures.1 in
    let begun = c.begin.new.self in
    let front = subst (AppendsPrefix a b) (lines_begun c.args.lines c.args.events code (g.E.Engine.code begun) first (g.E.Engine.stands begun) c.begin.ensures.code c.begin.ensures.stands) c.in_err-take_steps.ensures.bytes in
    rw p.1 (prefix_more a b (asked_lines c.args.lines code first events) (line_of (results_at code first events)) front)

pub returns-clause-bytes : goal.returns-clause-bytes
returns-clause-bytes g c =
    let code = g.E.Engine.code c.args.machine.now in
    let first = g.E.Engine.begun code c.args.vector.now in
    let events = events_of c.args.events code.procs in
    let a = g.O.Sink.taken c.args.output.now in
    let b = g.O.Sink.taken c.take_steps.new.output in
    let d = g.O.Sink.taken c.write_vector.new.output in
    let begun = c.begin.new.self in
    let own = g.E.Engine.code begun in
    let at = g.E.Engine.stands begun in
    let last = c.take_steps.new.machine in
    let front = subst (Appends a b) (lines_begun c.args.lines c.args.events code own first at c.begin.ensures.code c.begin.ensures.stands) c.in_ok-take_steps.ensures.bytes in
    let stands = stands_begun c.args.events code own first at (g.E.Engine.stands last) c.begin.ensures.code c.begin.ensures.stands c.in_ok-take_steps.ensures.stands in
    let left = c.take_results.ensures ∙ results_left code (g.E.Engine.code last) (ended code first events) (g.E.Engine.stands last) (c.take_steps.ensures.code ∙ c.begin.ensures.code) stands in
    let line = subst (λ (l : List ℕ). WritesAll b d c.write_vector.result (line_of l)) left c.write_vector.ensures.bytes in
    writes_after a b d (asked_lines c.args.lines code first events) (line_of (results_at code first events)) c.write_vector.result front line

pub returns-clause-stands : goal.returns-clause-stands
returns-clause-stands g c =
    let code = g.E.Engine.code c.args.machine.now in
    let begun = c.begin.new.self in
    held_at_ok c.write_vector.result
    (stands_begun c.args.events code (g.E.Engine.code begun) (g.E.Engine.begun code c.args.vector.now) (g.E.Engine.stands begun) (g.E.Engine.stands c.take_steps.new.machine) c.begin.ensures.code c.begin.ensures.stands c.in_ok-take_steps.ensures.stands)
