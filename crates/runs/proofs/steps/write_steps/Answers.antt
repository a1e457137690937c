use Rattle.std.proofs.Common.{◌≡◌, ◌∙◌, List, ℕ, ap, subst, sym, length}
use Rattle.std.proofs.lemmas.Result.{err_from_is_err_and}
use Rattle.icode.specs.Machine.{Code}
use Rattle.io_edge.specs.Taken.{AppendsPrefix, WritesAll}
use Rattle.io_edge.proofs.TakenLemmas.{prefix_more, writes_after}
use Rattle.buffer_machine.specs.Listed.{events_of}
use Rattle.runs.specs.Lines.{step_lines}
use Rattle.runs.specs.Standing.{completion_at}
use Rattle.runs.specs.Walks.{walked}
use Rattle.runs.proofs.Walks.{trace_parts, same_rest}
use Rattle.runs.proofs.Acts.{on_ok}
use Rattle.runs.proofs.FaultLemmas.{acts_after, met_after, met_more, on_err, passes_after, passes_more}
use Rattle.runs.proofs.steps.write_steps.Goals as goal

pub returns-in_err-write_list-clause-bytes : goal.returns-in_err-write_list-clause-bytes
returns-in_err-write_list-clause-bytes g c =
    let taken = g.O.Sink.taken in
    let code = g.E.Engine.code c.args.machine.now in
    let state = g.E.Engine.stands c.args.machine.now in
    let events = events_of c.args.events code.procs in
    let last = walked code state events in
    let a = taken c.args.output.now in
    let b = taken c.write_list.new.output in
    let p = err_from_is_err_and c.from_residual.result c.from_residual.ensures.1 in
    rw p.1 (subst (AppendsPrefix a b) (sym (trace_parts code state events))
    (prefix_more a b (step_lines code state 0 events) (step_lines code last (length events) (completion_at code last)) c.in_err-write_list.ensures.bytes))

pub returns-clause-bytes : goal.returns-clause-bytes
returns-clause-bytes g c =
    let taken = g.O.Sink.taken in
    let code = g.E.Engine.code c.args.machine.now in
    let state = g.E.Engine.stands c.args.machine.now in
    let events = events_of c.args.events code.procs in
    let last = walked code state events in
    let a = taken c.args.output.now in
    let b = taken c.write_list.new.output in
    let d = taken c.write_rest.new.output in
    let same = c.in_ok-write_list.ensures.code in
    let count : c.len-count.result ≡ length events = c.len-count.ensures.value ∙ ap (λ n. length (events_of c.args.events n)) (c.count.ensures.value ∙ ap (λ (k : Code). k.procs) same) in
    let rest = same_rest (λ (text : List ℕ). WritesAll b d c.write_rest.result text) (g.E.Engine.code c.write_list.new.machine) code (g.E.Engine.stands c.write_list.new.machine) last c.len-count.result (length events) same c.in_ok-write_list.ensures.stands count c.write_rest.ensures.bytes in
    subst (λ (text : List ℕ). WritesAll a d c.write_rest.result text) (sym (trace_parts code state events))
    (writes_after a b d (step_lines code state 0 events) (step_lines code last (length events) (completion_at code last)) c.write_rest.result c.in_ok-write_list.ensures.bytes rest)

pub returns-in_err-write_list-clause-way : goal.returns-in_err-write_list-clause-way
returns-in_err-write_list-clause-way g c =
    let code = g.E.Engine.code c.args.machine.now in
    let state = g.E.Engine.stands c.args.machine.now in
    let events = events_of c.args.events code.procs in
    passes_more c.in_err-write_list.ensures.way (completion_at code (walked code state events))

pub returns-clause-way : goal.returns-clause-way
returns-clause-way g c =
    let code = g.E.Engine.code c.args.machine.now in
    let state = g.E.Engine.stands c.args.machine.now in
    let events = events_of c.args.events code.procs in
    passes_after c.in_ok-write_list.ensures.code state events c.in_ok-write_list.ensures.stands c.write_rest.ensures.way

pub returns-in_err-write_list-clause-met : goal.returns-in_err-write_list-clause-met
returns-in_err-write_list-clause-met g c =
    let code = g.E.Engine.code c.args.machine.now in
    let state = g.E.Engine.stands c.args.machine.now in
    let events = events_of c.args.events code.procs in
    let p = err_from_is_err_and c.from_residual.result c.from_residual.ensures.1 in
    rw p.1 (met_more c.in_err-write_list.ensures.met (completion_at code (walked code state events)))

pub returns-clause-met : goal.returns-clause-met
returns-clause-met g c =
    let taken = g.O.Sink.taken in
    let code = g.E.Engine.code c.args.machine.now in
    let state = g.E.Engine.stands c.args.machine.now in
    let events = events_of c.args.events code.procs in
    let same = c.in_ok-write_list.ensures.code in
    let count : c.len-count.result ≡ length events = c.len-count.ensures.value ∙ ap (λ n. length (events_of c.args.events n)) (c.count.ensures.value ∙ ap (λ (k : Code). k.procs) same) in
    on_err c.write_rest.result
    (met_after same state events c.in_ok-write_list.ensures.stands count
    (taken c.args.output.now) (taken c.write_list.new.output) (taken c.write_rest.new.output)
    c.in_ok-write_list.ensures.bytes)
    c.write_rest.ensures.met

pub returns-clause-act : goal.returns-clause-act
returns-clause-act g c =
    let code = g.E.Engine.code c.args.machine.now in
    let state = g.E.Engine.stands c.args.machine.now in
    let events = events_of c.args.events code.procs in
    on_ok c.write_rest.result
    (acts_after c.in_ok-write_list.ensures.code state events c.in_ok-write_list.ensures.stands)
    c.write_rest.ensures.act
