use Rattle.std.proofs.Common.{◌-◌, Ok, Err, refl, sym, ap, subst}
use Rattle.std.proofs.lemmas.Result.{err_from_is_err_and}
use Rattle.icode.specs.Machine.{Code}
use Rattle.io_edge.specs.Feed.{limit}
use Rattle.commands.specs.OrderText.{order_of}
use Rattle.buffer_machine.specs.Listed.{HasNoStranger}
use Rattle.commands.proofs.StreamLemmas.{front_cut, events_told}
use Rattle.commands.proofs.Inputs.StatusLemmas.{fault_success, quiet_ends, run_ends, write_ends}
use Rattle.spiral_words.specs.declared.statuses.status.Status.TheVariants.{NoMemory}
use Rattle.commands.proofs.Inputs.OutcomeLemmas.{unread_nothing}
use Rattle.commands.proofs.streams.stream_events.Goals as goal

pub run_buffered-requires-clause-no_stranger : goal.run_buffered-requires-clause-no_stranger
run_buffered-requires-clause-no_stranger g c =
    subst (λ p. HasNoStranger c.args.events p) (sym (ap (λ (k : Code). k.procs) c.in_ok-machine.ensures.code)) c.requires.turns

pub returns-in_err-write_all-clause-told : goal.returns-in_err-write_all-clause-told
returns-in_err-write_all-clause-told g c =
    let p = err_from_is_err_and c.from_residual-in_err-write_all.result c.from_residual-in_err-write_all.ensures.1 in
    let wrote = rw c.deref.ensures.value at c.in_err-write_all.ensures.bytes in
    rw (p.1, p.2) (front_cut c.args.made.now (order_of c.args.events) (limit - c.args.feed.now.taken) _ _ _ wrote)

pub returns-in_err-run_buffered-clause-told : goal.returns-in_err-run_buffered-clause-told
returns-in_err-run_buffered-clause-told g c =
    let p = err_from_is_err_and c.from_residual-in_err-run_buffered.result c.from_residual-in_err-run_buffered.ensures.1 in
    let wrote = rw c.deref.ensures.value at c.in_ok-write_all.ensures.bytes in
    rw (p.1, p.2) (events_told c.args.made.now c.args.events c.in_ok-machine.machine.code c.args.feed.now
    c.run_buffered.new.feed _ _ _ _ _ _ _ (Err c.in_err-run_buffered.field-0.0) c.in_ok-machine.ensures.code wrote
    c.requires.within c.in_err-run_buffered.ensures.within c.in_err-run_buffered.ensures.streams)

pub returns-clause-told : goal.returns-clause-told
returns-clause-told g c =
    let wrote = rw c.deref.ensures.value at c.in_ok-write_all.ensures.bytes in
    events_told c.args.made.now c.args.events c.in_ok-machine.machine.code c.args.feed.now c.run_buffered.new.feed _ _ _ _ _ _ _
    (Ok tt) c.in_ok-machine.ensures.code wrote c.requires.within c.in_ok-run_buffered.ensures.within
    c.in_ok-run_buffered.ensures.streams

pub returns-in_err-run_buffered-clause-end : goal.returns-in_err-run_buffered-clause-end
returns-in_err-run_buffered-clause-end g c =
    let p = err_from_is_err_and c.from_residual-in_err-run_buffered.result c.from_residual-in_err-run_buffered.ensures.1 in
    rw (p.1, p.2) (λ e. absurd (fault_success c.in_err-run_buffered.field-0.0 e))

pub returns-clause-end : goal.returns-clause-end
returns-clause-end g c = λ _. c.in_ok-run_buffered.ensures.streams.answer.1

pub returns-in_err-run_buffered-clause-ends : goal.returns-in_err-run_buffered-clause-ends
returns-in_err-run_buffered-clause-ends g c =
    let run = c.in_err-run_buffered.ensures in
    let p = err_from_is_err_and c.from_residual-in_err-run_buffered.result c.from_residual-in_err-run_buffered.ensures.1 in
    rw (p.1, p.2) (run_ends c.in_err-run_buffered.field-0.0 _ _ _ _ _ _ _ _ _ refl c.in_ok-write_all.ensures.cause.ok run.empty run.read run.write)

pub returns-in_err-write_all-clause-ends : goal.returns-in_err-write_all-clause-ends
returns-in_err-write_all-clause-ends g c =
    let cause = c.in_err-write_all.ensures.cause in
    let p = err_from_is_err_and c.from_residual-in_err-write_all.result c.from_residual-in_err-write_all.ensures.1 in
    rw (p.1, p.2) (write_ends _ _ _ _ _ _ _ refl cause.later cause.err)

pub returns-in_err-vector-clause-ends : goal.returns-in_err-vector-clause-ends
returns-in_err-vector-clause-ends g c =
    let p = err_from_is_err_and c.from_residual-in_err-vector.result c.from_residual-in_err-vector.ensures.1 in
    rw (p.1, p.2) (quiet_ends NoMemory _ _ _ _ _ refl (λ e. cc) (λ e. cc) (λ e. cc))

pub returns-in_err-machine-clause-told : goal.returns-in_err-machine-clause-told
returns-in_err-machine-clause-told g c =
    let p = err_from_is_err_and c.from_residual.result c.from_residual.ensures.1 in rw (p.1, p.2) (unread_nothing _ _ _)

pub returns-in_err-vector-clause-told : goal.returns-in_err-vector-clause-told
returns-in_err-vector-clause-told g c =
    let p = err_from_is_err_and c.from_residual-in_err-vector.result c.from_residual-in_err-vector.ensures.1 in
    rw (p.1, p.2) (unread_nothing _ _ _)
