use Rattle.std.proofs.Common.{◌<◌, ◌≤◌, ◌+◌, ◌-◌, ◌∷◌, [], Ok, Err, arith, length, refl, false}
use Rattle.std.proofs.lemmas.Result.{err_from_is_err_and}
use Rattle.data_stream.proofs.TokensLemmas.{reports_none}
use Rattle.icode.specs.Machine.{runs}
use Rattle.io_edge.specs.Feed.{limit, to_come}
use Rattle.spiral_words.specs.declared.statuses.status.Status.TheVariants.{NoMemory}
use Rattle.schedules.specs.Turns.{turns_of}
use Rattle.commands.proofs.ConvolutionLemmas.ConvolvedLemmas.{list_come, convolves_run}
use Rattle.commands.proofs.Inputs.StatusLemmas.{quiet_ends, run_ends}
use Rattle.commands.proofs.Inputs.OutcomeLemmas.{told_nothing}
use Rattle.commands.proofs.convolutions.run_convolver.Goals as goal

pub returns-in_err-run_vectors-clause-told : goal.returns-in_err-run_vectors-clause-told
returns-in_err-run_vectors-clause-told g c =
    let request = c.args.request.now in
    let made = c.in_ok-program.ensures in
    let code = c.in_ok-machine.machine.code in
    let some : 0 < request.modulus = omega (arith, c.requires.request.in_range.modulus.0) in
    let p = err_from_is_err_and c.from_residual-in_err-run_vectors.result c.from_residual-in_err-run_vectors.ensures.1 in
    rw (p.1, p.2) (convolves_run c.args.schedule.now request code c.in_ok-program.vectors c.args.feed.now c.listed_program.new.feed c.run_vectors.new.feed _ _ _
    _ _ c.in_ok-program.list.items c.in_ok-program.program (λ x. runs code x (turns_of c.args.schedule.now code.procs))
    c.in_ok-machine.machine.state c.run_vectors.new.machine.state (Err c.in_err-run_vectors.field-0.0)
    made.program c.in_ok-machine.ensures.code made.cut c.requires.request.procs some c.requires.turns c.requires.within c.in_err-run_vectors.ensures.within made.come c.in_err-run_vectors.ensures.streams)

pub returns-clause-told : goal.returns-clause-told
returns-clause-told g c =
    let request = c.args.request.now in
    let made = c.in_ok-program.ensures in
    let code = c.in_ok-machine.machine.code in
    let some : 0 < request.modulus = omega (arith, c.requires.request.in_range.modulus.0) in
    convolves_run c.args.schedule.now request code c.in_ok-program.vectors c.args.feed.now c.listed_program.new.feed c.run_vectors.new.feed _ _ _
    _ _ c.in_ok-program.list.items c.in_ok-program.program (λ x. runs code x (turns_of c.args.schedule.now code.procs))
    c.in_ok-machine.machine.state c.run_vectors.new.machine.state (Ok tt)
    made.program c.in_ok-machine.ensures.code made.cut c.requires.request.procs some c.requires.turns c.requires.within c.in_ok-run_vectors.ensures.within made.come c.in_ok-run_vectors.ensures.streams

pub returns-clause-end : goal.returns-clause-end
returns-clause-end g c =
    λ _.
    let start = to_come c.args.feed.now (g.I.Source.told c.args.input.now) in
    let mid = to_come c.listed_program.new.feed (g.I.Source.told c.listed_program.new.input) in
    let made = c.in_ok-program.ensures in
    let come = list_come c.args.request.now c.in_ok-machine.machine.code c.in_ok-program.vectors c.args.feed.now c.listed_program.new.feed start mid c.in_ok-program.list.items c.in_ok-program.program
    made.program c.in_ok-machine.ensures.code made.come in
    (c.in_ok-run_vectors.ensures.streams c.args.feed.now start (c.in_ok-program.list.items ∷ []) come).reads.answer.1

pub returns-in_err-run_vectors-clause-ends : goal.returns-in_err-run_vectors-clause-ends
returns-in_err-run_vectors-clause-ends g c =
    let same = reports_none _ _ _ c.in_ok-program.ensures.ends.read (λ e. cc) in
    let run = c.in_err-run_vectors.ensures in
    let p = err_from_is_err_and c.from_residual-in_err-run_vectors.result c.from_residual-in_err-run_vectors.ensures.1 in
    rw (p.1, p.2) (run_ends c.in_err-run_vectors.field-0.0 _ _ _ _
    _ _ _ _ _ same refl run.empty run.read run.write)

pub returns-in_err-machine-clause-ends : goal.returns-in_err-machine-clause-ends
returns-in_err-machine-clause-ends g c =
    let same = reports_none _ _ _ c.in_ok-program.ensures.ends.read (λ e. cc) in
    let p = err_from_is_err_and c.from_residual-in_err-machine.result c.from_residual-in_err-machine.ensures.1 in
    rw (p.1, p.2) (quiet_ends NoMemory _ _ _ _ _
    same (λ e. cc) (λ e. cc) (λ e. cc))

pub returns-clause-ends : goal.returns-clause-ends
returns-clause-ends g c =
    let read = g.I.Source.faults in
    let write = g.O.Sink.faults in
    let first = reports_none (read c.args.input.now) (read c.listed_program.new.input) _ c.in_ok-program.ensures.ends.read (λ e. cc) in
    let second = reports_none (read c.listed_program.new.input) (read c.run_vectors.new.input) _ c.in_ok-run_vectors.ensures.read (λ e. cc) in
    let wrote = reports_none (write c.args.output.now) (write c.run_vectors.new.output) _ c.in_ok-run_vectors.ensures.write (λ e. cc) in
    record {
      empty = λ e. absurd (cc);
      usage = λ e. cc;
      read = record { later = omega (arith, first, second); cause = λ e. absurd (cc); told = λ h. absurd (omega (arith, first, second, h)) };
      write = record { later = omega (arith, wrote); cause = λ e. absurd (cc); told = λ h. absurd (omega (arith, wrote, h)) };
      memory = λ e. absurd (cc);
    }

pub returns-in_err-program-clause-told : goal.returns-in_err-program-clause-told
returns-in_err-program-clause-told g c =
    let p = err_from_is_err_and c.from_residual.result c.from_residual.ensures.1 in
    rw (p.1, p.2) (c.in_err-program.ensures.told false (g.O.Sink.taken c.args.output.now))

pub returns-in_err-machine-clause-told : goal.returns-in_err-machine-clause-told
returns-in_err-machine-clause-told g c =
    let progress = c.in_ok-program.ensures.come.progress in
    let p = err_from_is_err_and c.from_residual-in_err-machine.result c.from_residual-in_err-machine.ensures.1 in
    let few : length progress.bytes ≤ limit - c.args.feed.now.taken + 1 =
    omega (arith, progress.taken, c.requires.within, c.in_ok-program.ensures.within) in
    rw (p.1, p.2) (told_nothing _ _ _ _ progress.bytes progress.consumed few)
