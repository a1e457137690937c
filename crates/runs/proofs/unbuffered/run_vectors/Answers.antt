use Rattle.std.proofs.Common.{ap, map}
use Rattle.icode.specs.declared.event.Event.TheVariants.{Turn}
use Rattle.icode.specs.Machine.{runs, start}
use Rattle.schedules.specs.Turns.{turns_of}
use Rattle.io_edge.specs.Feed.{to_come}
use Rattle.runs.specs.Standing.{direct}
use Rattle.runs.specs.Texts.{run_text, text_at}
use Rattle.runs.specs.Walks.{ended}
use Rattle.runs.proofs.ProgressLemmas.{streams_as}
use Rattle.runs.proofs.TwoMachines.{ended_turns, state_at, text_of_turns}
use Rattle.runs.proofs.unbuffered.run_vectors.Goals as goal

pub returns-clause-streams : goal.returns-clause-streams
returns-clause-streams g c =
    let code = c.args.machine.now.code in
    let turns = turns_of c.args.schedule.now code.procs in
    let reached = to_come c.stream.new.feed (g.I.Source.told c.stream.new.input) in
    let taken = g.O.Sink.taken in
    λ old before seen come. streams_as state_at seen (λ x. text_at c.args.lines code (direct (start code x)) (map Turn turns)) (run_text c.args.lines code turns)
    (λ x. ended code (direct (start code x)) (map Turn turns)) (λ x. runs code x turns) c.args.vectors.now.size code.modulus old c.stream.new.feed before reached
    (taken c.args.output.now) (taken c.stream.new.output) (direct c.args.machine.now.state) (direct c.stream.new.machine.state) c.stream.result
    (λ x. text_of_turns code c.args.lines turns x) (λ x. ap state_at (ended_turns code x turns)) (c.stream.ensures.streams old before seen come)
