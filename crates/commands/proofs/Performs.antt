-- From what comes after the line of a request to the whole input.
use Rattle.std.proofs.Common.{ℕ, ◌≤◌, ◌+◌, List, [], arith}
use Rattle.matrix_meaning.specs.declared.Request.{Request}
use Rattle.spiral_words.specs.declared.Document.{Document}
use Rattle.spiral_words.specs.declared.Document.TheVariants as document
use Rattle.spiral_words.specs.declared.RequestCommand.{RequestCommand}
use Rattle.spiral_words.specs.declared.RequestCommand.TheVariants as command
use Rattle.commands.specs.Equations.Check.{fitting, check_outcomes}
use Rattle.commands.specs.Equations.Front.{Work, line, by_front, staged}
use Rattle.commands.specs.Equations.Orders.{Planned, chosen, planned, turned}
use Rattle.commands.specs.Equations.Requests.{document_outcomes, document_work, outcomes_by_request, work_for}
use Rattle.commands.specs.Equations.Run.{run_work}
use Rattle.commands.specs.Equations.Trace.{trace_work}
use Rattle.commands.specs.Input.Asking.{spelt}
use Rattle.commands.specs.Input.Commands.{procs_named}
use Rattle.commands.specs.Input.Outcomes.{Outcomes}
use Rattle.commands.specs.Input.Stage.{◌>>=◌}
use Rattle.commands.proofs.CheckLemmas.{checking, judges}
use Rattle.commands.proofs.Inputs.Nested.{no_unit}
use Rattle.commands.proofs.Inputs.OutcomeLemmas.{all_few}
use Rattle.commands.proofs.Inputs.Within.{Within, within_then, front_within, front_join}

-- what is right by the line of a request, and then after it
abbrev pub by_line : RequestCommand → Outcomes
by_line command = by_front (line 256) (λ text. spelt text >>= turned (procs_named command)) (work_for command)

same_within : (a : Outcomes) → Within a a
same_within a = record {
  most = omega arith;
  answer = λ bytes s t p. p;
  broken = λ read ended t p. p;
  cut = λ read left t taken p. p;
}

-- what comes after the line is read within the room for it
pub performs_within : (command : RequestCommand) (request : Request) (room : ℕ) →
    (work_for command request room).most ≤ room + 1
performs_within (command.Writes wanted) request room = all_few room
performs_within (command.Runs order) request room = all_few room
performs_within (command.Traces order) request room = all_few room
performs_within command.Judges request room = all_few room

-- with the tree that is chosen
planned_within : (names : List ℕ) (work : Planned → Work)
    → Within (by_front (line 256) (λ text. spelt text >>= turned names)
    (λ (request : Request). staged (chosen request) work))
    (by_front (line 256) (planned names) work)
planned_within names work = front_join (line 256) (λ text. spelt text >>= turned names) chosen work

document_within : (wanted : Document) → Within (by_line (command.Writes wanted)) (document_outcomes wanted)
document_within (document.Sample seed schedule) = planned_within _ (document_work (document.Sample seed schedule))
document_within wanted = planned_within [] (document_work wanted)

check_within : Within (by_line command.Judges) check_outcomes
check_within =
    within_then (by_line command.Judges) (by_front (line 256) spelt checking) check_outcomes
    (front_within (line 256) (λ text. spelt text >>= turned []) spelt checking checking (λ text r p. no_unit (spelt text) r p) (λ request room. same_within (checking request room)))
    (front_join (line 256) spelt fitting judges)

pub request_within : (wanted : RequestCommand) → Within (by_line wanted) (outcomes_by_request wanted)
request_within (command.Writes wanted) = document_within wanted
request_within (command.Runs order) = planned_within _ run_work
request_within (command.Traces order) = planned_within _ (trace_work order)
request_within command.Judges = check_within
