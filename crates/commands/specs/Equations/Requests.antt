-- What is right for a command that goes by a request.
use Rattle.std.specs.Prelude.{ℕ, List, Ok}
use Rattle.matrix_meaning.specs.declared.Request.{Request}
use Rattle.plan_cert.specs.Table.{IsTableText}
use Rattle.plan_cert.specs.Verdict.{IsVerdict}
use Rattle.spiral_words.specs.declared.Document.{Document}
use Rattle.spiral_words.specs.declared.Document.TheVariants.{Plan, Formula, Code, C, Cert, Sample}
use Rattle.spiral_words.specs.declared.RequestCommand.{RequestCommand}
use Rattle.spiral_words.specs.declared.RequestCommand.TheVariants.{Writes, Runs, Traces, Judges}
use Rattle.commands.specs.Input.Outcomes.{Outcomes}
use Rattle.commands.specs.Equations.Front.{Work, staged}
use Rattle.commands.specs.Equations.Works.{writing, judging}
use Rattle.commands.specs.Equations.Orders.{Planned, chosen}
use Rattle.commands.specs.Equations.Plan.{IsPlanText, plan_outcomes}
use Rattle.commands.specs.Equations.Formula.{IsFormulaText, formula_outcomes}
use Rattle.commands.specs.Equations.Code.{IsCodeText, code_outcomes}
use Rattle.commands.specs.Equations.C.{IsCText, c_outcomes}
use Rattle.commands.specs.Equations.Cert.{cert_outcomes}
use Rattle.commands.specs.Equations.Sample.{IsSampleText, sample_outcomes}
use Rattle.commands.specs.Equations.Run.{run_work, run_outcomes}
use Rattle.commands.specs.Equations.Trace.{trace_work, trace_outcomes}
use Rattle.commands.specs.Equations.Check.{fitting, check_outcomes}

abbrev pub document_outcomes : Document → Outcomes
document_outcomes Plan = plan_outcomes
document_outcomes Formula = formula_outcomes
document_outcomes Code = code_outcomes
document_outcomes C = c_outcomes
document_outcomes Cert = cert_outcomes
document_outcomes (Sample seed schedule) = sample_outcomes seed schedule

abbrev pub outcomes_by_request : RequestCommand → Outcomes
outcomes_by_request (Writes document) = document_outcomes document
outcomes_by_request (Runs order) = run_outcomes order
outcomes_by_request (Traces order) = trace_outcomes order
outcomes_by_request Judges = check_outcomes

-- What the parts of a call come to

-- the text of a document, by the request and its tree
abbrev pub IsDocumentText : Document → Planned → List ℕ → Type 0
IsDocumentText Plan plan text = IsPlanText plan text
IsDocumentText Formula plan text = IsFormulaText plan text
IsDocumentText Code plan text = IsCodeText plan text
IsDocumentText C plan text = IsCText plan text
IsDocumentText Cert plan text = IsTableText plan.request text
IsDocumentText (Sample seed schedule) plan text = IsSampleText seed plan text

-- the text of a document, by the request with the tree chosen for it
abbrev pub IsDocument : Document → Request → List ℕ → Type 0
IsDocument document request text = (plan : Planned) × chosen request (Ok plan) × IsDocumentText document plan text

abbrev pub document_work : Document → Planned → Work
document_work document plan = writing (IsDocumentText document plan)

-- what is right after the request's line
abbrev pub work_for : RequestCommand → Request → Work
work_for (Writes document) request = staged (chosen request) (document_work document)
work_for (Runs order) request = staged (chosen request) run_work
work_for (Traces order) request = staged (chosen request) (trace_work order)
work_for Judges request = staged (fitting request) (λ (own : Request). judging (IsVerdict own))
