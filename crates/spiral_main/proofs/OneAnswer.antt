-- What is right for each command has one status and one text.
use Rattle.std.proofs.Common.{◌≡◌, ◌++◌, ℕ, Bool, true, false, List, [], Ok, Err, Result, sym, ap, ap₂, ◌∙◌}
use Rattle.c_print.specs.CText.{c_text_of}
use Rattle.commands.specs.Emission.Whole.{conv_emission}
use Rattle.commands.specs.Formulas.Letters as formulas
use Rattle.commands.specs.Emission.Whole.{emission}
use Rattle.listing_text.specs.Listing.{listing_of}
use Rattle.matrix_meaning.specs.Asked.{asked_of}
use Rattle.matrix_meaning.specs.Convolution.{convolution}
use Rattle.matrix_meaning.specs.declared.Request.{Request}
use Rattle.plan_cert.proofs.OneText.{one_certificate}
use Rattle.plan_cert.proofs.OneVerdict.{one_verdict}
use Rattle.plan_cert.specs.Table.{IsTableText}
use Rattle.plan_cert.specs.Verdict.{IsVerdict}
use Rattle.request_text.proofs.OneAnswer.{one_answer}
use Rattle.schedules.specs.Schedule.{Plan as Turns}
use Rattle.schedules.specs.Turns.{named}
use Rattle.runs.specs.Stream.{lines}
use Rattle.spiral_words.specs.Statuses.Fault.{status_of_generate, status_of_request}
use Rattle.spiral_words.specs.declared.Command.{Command}
use Rattle.spiral_words.specs.declared.Command.TheVariants as command
use Rattle.spiral_words.specs.declared.Document.{Document}
use Rattle.spiral_words.specs.declared.Document.TheVariants as document
use Rattle.spiral_words.specs.declared.FormulaCommand.{FormulaCommand}
use Rattle.spiral_words.specs.declared.FormulaCommand.TheVariants as formula
use Rattle.spiral_words.specs.declared.RequestCommand.{RequestCommand}
use Rattle.spiral_words.specs.declared.RequestCommand.TheVariants as request
use Rattle.spl_ast.specs.Formula.{Formula, size_of}
use Rattle.spl_ast.specs.Meaning as meanings
use Rattle.spiral_words.specs.declared.statuses.status.Status.{Status}
use Rattle.tree_model.specs.Breakdown.{Breakdown}
use Rattle.commands.proofs.ConvolutionLemmas.OneConvolution.{conv_planned_decided, request_clash, same_fault}
use Rattle.commands.proofs.ConvolutionLemmas.OneConvolution.{same_request}
use Rattle.commands.proofs.FormulaLemmas.OneFormula.{formed_decided, written_decided}
use Rattle.commands.proofs.ListingLemmas.OneExecution.{loaded_decided}
use Rattle.commands.proofs.Inputs.Stages.{IsDecided, bind_decided, done, ended, given_decided}
use Rattle.commands.specs.Equations.Apply.{apply_work}
use Rattle.commands.specs.Equations.Check.{fitting}
use Rattle.commands.specs.Equations.Commands.{outcomes_by_formula, outcomes_of}
use Rattle.commands.specs.Equations.Convolutions.{conv_planned}
use Rattle.commands.specs.Equations.Convolve.{convolve_work, convolver_work, outcomes_by_list}
use Rattle.commands.specs.Equations.Exec.{exec_work}
use Rattle.commands.specs.Equations.Formula.{formula_text}
use Rattle.commands.specs.Equations.Formulas.{formed, written}
use Rattle.commands.specs.Equations.Front.{by_front, line, part}
use Rattle.commands.specs.Equations.Orders.{Planned, chosen, planned, turned}
use Rattle.commands.specs.Equations.Requests.{document_outcomes, outcomes_by_request}
use Rattle.commands.specs.Equations.Run.{run_work}
use Rattle.commands.specs.Equations.Sample.{sample_lines}
use Rattle.commands.specs.Equations.Trace.{run_lines, trace_work}
use Rattle.commands.specs.Equations.Works.{all, a_first, the_first, judging, writing}
use Rattle.commands.specs.Listings.Listed.{loaded, result_of}
use Rattle.commands.specs.PlanText.{plan_text}
use Rattle.commands.specs.Input.Asking.{spelt}
use Rattle.commands.specs.Input.Commands.{admitted, first_stranger}
use Rattle.commands.specs.Input.Orders.{procs_in}
use Rattle.commands.specs.Input.Stage.{◌>>=◌}
use Rattle.spiral_main.proofs.OnePlan.{bar_clash, bar_once, plan_clash, planned_once, refusal_once}
use Rattle.spiral_main.proofs.OneWork.{HasOne, first_one, front_one, judging_one, mapping_one, writing_one}

-- What the line of a request orders

spelt_decided : (line : List ℕ) → IsDecided (spelt line)
spelt_decided line (Ok a) (Ok b) p q = ap done (same_request a b (one_answer line (Ok a) (Ok b) p q))
spelt_decided line (Ok a) (Err t) p q = absurd (request_clash a q.0 (one_answer line (Ok a) (Err q.0) p q.1))
spelt_decided line (Err s) (Ok b) p q = absurd (request_clash b p.0 (one_answer line (Ok b) (Err p.0) q p.1))
spelt_decided line (Err s) (Err t) p q =
    ap ended (p.2 ∙ ap status_of_request (same_fault p.0 q.0 (one_answer line (Err p.0) (Err q.0) p.1 q.1)) ∙ sym q.2)

abbrev plan_of : Request → Breakdown → Result Planned Status
plan_of request tree = Ok (record { request = request; tree = tree })

chosen_decided : (r : Request) → IsDecided (chosen r)
chosen_decided r (Ok a) (Ok b) p q = ap₂ plan_of (p.0 ∙ sym q.0) (planned_once r a.tree b.tree p.1 q.1)
chosen_decided r (Ok a) (Err t) p q = absurd (plan_clash r a.tree q.0 p.1 q.1)
chosen_decided r (Err s) (Ok b) p q = absurd (plan_clash r b.tree p.0 q.1 p.1)
chosen_decided r (Err s) (Err t) p q = ap ended (p.2 ∙ ap status_of_generate (refusal_once r p.0 q.0 p.1 q.1) ∙ sym q.2)

turned_decided : (names : List ℕ) (r : Request) → IsDecided (turned names r)
turned_decided names r = given_decided (admitted (first_stranger names r.procs) r.procs r)

pub planned_decided : (names text : List ℕ) → IsDecided (planned names text)
planned_decided names text =
    bind_decided (spelt text >>= turned names) chosen (bind_decided (spelt text) (turned names) (spelt_decided text) (turned_decided names)) chosen_decided

fitting_decided : (r : Request) → IsDecided (fitting r)
fitting_decided r (Ok a) (Ok b) p q = ap done (p.0 ∙ sym q.0)
fitting_decided r (Ok a) (Err t) p q = absurd (bar_clash r q.0 p.1 q.1)
fitting_decided r (Err s) (Ok b) p q = absurd (bar_clash r p.0 q.1 p.1)
fitting_decided r (Err s) (Err t) p q = ap ended (p.2 ∙ ap status_of_generate (bar_once r p.0 q.0 p.1 q.1) ∙ sym q.2)

pub fits_decided : (text : List ℕ) → IsDecided (spelt text >>= fitting)
fits_decided text = bind_decided (spelt text) fitting (spelt_decided text) fitting_decided

-- Command by command

same_text : (text s t : List ℕ) → s ≡ text → t ≡ text → s ≡ t
same_text text s t p q = p ∙ sym q

one_text_each : (names : List ℕ) (text : Planned → List ℕ) →
    HasOne (by_front (line 256) (planned names) (λ (plan : Planned). writing (λ t. t ≡ text plan)))
one_text_each names text =
    front_one (line 256) (planned names) (λ (plan : Planned). writing (λ t. t ≡ text plan)) (planned_decided names)
    (λ plan room. writing_one (λ t. t ≡ text plan) room (same_text (text plan)))

document_one : (wanted : Document) → HasOne (document_outcomes wanted)
document_one document.Plan = one_text_each [] (λ plan. plan_text plan.request plan.tree)
document_one document.Formula = one_text_each [] formula_text
document_one document.Code = one_text_each [] (λ plan. listing_of (emission plan.request plan.tree))
document_one document.C = one_text_each [] (λ plan. c_text_of (emission plan.request plan.tree))
document_one document.Cert =
    front_one (line 256) (planned []) (λ (plan : Planned). writing (IsTableText plan.request)) (planned_decided [])
    (λ plan room. writing_one (IsTableText plan.request) room (one_certificate plan.request))
document_one (document.Sample seed schedule) = one_text_each (named schedule) (λ plan. sample_lines plan seed)

request_one : (wanted : RequestCommand) → HasOne (outcomes_by_request wanted)
request_one (request.Writes wanted) = document_one wanted
request_one (request.Runs order) =
    front_one (line 256) (planned (procs_in order)) run_work (planned_decided (procs_in order))
    (λ plan room. mapping_one all plan.request.size plan.request.modulus (λ vectors t. t ≡ lines (asked_of plan.request) vectors) room
    (λ vectors s t p q. p ∙ sym q))
request_one (request.Traces order) =
    front_one (line 256) (planned (procs_in order)) (trace_work order) (planned_decided (procs_in order))
    (λ plan room. mapping_one all plan.request.size plan.request.modulus
    (λ vectors t. t ≡ listing_of (emission plan.request plan.tree) ++ run_lines order plan vectors) room
    (λ vectors s t p q. p ∙ sym q))
request_one request.Judges =
    front_one (line 256) (λ text. spelt text >>= fitting) (λ (r : Request). judging (IsVerdict r)) fits_decided
    (λ r room. judging_one (IsVerdict r) room (one_verdict r))

formula_one : (m : ℕ) (wanted : FormulaCommand) → HasOne (outcomes_by_formula m wanted)
formula_one m formula.Compile =
    front_one (line 65536) written (λ (f : Formula). writing (λ t. t ≡ listing_of (formulas.program_for m f))) written_decided
    (λ f room. writing_one (λ t. t ≡ listing_of (formulas.program_for m f)) room (same_text (listing_of (formulas.program_for m f))))
formula_one m (formula.Apply schedule) =
    front_one (line 65536) (formed (named schedule)) (apply_work m) (formed_decided (named schedule))
    (λ f room. mapping_one all (size_of f) m (λ vectors t. t ≡ lines (meanings.apply m f) vectors) room (λ vectors s t p q. p ∙ sym q))

list_one : (schedule : Turns) (code : Bool) → HasOne (outcomes_by_list schedule code)
list_one schedule false =
    front_one (line 256) (conv_planned (named schedule)) convolve_work (conv_planned_decided (named schedule))
    (λ plan room. mapping_one a_first plan.request.size plan.request.modulus _ room
    (first_one (λ h later t. t ≡ lines (convolution plan.request.modulus plan.request.size h) later) (λ h later s t p q. p ∙ sym q)))
list_one schedule true =
    front_one (line 256) (conv_planned (named schedule)) convolver_work (conv_planned_decided (named schedule))
    (λ plan room. mapping_one the_first plan.request.size plan.request.modulus _ room
    (first_one (λ h later t. t ≡ listing_of (conv_emission plan.request plan.tree h)) (λ h later s t p q. p ∙ sym q)))

pub command_one : (wanted : Command) → HasOne (outcomes_of wanted)
command_one (command.ByRequest wanted) = request_one wanted
command_one (command.ByFormula m wanted) = formula_one m wanted
command_one (command.ByListing schedule) =
    front_one (part 1048576) (loaded schedule) exec_work (loaded_decided schedule)
    (λ program room. mapping_one all program.size program.modulus (λ vectors t. t ≡ lines (result_of program) vectors) room (λ vectors s t p q. p ∙ sym q))
command_one (command.ByList schedule code) = list_one schedule code
