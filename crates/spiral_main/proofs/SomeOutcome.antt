-- Each call has an outcome.
use Rattle.std.proofs.Common.{◌≡◌, ◌++◌, ◌∷◌, ℕ, Bool, true, false, List, [], length, Ok, Err, Result, refl, sym, subst}
use Rattle.std.proofs.Common.{inl, inr}
use Rattle.std.proofs.lemmas.Bool.{cases_lt}
use Rattle.c_print.specs.CText.{c_text_of}
use Rattle.listing_text.specs.Listing.{listing_of}
use Rattle.matrix_meaning.specs.Asked.{asked_of}
use Rattle.commands.specs.Convolutions.Convolution.{convolution}
use Rattle.matrix_meaning.specs.Valid.{IsInRange}
use Rattle.matrix_meaning.specs.declared.Request.{Request}
use Rattle.plan_cert.proofs.SomeTable.{some_certificate}
use Rattle.plan_cert.proofs.SomeVerdict.{some_verdict}
use Rattle.plan_cert.specs.Table.{IsTableText}
use Rattle.plan_cert.specs.Verdict.{IsVerdict}
use Rattle.plan_search.proofs.WholeChosen.{whole_divides}
use Rattle.generate_faults.specs.declared.generate_fault.GenerateFault.{GenerateFault}
use Rattle.generate_faults.specs.declared.generate_fault.GenerateFault.TheVariants.{NoMemory, OverBudget}
use Rattle.request_text.proofs.OneAnswer.{line_answered}
use Rattle.request_text.specs.Answer.{Answers}
use Rattle.schedules.specs.Schedule.{Plan as Turns}
use Rattle.schedules.specs.Turns.{named}
use Rattle.request_text.specs.declared.RequestFault.{RequestFault}
use Rattle.runs.specs.Stream.{data_answer, data_vectors, lines}
use Rattle.spiral_words.proofs.Decided.{asked_or_usage}
use Rattle.spiral_words.specs.Asked.{IsAsked}
use Rattle.spiral_words.specs.Statuses.Fault.{status_of_generate, status_of_request}
use Rattle.spiral_words.specs.declared.Command.{Command}
use Rattle.spiral_words.specs.declared.Command.TheVariants as command
use Rattle.spiral_words.specs.declared.Document.{Document}
use Rattle.spiral_words.specs.declared.Document.TheVariants as document
use Rattle.spiral_words.specs.declared.FormulaCommand.{FormulaCommand}
use Rattle.spiral_words.specs.declared.FormulaCommand.TheVariants as formula
use Rattle.spiral_words.specs.declared.RequestCommand.{RequestCommand}
use Rattle.spiral_words.specs.declared.RequestCommand.TheVariants as request
use Rattle.spl_ast.specs.Formula.{size_of}
use Rattle.spl_ast.specs.Meaning as meanings
use Rattle.spiral_words.specs.declared.statuses.status.Status.{Status}
use Rattle.spiral_words.specs.declared.statuses.status.Status.TheVariants.{Success, TooLong, Usage}
use Rattle.tree_model.specs.Breakdown.{Breakdown}
use Rattle.commands.proofs.ConvolutionLemmas.Existence.{conv_planned_has}
use Rattle.commands.proofs.Existence.{plan_exists}
use Rattle.commands.proofs.FormulaLemmas.Written.{formula_written}
use Rattle.commands.proofs.ListingLemmas.Existence.{loaded_has}
use Rattle.commands.proofs.Inputs.Stages.{HasAnswer, both_have, given_has}
use Rattle.commands.specs.Checked.{certificate_limit, status_of_verdict, verdict_text}
use Rattle.commands.specs.Emission.Whole.{conv_emission}
use Rattle.commands.specs.Equations.Apply.{apply_work}
use Rattle.commands.specs.Equations.Cert.{cert_outcomes}
use Rattle.commands.specs.Equations.Check.{check_outcomes, fitting}
use Rattle.commands.specs.Equations.Commands.{outcomes_by_formula, outcomes_of}
use Rattle.commands.specs.Equations.Compile.{compile_work}
use Rattle.commands.specs.Equations.Convolutions.{conv_planned}
use Rattle.commands.specs.Equations.Convolve.{convolve_work, convolver_work, outcomes_by_list}
use Rattle.commands.specs.Equations.Exec.{exec_outcomes, exec_work}
use Rattle.commands.specs.Equations.Formula.{formula_text}
use Rattle.commands.specs.Equations.Formulas.{formed, written}
use Rattle.commands.specs.Equations.Front.{Front, Work, by_front, line, ordered, part, room_behind, taken_from}
use Rattle.commands.specs.Equations.Orders.{Planned, chosen, planned, turned}
use Rattle.commands.specs.Equations.Requests.{document_outcomes, outcomes_by_request}
use Rattle.commands.specs.Equations.Run.{run_work}
use Rattle.commands.specs.Equations.Sample.{sample_lines}
use Rattle.commands.specs.Equations.Trace.{run_lines, trace_work}
use Rattle.commands.specs.Equations.Works.{Wants, a_first, all, by_first, judging, mapping, status_by, the_first}
use Rattle.commands.specs.Equations.Works.{writing}
use Rattle.commands.specs.Formulas.Letters as formulas
use Rattle.commands.specs.Listings.Listed.{loaded, result_of}
use Rattle.commands.specs.Emission.Whole.{emission}
use Rattle.commands.specs.PlanText.{plan_text}
use Rattle.commands.specs.Planned.{IsPlanned}
use Rattle.commands.specs.Input.Asking.{spelt}
use Rattle.commands.specs.Input.Commands.{admitted, first_stranger}
use Rattle.commands.specs.Input.Orders.{procs_in}
use Rattle.commands.specs.Input.Outcomes.{Outcomes}
use Rattle.commands.specs.Input.Stage.{Stage, ◌>>=◌, given}
use Rattle.spiral_main.specs.Outcome.{IsOutcome}
use Rattle.spiral_main.proofs.RightLines.{plan_of, spelt_in_range, turned_spelt}
use Rattle.spiral_main.proofs.RightRequests.{planned_is_right}

-- ---- what a line orders

spelt_has : (text : List ℕ) → HasAnswer (spelt text)
spelt_has text = by (line_answered text)
  where
    by : (answer : Result Request RequestFault) × Answers text answer → HasAnswer (spelt text)
    by (Ok request, h) = (Ok request, h)
    by (Err fault, h) = (Err (status_of_request fault), (fault, h, refl))

chosen_has : (r : Request) (answer : Result Breakdown GenerateFault) → IsPlanned r answer → HasAnswer (chosen r)
chosen_has r (Ok tree) h = (Ok (record { request = r; tree = tree }), (refl, h))
chosen_has r (Err fault) h = (Err (status_of_generate fault), (fault, h, refl))

planned_has : (names text : List ℕ) → HasAnswer (planned names text)
planned_has names text =
    both_have (spelt text >>= turned names) chosen
    (both_have (spelt text) (turned names) (spelt_has text) (λ r h. given_has (admitted (first_stranger names r.procs) r.procs r)))
    (λ r h.
    let range : IsInRange r = spelt_in_range text r (turned_spelt spelt names text r h).0 in
    let plan = plan_exists r range in chosen_has r plan.0 plan.1)

formed_has : (names text : List ℕ) → HasAnswer (formed names text)
formed_has names text = both_have (written text) _ (formula_written text) (λ f h. given_has (admitted (first_stranger names 1) 1 f))

-- `check` goes by no budget
fitting_has : (r : Request) (answer : Result Breakdown GenerateFault) → IsPlanned r answer → HasAnswer (fitting r)
fitting_has r (Ok t) h = (Ok r, (refl, (h.0, whole_divides r t h.1.tree)))
fitting_has r (Err (OverBudget cost budget)) h =
    let tree = h.1.reached in (Ok r, (refl, (h.0, whole_divides r tree.0 tree.1)))
fitting_has r (Err NoMemory) h = absurd h
fitting_has r (Err fault) h = (Err (status_of_generate fault), (fault, h, refl))

fit_has : (text : List ℕ) → HasAnswer (spelt text >>= fitting)
fit_has text =
    both_have (spelt text) fitting (spelt_has text)
    (λ r h. let plan = plan_exists r (spelt_in_range text r h) in fitting_has r plan.0 plan.1)

-- ---- what is right after it

-- some status and text are right
abbrev HasText : Outcomes → List ℕ → Type 0
HasText outcomes bytes = (status : Status) × (text : List ℕ) × outcomes.answer bytes status text

by_answer : {A : Type 0} (front : Front) (orders : List ℕ → Stage A) (work : A → Work) (bytes : List ℕ)
    → ((text : List ℕ) (value : A) (room : ℕ) (behind : List ℕ) → orders text (Ok value) →
    HasText (work value room) behind)
    → HasAnswer (ordered front orders bytes) → HasText (by_front front orders work) bytes
by_answer front orders work bytes has (Ok value, gives) =
    let found = has gives.value value (room_behind front bytes) (front.behind bytes) gives.behind in
    (found.0, found.1, inr (value, gives, found.2))
by_answer front orders work bytes has (Err status, gives) = (status, [], inl (gives, refl))

-- for each value that a text orders
each_has : {A : Type 0} (front : Front) (orders : List ℕ → Stage A) (work : A → Work) (bytes : List ℕ)
    → ((text : List ℕ) → HasAnswer (orders text))
    → ((text : List ℕ) (value : A) (room : ℕ) (behind : List ℕ) → orders text (Ok value) →
    HasText (work value room) behind)
    → HasText (by_front front orders work) bytes
each_has front orders work bytes each has =
    by_answer front orders work bytes has
    (both_have (given (taken_from front bytes)) orders (given_has (taken_from front bytes)) (λ text is. each text))

-- for any value
front_has : {A : Type 0} (front : Front) (orders : List ℕ → Stage A) (work : A → Work) (bytes : List ℕ)
    → ((text : List ℕ) → HasAnswer (orders text))
    → ((value : A) (room : ℕ) (behind : List ℕ) → HasText (work value room) behind)
    → HasText (by_front front orders work) bytes
front_has front orders work bytes each has =
    each_has front orders work bytes each (λ text value room behind orders. has value room behind)

equation_has : (text : List ℕ) (room : ℕ) (bytes : List ℕ) → HasText (writing (λ t. t ≡ text) room) bytes
equation_has text room bytes = (Success, text, (refl, refl))

mapping_has : (wants : Wants) (size modulus : ℕ) (P : List (List ℕ) → List ℕ → Type 0) (room : ℕ) (bytes : List ℕ)
    → ((vectors : List (List ℕ)) → (t : List ℕ) × P vectors t) → HasText (mapping wants size modulus P room) bytes
mapping_has wants size modulus P room bytes each =
    let vectors = data_vectors size modulus room bytes in
    let found = each vectors in
    (status_by wants size (data_answer size room bytes) vectors, found.0, (refl, found.1))

first_has : (text : List ℕ → List (List ℕ) → List ℕ) (vectors : List (List ℕ)) →
    (t : List ℕ) × by_first (λ h later t. t ≡ text h later) vectors t
first_has text [] = ([], refl)
first_has text (h ∷ later) = (text h later, refl)

-- ---- command by command

equations_have : (names : List ℕ) (text : Planned → List ℕ) (bytes : List ℕ) →
    HasText (by_front (line 256) (planned names) (λ (plan : Planned). writing (λ t. t ≡ text plan))) bytes
equations_have names text bytes =
    front_has (line 256) (planned names) (λ (plan : Planned). writing (λ t. t ≡ text plan)) bytes (planned_has names) (λ plan room behind. equation_has (text plan) room behind)

-- the request that has a plan has a certificate
certificate_has : (bytes : List ℕ) → HasText cert_outcomes bytes
certificate_has bytes =
    each_has (line 256) (planned []) (λ (plan : Planned). writing (IsTableText plan.request)) bytes (planned_has [])
    (λ text plan room behind orders.
    let known = plan_of [] text plan orders in
    let right = planned_is_right plan.request plan.tree known.0 known.1 in
    let table = some_certificate plan.request right.0 right.1 in (Success, table.0, (refl, table.1)))

document_has : (wanted : Document) (bytes : List ℕ) → HasText (document_outcomes wanted) bytes
document_has document.Plan bytes = equations_have [] (λ plan. plan_text plan.request plan.tree) bytes
document_has document.Formula bytes = equations_have [] formula_text bytes
document_has document.Code bytes = equations_have [] (λ plan. listing_of (emission plan.request plan.tree)) bytes
document_has document.C bytes = equations_have [] (λ plan. c_text_of (emission plan.request plan.tree)) bytes
document_has document.Cert bytes = certificate_has bytes
document_has (document.Sample seed schedule) bytes = equations_have (named schedule) (λ plan. sample_lines plan seed) bytes

-- what comes after the line has a verdict, or is too long
judged_has : (r : Request) → IsInRange r → (room : ℕ) (bytes : List ℕ) → HasText (judging (IsVerdict r) room) bytes
judged_has r range room bytes = elim (cases_lt certificate_limit (length bytes)) [
  | inl over ↦ (TooLong certificate_limit, [], inl (over, refl, refl))
  | inr few ↦
      let v = some_verdict r bytes range in
      (status_of_verdict v.0, verdict_text v.0, inr (few, (v.0, v.1, refl, refl)))
]

check_has : (bytes : List ℕ) → HasText check_outcomes bytes
check_has bytes =
    each_has (line 256) (λ text. spelt text >>= fitting) (λ (r : Request). judging (IsVerdict r)) bytes fit_has
    (λ text r room behind orders.
    judged_has r (subst IsInRange (sym orders.behind.0) (spelt_in_range text orders.value orders.before)) room behind)

request_has : (wanted : RequestCommand) (bytes : List ℕ) → HasText (outcomes_by_request wanted) bytes
request_has (request.Writes wanted) bytes = document_has wanted bytes
request_has (request.Runs order) bytes =
    front_has (line 256) (planned (procs_in order)) run_work bytes (planned_has (procs_in order))
    (λ plan room behind. mapping_has all plan.request.size plan.request.modulus (λ vectors t. t ≡ lines (asked_of plan.request) vectors) room behind
    (λ vectors. (lines (asked_of plan.request) vectors, refl)))
request_has (request.Traces order) bytes =
    front_has (line 256) (planned (procs_in order)) (trace_work order) bytes (planned_has (procs_in order))
    (λ plan room behind. mapping_has all plan.request.size plan.request.modulus
    (λ vectors t. t ≡ listing_of (emission plan.request plan.tree) ++ run_lines order plan vectors) room behind
    (λ vectors. (listing_of (emission plan.request plan.tree) ++ run_lines order plan vectors, refl)))
request_has request.Judges bytes = check_has bytes

formula_has : (m : ℕ) (wanted : FormulaCommand) (bytes : List ℕ) → HasText (outcomes_by_formula m wanted) bytes
formula_has m formula.Compile bytes =
    front_has (line 65536) written (compile_work m) bytes formula_written (λ f room behind. equation_has (listing_of (formulas.program_for m f)) room behind)
formula_has m (formula.Apply schedule) bytes =
    front_has (line 65536) (formed (named schedule)) (apply_work m) bytes (formed_has (named schedule))
    (λ f room behind. mapping_has all (size_of f) m (λ vectors t. t ≡ lines (meanings.apply m f) vectors) room behind (λ vectors. (lines (meanings.apply m f) vectors, refl)))

list_has : (schedule : Turns) (code : Bool) (bytes : List ℕ) → HasText (outcomes_by_list schedule code) bytes
list_has schedule false bytes =
    front_has (line 256) (conv_planned (named schedule)) convolve_work bytes (conv_planned_has (named schedule))
    (λ plan room behind. mapping_has a_first plan.request.size plan.request.modulus
    (by_first (λ h later t. t ≡ lines (convolution plan.request.modulus plan.request.size h) later)) room behind
    (first_has (λ h later. lines (convolution plan.request.modulus plan.request.size h) later)))
list_has schedule true bytes =
    front_has (line 256) (conv_planned (named schedule)) convolver_work bytes (conv_planned_has (named schedule))
    (λ plan room behind. mapping_has the_first plan.request.size plan.request.modulus
    (by_first (λ h later t. t ≡ listing_of (conv_emission plan.request plan.tree h))) room behind
    (first_has (λ h later. listing_of (conv_emission plan.request plan.tree h))))

listing_has : (schedule : Turns) (bytes : List ℕ) → HasText (exec_outcomes schedule) bytes
listing_has schedule bytes =
    front_has (part 1048576) (loaded schedule) exec_work bytes (loaded_has schedule)
    (λ program room behind. mapping_has all program.size program.modulus (λ vectors t. t ≡ lines (result_of program) vectors)
    room behind (λ vectors. (lines (result_of program) vectors, refl)))

command_has : (wanted : Command) (bytes : List ℕ) → HasText (outcomes_of wanted) bytes
command_has (command.ByRequest wanted) bytes = request_has wanted bytes
command_has (command.ByFormula m wanted) bytes = formula_has m wanted bytes
command_has (command.ByListing schedule) bytes = listing_has schedule bytes
command_has (command.ByList schedule code) bytes = list_has schedule code bytes

-- ---- every call

called_has : (words : List (List ℕ)) (bytes : List ℕ) (wanted : Command) → IsAsked words wanted →
    HasText (outcomes_of wanted) bytes
    → (status : Status) × (text : List ℕ) × IsOutcome words bytes status text
called_has words bytes wanted asked found = (found.0, found.1, inr (wanted, asked, found.2))

pub some_outcome : (words : List (List ℕ)) (bytes : List ℕ)
    → (status : Status) × (text : List ℕ) × IsOutcome words bytes status text
some_outcome words bytes = elim (asked_or_usage words) [
  | inl asked ↦ called_has words bytes asked.0 asked.1 (command_has asked.0 bytes)
  | inr usage ↦ (Usage, [], inl ((refl, usage), refl))
]
