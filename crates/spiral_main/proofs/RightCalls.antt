-- A call that is right succeeds, unless the outside fails or memory runs out.
use Rattle.std.proofs.Common.{◌≡◌, ◌≢◌, ◌⊎◌, ◌∷◌, ℕ, Bool, true, false, List, [], Ok, refl, ap, subst, ◌∙◌, arith}
use Rattle.std.proofs.Common.{inl, inr}
use Rattle.std.specs.declared.option.Option.{Option}
use Rattle.matrix_meaning.specs.Valid.{IsValid}
use Rattle.matrix_meaning.specs.declared.Request.{Request}
use Rattle.tree_model.specs.Chosen.{CanDivideWhole}
use Rattle.plan_cert.proofs.OneVerdict.{one_verdict}
use Rattle.plan_cert.specs.Verdict.{IsVerdict}
use Rattle.plan_cert.specs.declared.verdict.Verdict.TheVariants.{Least}
use Rattle.schedules.specs.Schedule.{Plan as Turns}
use Rattle.schedules.specs.Turns.{named}
use Rattle.runs.proofs.StreamLemmas.{right_answer}
use Rattle.runs.specs.Stream.{data_answer, data_vectors}
use Rattle.spiral_words.specs.Statuses.Fault.{status_of_stream}
use Rattle.spiral_words.specs.declared.Command.TheVariants as command
use Rattle.spiral_words.specs.declared.Document.{Document}
use Rattle.spiral_words.specs.declared.Document.TheVariants as document
use Rattle.spiral_words.specs.declared.FormulaCommand.{FormulaCommand}
use Rattle.spiral_words.specs.declared.FormulaCommand.TheVariants as formula
use Rattle.spiral_words.specs.declared.RequestCommand.{RequestCommand}
use Rattle.spiral_words.specs.declared.RequestCommand.TheVariants as request
use Rattle.spl_ast.specs.Formula.{Formula, size_of}
use Rattle.spiral_words.specs.declared.statuses.status.Status.{Status}
use Rattle.spiral_words.specs.declared.statuses.status.Status.TheVariants.{Success, ReadFault, WriteFault}
use Rattle.spiral_words.specs.declared.statuses.status.Status.TheVariants.{NoMemory}
use Rattle.commands.specs.Checked.{status_of_verdict}
use Rattle.commands.specs.Equations.Apply.{apply_work}
use Rattle.commands.specs.Equations.Check.{fitting}
use Rattle.commands.specs.Equations.Commands.{outcomes_by_formula}
use Rattle.commands.specs.Equations.Convolutions.{conv_planned}
use Rattle.commands.specs.Equations.Convolve.{convolve_work, convolver_work, outcomes_by_list}
use Rattle.commands.specs.Equations.Exec.{exec_work}
use Rattle.commands.specs.Equations.Compile.{compile_work}
use Rattle.commands.specs.Equations.Formulas.{formed, written}
use Rattle.commands.specs.Equations.Front.{Front, Work, by_front, line, ordered, part, room_behind}
use Rattle.commands.specs.Equations.Orders.{Planned, planned, turned}
use Rattle.commands.specs.Equations.Requests.{document_outcomes, document_work, outcomes_by_request}
use Rattle.commands.specs.Equations.Run.{run_work}
use Rattle.commands.specs.Equations.Trace.{trace_work}
use Rattle.commands.specs.Equations.Works.{a_first, judging, status_by, the_first}
use Rattle.commands.specs.Listings.Listed.{loaded}
use Rattle.commands.specs.Input.Asking.{spelt}
use Rattle.commands.specs.Input.Commands.{procs_named}
use Rattle.commands.specs.Input.Orders.{procs_in}
use Rattle.commands.specs.Input.Stage.{Stage, ◌>>=◌}
use Rattle.commands.proofs.ConvolutionLemmas.OneConvolution.{conv_planned_decided}
use Rattle.commands.proofs.FormulaLemmas.OneFormula.{formed_decided, written_decided}
use Rattle.commands.proofs.ListingLemmas.OneExecution.{loaded_decided}
use Rattle.commands.proofs.Inputs.Stages.{IsDecided, answer_for}
use Rattle.spiral_main.specs.Outcome.{Accounts, IsOutcome}
use Rattle.spiral_main.specs.Right.{AreRightData, AreRightVectors, BeginWithList, HasBudgetFor, IsRightCall}
use Rattle.spiral_main.specs.Right.{IsRightCertificate, IsRightRest, Succeeds, formula_for}
use Rattle.spiral_main.specs.RightFront.{AreWholeVectors, HasWholeVectors}
use Rattle.spiral_main.proofs.Calls.{outcome_of}
use Rattle.spiral_main.proofs.OneAnswer.{fits_decided, planned_decided}
use Rattle.spiral_main.proofs.OneWork.{ordered_decided}
use Rattle.spiral_main.proofs.RightRequests.{orders_conv, orders_fitting, orders_plan}

-- where the front orders a value, the answer is right for it
front_gives : {A : Type 0} (front : Front) (orders : List ℕ → Stage A) (work : A → Work) (value : A) (bytes : List ℕ)
    (s : Status) (t : List ℕ)
    → ((text : List ℕ) → IsDecided (orders text)) → ordered front orders bytes (Ok value)
    → (by_front front orders work).answer bytes s t → (work value (room_behind front bytes)).answer (front.behind bytes)
    s t
front_gives {A} front orders work value bytes s t decided gives p =
    answer_for (ordered front orders bytes) (λ (v : A). (work v (room_behind front bytes)).answer (front.behind bytes)) value s t
    (ordered_decided front orders bytes decided) gives p

-- By a request

document_success : (wanted : Document) (bytes : List ℕ) (plan : Planned) (s : Status) (t : List ℕ)
    → ordered (line 256) (planned (procs_named (request.Writes wanted))) bytes (Ok plan) →
    (document_outcomes wanted).answer bytes s t → s ≡ Success
document_success (document.Sample seed schedule) bytes plan s t gives p =
    (front_gives (line 256) (planned (named schedule)) (document_work (document.Sample seed schedule)) plan bytes s t
    (planned_decided (named schedule)) gives p).0
document_success wanted bytes plan s t gives p =
    (front_gives (line 256) (planned []) (document_work wanted) plan bytes s t (planned_decided []) gives p).0

whole_status : (size room : ℕ) (bytes : List ℕ) → AreWholeVectors size room bytes →
    status_of_stream (data_answer size room bytes) ≡ Success
whole_status size room bytes right = ap status_of_stream (right_answer size room bytes right.few right.good right.whole)

-- whole vectors of a request that is the plan's
plan_status : (plan : Planned) (r : Request) (bytes : List ℕ) → plan.request ≡ r →
    HasWholeVectors (line 256) r.size bytes
    → status_of_stream (data_answer plan.request.size (room_behind (line 256) bytes) ((line 256).behind bytes))
    ≡ Success
plan_status plan r bytes same right =
    ap (λ (q : Request). status_of_stream (data_answer q.size (room_behind (line 256) bytes) ((line 256).behind bytes))) same
    ∙ whole_status r.size (room_behind (line 256) bytes) ((line 256).behind bytes) right

judged_success : (r : Request) (room : ℕ) (bytes : List ℕ) (s : Status) (t : List ℕ) → IsRightCertificate r bytes
    → (judging (IsVerdict r) room).answer bytes s t → s ≡ Success
judged_success r room bytes s t right (inl p) = absurd (omega (arith, p.0, right.few))
judged_success r room bytes s t right (inr p) = p.1.2 ∙ ap status_of_verdict (one_verdict r bytes p.1.0 (Least right.cost) p.1.1 right.judged)

plain_success : (wanted : RequestCommand) (r : Request) (bytes : List ℕ) (s : Status) (t : List ℕ)
    → IsValid r → CanDivideWhole r → HasBudgetFor wanted r →
    ordered (line 256) (λ text. spelt text >>= turned (procs_named wanted)) bytes (Ok r)
    → IsRightRest wanted r (room_behind (line 256) bytes) ((line 256).behind bytes)
    → (outcomes_by_request wanted).answer bytes s t → s ≡ Success
plain_success (request.Writes wanted) r bytes s t valid can pays orders rest p =
    let plan = orders_plan (procs_named (request.Writes wanted)) bytes r valid can pays orders in
    document_success wanted bytes plan.0 s t plan.2 p
plain_success (request.Runs order) r bytes s t valid can pays orders rest p =
    let plan = orders_plan (procs_in order) bytes r valid can pays orders in
    (front_gives (line 256) (planned (procs_in order)) run_work plan.0 bytes s t (planned_decided (procs_in order)) plan.2 p).0
    ∙ plan_status plan.0 r bytes plan.1 rest
plain_success (request.Traces order) r bytes s t valid can pays orders rest p =
    let plan = orders_plan (procs_in order) bytes r valid can pays orders in
    (front_gives (line 256) (planned (procs_in order)) (trace_work order) plan.0 bytes s t (planned_decided (procs_in order)) plan.2 p).0
    ∙ plan_status plan.0 r bytes plan.1 rest
plain_success request.Judges r bytes s t valid can pays orders rest p =
    let fits = orders_fitting bytes r valid can orders in
    judged_success r (room_behind (line 256) bytes) ((line 256).behind bytes) s t rest
    (front_gives (line 256) (λ text. spelt text >>= fitting) (λ (q : Request). judging (IsVerdict q)) r bytes s t fits_decided fits p)

-- By a formula

formula_success : (m : ℕ) (wanted : FormulaCommand) (f : Formula) (bytes : List ℕ) (s : Status) (t : List ℕ)
    → ordered (line 65536) (formula_for wanted) bytes (Ok f) → AreRightData wanted f bytes
    → (outcomes_by_formula m wanted).answer bytes s t → s ≡ Success
formula_success m formula.Compile f bytes s t orders rest p = (front_gives (line 65536) written (compile_work m) f bytes s t written_decided orders p).0
formula_success m (formula.Apply schedule) f bytes s t orders rest p =
    (front_gives (line 65536) (formed (named schedule)) (apply_work m) f bytes s t (formed_decided (named schedule)) orders p).0
    ∙ whole_status (size_of f) (room_behind (line 65536) bytes) ((line 65536).behind bytes) rest

-- By a list

list_success : (schedule : Turns) (code : Bool) (r : Request) (bytes : List ℕ) (s : Status) (t : List ℕ)
    → (plan : Planned) × (plan.request ≡ r) × ordered (line 256) (conv_planned (named schedule)) bytes (Ok plan)
    → BeginWithList r (room_behind (line 256) bytes) ((line 256).behind bytes) → AreRightVectors code r bytes
    → (outcomes_by_list schedule code).answer bytes s t → s ≡ Success
list_success schedule false r bytes s t (plan, same, orders) list rest p =
    let room = room_behind (line 256) bytes in
    let behind = (line 256).behind bytes in
    let vectors : data_vectors plan.request.size plan.request.modulus room behind ≡ list.0 ∷ list.1 =
    ap (λ (q : Request). data_vectors q.size q.modulus room behind) same ∙ list.2 in
    (front_gives (line 256) (conv_planned (named schedule)) convolve_work plan bytes s t (conv_planned_decided (named schedule)) orders p).0
    ∙ ap (status_by a_first plan.request.size (data_answer plan.request.size room behind)) vectors ∙ plan_status plan r bytes same rest
list_success schedule true r bytes s t (plan, same, orders) list rest p =
    let room = room_behind (line 256) bytes in
    let behind = (line 256).behind bytes in
    let vectors : data_vectors plan.request.size plan.request.modulus room behind ≡ list.0 ∷ list.1 =
    ap (λ (q : Request). data_vectors q.size q.modulus room behind) same ∙ list.2 in
    (front_gives (line 256) (conv_planned (named schedule)) convolver_work plan bytes s t (conv_planned_decided (named schedule)) orders p).0
    ∙ ap (status_by the_first plan.request.size (data_answer plan.request.size room behind)) vectors

right_success : (words : List (List ℕ)) (bytes : List ℕ) (s : Status) (t : List ℕ) → IsRightCall words bytes →
    IsOutcome words bytes s t → s ≡ Success
right_success words bytes s t (inl right) p =
    plain_success right.wanted right.request bytes s t right.valid right.divides right.budget right.orders right.rest
    (outcome_of words bytes (command.ByRequest right.wanted) s t right.asked p)
right_success words bytes s t (inr (inl right)) p =
    (front_gives (part 1048576) (loaded right.schedule) exec_work right.program bytes s t (loaded_decided right.schedule) right.orders
    (outcome_of words bytes (command.ByListing right.schedule) s t right.asked p)).0
    ∙ whole_status right.program.size (room_behind (part 1048576) bytes) ((part 1048576).behind bytes) right.rest
right_success words bytes s t (inr (inr (inl right))) p =
    formula_success right.modulus right.wanted right.formula bytes s t right.orders right.rest
    (outcome_of words bytes (command.ByFormula right.modulus right.wanted) s t right.asked p)
right_success words bytes s t (inr (inr (inr right))) p =
    list_success right.schedule right.code right.request bytes s t
    (orders_conv (named right.schedule) bytes right.request right.able right.rooted right.principal right.budget right.orders) right.list right.rest
    (outcome_of words bytes (command.ByList right.schedule right.code) s t right.asked p)

memory_or : (s : Status) → (s ≡ NoMemory) ⊎ (s ≢ NoMemory)
memory_or NoMemory = inl refl
memory_or other = inr (λ e. cc)

pub right_calls : (words : List (List ℕ)) (bytes left : List ℕ) (ended : Bool) (before after : Option (List ℕ))
    (s : Status) →
    IsRightCall words bytes → Accounts words bytes left ended before after s
    → s ≢ ReadFault → s ≢ WriteFault → (s ≡ NoMemory) ⊎ Succeeds words bytes before after s
right_calls words bytes left ended before after s right accounts read write =
    elim (memory_or s) [
      | inl none ↦ inl none
      | inr memory ↦
          let found = accounts.meets.answer (record { read = read; write = write; memory = memory }) in
          let success = right_success words bytes s found.0 right found.1 in
          inr (record { success = success; text = found.0; outcome = subst (λ (t : Status). IsOutcome words bytes t found.0) success found.1; took = found.2 })
    ]
