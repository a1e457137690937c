-- A good program's runs for its request.
use Rattle.std.proofs.Common.{◌≡◌, ◌<◌, ◌/◌, ℕ, true, false, Vec, Global, List, [], ◌++◌, None}
use Rattle.std.proofs.Common.{length, map, refl, sym, ap, subst, ◌∙◌, arith}
use Rattle.std.proofs.Math.Nat.{div-mul-le_self}
use Rattle.std.specs.List.{All}
use Rattle.std.specs.declared.option.Option.{Option}
use Rattle.io_edge.specs.Told.{Coming}
use Rattle.icode.proofs.BufferedRuns.{memory_of_buffered}
use Rattle.icode.proofs.Lists.{code_is}
use Rattle.icode.proofs.Runs.{memory_of_runs}
use Rattle.icode.specs.Actions.{plain_code}
use Rattle.icode.specs.Buffers.{buffered_results}
use Rattle.icode.specs.Machine.{Code, IsCode, padded, results, words_at}
use Rattle.icode.specs.Plain.{PlainProgram}
use Rattle.icode.specs.Program.{plain_program, code_of}
use Rattle.icode.specs.declared.event.Event.{Event}
use Rattle.icode.specs.declared.event.Event.TheVariants.{Turn}
use Rattle.icode.specs.declared.program.Program.{Program}
use Rattle.data_stream.specs.Line.{line_of}
use Rattle.generate.specs.Emission.Whole.{emission}
use Rattle.listing_text.specs.Listing.{listing_of}
use Rattle.matrix_meaning.specs.Asked.{asked_of}
use Rattle.matrix_meaning.specs.Valid.{IsInRange}
use Rattle.matrix_meaning.specs.declared.Request.{Request}
use Rattle.schedules.specs.Schedule.{Plan}
use Rattle.schedules.specs.Turns.{turns_of}
use Rattle.runs.proofs.StreamLemmas.{texts_same}
use Rattle.runs.specs.Stream.{HasNoStranger, lines, texts, vectors_of}
use Rattle.runs.specs.Texts.{buffered_text}
use Rattle.spiral_words.specs.declared.Order.{Order}
use Rattle.spiral_words.specs.declared.Order.TheVariants as order
use Rattle.spiral_words.specs.declared.RequestCommand.TheVariants as command
use Rattle.spiral_words.specs.declared.statuses.status.Status.{Status}
use Rattle.commands.specs.Equations.Orders.{chosen}
use Rattle.commands.specs.Equations.Requests.{work_for}
use Rattle.commands.specs.Equations.Run.{run_work}
use Rattle.commands.specs.Equations.Trace.{trace_work, run_lines}
use Rattle.commands.specs.Equations.Works.{all, mapping}
use Rattle.commands.specs.OrderText.{order_text}
use Rattle.commands.specs.Prepared.{stream_work}
use Rattle.commands.specs.Programs.{IsProgramFor}
use Rattle.commands.specs.Input.Commands.{first_stranger}
use Rattle.commands.specs.Input.Orders.{procs_in}
use Rattle.commands.specs.Input.Outcomes.{SourceMeets}
use Rattle.commands.proofs.DocumentLemmas.{with_tree}
use Rattle.commands.proofs.Programs.{IsGoodCode, code_made, good_code, program_modulus, program_procs, program_size}
use Rattle.commands.proofs.Requests.{limits}
use Rattle.commands.proofs.Inputs.DataLemmas.{lines_equal, turns_below}
use Rattle.commands.proofs.Inputs.OutcomeLemmas.{all_few}
use Rattle.commands.proofs.Inputs.StageLemmas.{stage_told}
use Rattle.commands.proofs.Inputs.Within.{told_within}
use Rattle.commands.proofs.StreamLemmas.{mapping_within}

-- The program's processors

-- a good program has the request's processors
good_procs : (request : Request) (code : Code) → IsGoodCode request code → code.procs ≡ request.procs
good_procs request code good = ap (λ (k : Code). k.procs) good.is ∙ good.good.header.procs

-- the turns of a schedule are of these processors
pub good_turns : (plan : Plan) (request : Request) (code : Code) → IsGoodCode request code → IsInRange request →
    HasNoStranger plan request.procs → All (λ q. q < request.procs) (turns_of plan code.procs)
good_turns plan request code good in_range none =
    turns_below plan code.procs request.procs (good_procs request code good) (limits request in_range).procs none

-- where the request has no stranger, its program has none
pub no_stranger : (names : List ℕ) (request : Request) (program : Program) → IsInRange request →
    IsProgramFor request program → first_stranger names request.procs ≡ None
    → first_stranger names program.procs ≡ None
no_stranger names request program in_range made none = subst (λ p. first_stranger names p ≡ None) (sym (program_procs request program in_range made)) none

-- The lines of a run

-- the machine's lines are those of the matrix
good_lines : (request : Request) (code : Code) (turns : List ℕ) (vectors : List (List ℕ)) → IsGoodCode request code →
    0 < request.modulus → All (λ q. q < request.procs) turns
    → (ts : List (List ℕ)) × (vectors_of request.size request.modulus ts ≡ vectors) →
    lines (λ x. results code x turns) vectors ≡ lines (asked_of request) vectors
good_lines request code turns vectors good some there made =
    let apart = good.good.product in
    let f : List ℕ → List ℕ = λ x. results code x turns in
    let same : (x : List ℕ) → length x ≡ request.size → All (λ v. v < request.modulus) x → f x ≡ asked_of request x =
    λ x full below. ap (λ k. results k x turns) good.is ∙ apart x turns (record { size = full; residues = below }) there in
    subst (λ (v : List (List ℕ)). lines f v ≡ lines (asked_of request) v) made.1
    (lines_equal request.size request.modulus f (asked_of request) same some (length made.0 / request.size) made.0 (div-mul-le_self (length made.0) request.size))

-- with store buffers a good program leaves what it leaves without
good_memory : (request : Request) (code : Code) → IsGoodCode request code → (x : List ℕ) (events : List Event) →
    buffered_results code x events ≡ results code x []
good_memory request code good x events =
    let own : Code = plain_code (emission request good.tree) in
    let is : IsCode own = code_is (emission request good.tree) in
    let same : buffered_results own x events ≡ results own x [] = ap (λ (m : List ℕ). words_at own.size m (padded own)) (memory_of_buffered own is good.good.apart x events ∙ sym (memory_of_runs own is good.good.apart x [])) in
    subst (λ (k : Code). buffered_results k x events ≡ results k x []) (sym good.is) same

buffered_lines : (request : Request) (program : Program) (drains : List Event) (ts : List (List ℕ)) →
    IsInRange request → IsProgramFor request program
    → texts (buffered_text false (code_of program) drains) (vectors_of request.size request.modulus ts)
    ≡ lines (asked_of request) (vectors_of request.size request.modulus ts)
buffered_lines request program drains ts in_range made =
    let code : Code = code_of program in
    let good : IsGoodCode request code = good_code request code in_range (code_made request program made) in
    texts_same (buffered_text false code drains) (λ x. line_of (results code x [])) (λ x. ap line_of (good_memory request code good x drains)) (vectors_of request.size request.modulus ts)
    ∙ good_lines request code [] (vectors_of request.size request.modulus ts) good (limits request in_range).modulus (λ i d lt. absurd (omega arith)) (ts, refl)

-- in any order they are those of the matrix
order_lines : (way : Order) (request : Request) (program : Program) (ts : List (List ℕ)) → IsInRange request →
    IsProgramFor request program
    → first_stranger (procs_in way) request.procs ≡ None
    → texts (order_text false way program.procs (code_of program)) (vectors_of request.size request.modulus ts)
    ≡ lines (asked_of request) (vectors_of request.size request.modulus ts)
order_lines (order.Turns schedule) request program ts in_range made none =
    let good : IsGoodCode request (code_of program) = good_code request (code_of program) in_range (code_made request program made) in
    good_lines request (code_of program) (turns_of schedule program.procs) (vectors_of request.size request.modulus ts) good (limits request in_range).modulus
    (good_turns schedule request (code_of program) good in_range none) (ts, refl)
order_lines (order.Buffered schedule) request program ts in_range made none = buffered_lines request program (map Turn (turns_of schedule program.procs)) ts in_range made
order_lines (order.Mixed mix) request program ts in_range made none = buffered_lines request program mix ts in_range made

-- What a run comes to

-- the program's data are those of its request
sized : (request : Request) (program : Program) (IsText : List (List ℕ) → List ℕ → Type 0) (room : ℕ)
    (before after : Coming) (out out' : Option (List ℕ)) (status : Status)
    → IsInRange request → IsProgramFor request program → SourceMeets
    (mapping all program.size program.modulus IsText room) before after out out' status
    → SourceMeets (mapping all request.size request.modulus IsText room) before after out out' status
sized request program IsText room before after out out' status in_range made p =
    subst (λ n. SourceMeets (mapping all request.size n IsText room) before after out out' status) (program_modulus request program in_range made)
    (subst (λ n. SourceMeets (mapping all n program.modulus IsText room) before after out out' status) (program_size request program in_range made) p)

pub run_told : (request : Request) (program : Program) (front : Vec ℕ Global) (way : Order) (room : ℕ)
    (before after : Coming) (out out' : Option (List ℕ)) (status : Status)
    → IsInRange request → IsProgramFor request program → first_stranger (procs_in way) request.procs ≡ None →
    front.items ≡ []
    → SourceMeets (stream_work (record { program = program; front = front; lines = false }) way room) before after out out' status
    → SourceMeets (work_for (command.Runs way) request room) before after out out' status
run_told request program front way room before after out out' status in_range made none alone p =
    let text : List ℕ → List ℕ = order_text false way program.procs (code_of program) in
    let Writes : List (List ℕ) → List ℕ → Type 0 = λ vectors t. t ≡ front.items ++ texts text vectors in
    let Wanted : List (List ℕ) → List ℕ → Type 0 = λ vectors t. t ≡ lines (asked_of request) vectors in
    stage_told (chosen request) run_work room (with_tree request made.0) before after out out' status (refl, made.1) (all_few room)
    (told_within (mapping all request.size request.modulus Writes room) (mapping all request.size request.modulus Wanted room) before after out out' status
    (mapping_within request.size request.modulus Writes Wanted room (limits request in_range).size (λ ts t written.
    written ∙ ap (λ l. l ++ texts text (vectors_of request.size request.modulus ts)) alone ∙ order_lines way request program ts in_range made none))
    (sized request program Writes room before after out out' status in_range made p))

pub trace_told : (request : Request) (program : Program) (front : Vec ℕ Global) (way : Order) (room : ℕ)
    (before after : Coming) (out out' : Option (List ℕ)) (status : Status)
    → IsInRange request → IsProgramFor request program → front.items ≡ listing_of (plain_program program)
    → SourceMeets (stream_work (record { program = program; front = front; lines = true }) way room) before after out out' status
    → SourceMeets (work_for (command.Traces way) request room) before after out out' status
trace_told request program front way room before after out out' status in_range made listed p =
    let own : PlainProgram = emission request made.0 in
    let text : List ℕ → List ℕ = order_text true way program.procs (code_of program) in
    let same : text ≡ order_text true way request.procs (plain_code own) =
    ap (λ n. order_text true way n (code_of program)) (program_procs request program in_range made) ∙ ap (λ (q : PlainProgram). order_text true way request.procs (plain_code q)) made.2 in
    let Writes : List (List ℕ) → List ℕ → Type 0 = λ vectors t. t ≡ front.items ++ texts text vectors in
    let Wanted : List (List ℕ) → List ℕ → Type 0 = λ vectors t. t ≡ listing_of own ++ run_lines way (with_tree request made.0) vectors in
    stage_told (chosen request) (trace_work way) room (with_tree request made.0) before after out out' status (refl, made.1) (all_few room)
    (told_within (mapping all request.size request.modulus Writes room) (mapping all request.size request.modulus Wanted room) before after out out' status
    (mapping_within request.size request.modulus Writes Wanted room (limits request in_range).size (λ ts t written.
    let vectors = vectors_of request.size request.modulus ts in
    written ∙ ap (λ l. l ++ texts text vectors) (listed ∙ ap listing_of made.2) ∙ ap (λ (f : List ℕ → List ℕ). listing_of own ++ texts f vectors) same))
    (sized request program Writes room before after out out' status in_range made p))
