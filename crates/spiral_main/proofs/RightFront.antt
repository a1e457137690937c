-- A call that is right in all that its command asks of it has the outcome Success, with the text that it calls for.
use Rattle.std.proofs.Common.{Bool, ◌≡◌, ◌≢◌, ◌≤◌, ℕ, true, false, List, [], ◌∷◌, length, take, None, Ok}
use Rattle.std.proofs.Common.{nat_lt, refl, sym, ap, subst, ◌∙◌, arith, append-nil, inr}
use Rattle.std.proofs.lemmas.Grind.{common_steps}
use Rattle.std.proofs.lemmas.List.{take_all}
use Rattle.std.specs.List.{list_all}
use Rattle.std.specs.declared.option.Option.{Option}
use Rattle.std.specs.Io.KnownBytes.{Appends}
use Rattle.data_stream.specs.Data.{tokens, is_good}
use Rattle.icode.specs.Plain.{PlainProgram}
use Rattle.matrix_meaning.specs.declared.Request.{Request}
use Rattle.schedules.specs.Schedule.{Plan as Turns}
use Rattle.schedules.specs.Turns.{named}
use Rattle.spl_ast.specs.Formula.{Formula}
use Rattle.spl_ast.specs.Formula as spl
use Rattle.spl_ast.specs.Meaning as formulas
use Rattle.runs.specs.Stream.{lines, vectors_of, bad_after, vectors_seen, data_answer, data_vectors}
use Rattle.runs.proofs.StreamLemmas.{bad_behind, right_answer}
use Rattle.spiral_words.specs.Statuses.Fault.{status_of_stream}
use Rattle.spiral_words.specs.declared.statuses.status.Status.{Status}
use Rattle.spiral_words.specs.declared.statuses.status.Status.TheVariants.{Success, ReadFault, WriteFault}
use Rattle.spiral_words.specs.declared.statuses.status.Status.TheVariants.{NoMemory}
use Rattle.commands.specs.Formulas.Letters.{program_for}
use Rattle.listing_text.specs.Listing.{listing_of}
use Rattle.commands.specs.Equations.Compile.{compile_outcomes}
use Rattle.commands.specs.Equations.Convolutions.{conv_planned, conv_spelt}
use Rattle.commands.specs.Equations.Exec.{exec_outcomes, exec_work}
use Rattle.commands.specs.Equations.Formulas.{formed, written}
use Rattle.commands.specs.Listings.Listed.{loaded, result_of}
use Rattle.commands.specs.Input.Asking.{spelt}
use Rattle.commands.specs.Input.Commands.{admitted, first_stranger}
use Rattle.commands.specs.Input.Stage.{Stage, ◌>>=◌}
use Rattle.commands.specs.Equations.Front.{Front, line, ordered, part, room_behind, Work, by_front}
use Rattle.commands.specs.Equations.Convolve.{IsConvolveText, IsConvolverText, convolve_outcomes, convolve_work}
use Rattle.commands.specs.Equations.Convolve.{convolver_outcomes, convolver_work}
use Rattle.commands.specs.Equations.Works.{a_first, all, status_by, the_first, writing, mapping}
use Rattle.commands.specs.Equations.Orders.{Planned, planned, turned}
use Rattle.commands.specs.Equations.Apply.{apply_outcomes, apply_work}
use Rattle.commands.proofs.Inputs.FrontLemmas.{front_short}
use Rattle.spiral_main.specs.Outcome.{IsOutcome, Accounts}
use Rattle.spiral_main.specs.RightFront.{AreWholeVectors, HasWholeVectors, IsRightConvLine, IsRightLine}
use Rattle.spiral_main.specs.RightFront.{request_vectors, vectors_behind}
use Rattle.spiral_main.proofs.Calls.{one_status, one_text}

-- good tokens that are seen whole
right_vectors : (size modulus room : ℕ) (bytes : List ℕ) → length bytes ≤ room
    → list_all is_good (tokens bytes) ≡ true
    → data_vectors size modulus room bytes ≡ vectors_of size modulus (tokens bytes)
right_vectors size modulus room bytes few good =
    let over : nat_lt room (length bytes) ≡ false = grind (arith, common_steps) in
    let seen : take room bytes ≡ bytes = take_all room bytes few in
    let none : bad_after 0 (tokens bytes) ≡ None = ap (bad_after 0) (sym (append-nil (tokens bytes))) ∙ bad_behind 0 (tokens bytes) [] good in
    ap (λ x. vectors_seen size modulus x (bad_after 0 (tokens (take room bytes))) (take room bytes)) over
    ∙ ap (λ x. vectors_seen size modulus false (bad_after 0 (tokens x)) x) seen
    ∙ ap (λ x. vectors_seen size modulus false x bytes) none

-- a front that is not too long orders what its text does
pub front_orders : {A : Type 0} (front : Front) (orders : List ℕ → Stage A) (value : A) (bytes : List ℕ)
    → length (front.first bytes) ≤ front.most → orders (front.first bytes) (Ok value)
    → ordered front orders bytes (Ok value)
front_orders front orders value bytes short gives =
    record { value = front.first bytes; before = sym (front_short front bytes (front.first bytes) refl short); behind = gives }

-- A call that is right by its front: the front is not too long, it orders a value, and the work for this answers the rest
pub front_answer : {A : Type 0} (front : Front) (orders : List ℕ → Stage A) (work : A → Work) (value : A)
    (bytes : List ℕ) (s : Status) (t : List ℕ)
    → length (front.first bytes) ≤ front.most → orders (front.first bytes) (Ok value)
    → (work value (room_behind front bytes)).answer (front.behind bytes) s t
    → (by_front front orders work).answer bytes s t
front_answer front orders work value bytes s t short gives p =
    inr (value, front_orders front orders value bytes short gives, p)

-- whole vectors are answered Success, and the text for all of them
whole_answer : (size modulus : ℕ) (IsText : List (List ℕ) → List ℕ → Type 0) (room : ℕ) (bytes t : List ℕ)
    → AreWholeVectors size room bytes
    → IsText (vectors_of size modulus (tokens bytes)) t
    → (mapping all size modulus IsText room).answer bytes Success t
whole_answer size modulus IsText room bytes t v p = (
  sym (ap status_of_stream (right_answer size room bytes v.few v.good v.whole)),
  subst (λ vectors. IsText vectors t) (sym (right_vectors size modulus room bytes v.few v.good)) p,
)

-- a line that spells a request, and names no stranger
turned_gives : (spells : List ℕ → Stage Request) (names text : List ℕ) (r : Request) → spells text (Ok r)
    → first_stranger names r.procs ≡ None → (spells text >>= turned names) (Ok r)
turned_gives spells names text r spelt none =
    record { value = r; before = spelt; behind = sym (ap (λ stranger. admitted stranger r.procs r) none) }

-- what the line of a request orders
pub orders_plan : (names bytes : List ℕ) (plan : Planned) → IsRightLine names bytes plan
    → planned names ((line 256).first bytes) (Ok plan)
orders_plan names bytes plan right = record {
  value = plan.request;
  before = turned_gives spelt names ((line 256).first bytes) plan.request right.spells right.turns;
  behind = (refl, right.planned);
}

-- what the line of a request for convolutions orders
pub orders_conv_plan : (names bytes : List ℕ) (plan : Planned) → IsRightConvLine names bytes plan
    → conv_planned names ((line 256).first bytes) (Ok plan)
orders_conv_plan names bytes plan right = record {
  value = plan.request;
  before = turned_gives conv_spelt names ((line 256).first bytes) plan.request right.spells right.turns;
  behind = (refl, right.planned);
}

line_answer : (names bytes : List ℕ) (work : Planned → Work) (plan : Planned) (t : List ℕ)
    → IsRightLine names bytes plan
    → (work plan (room_behind (line 256) bytes)).answer ((line 256).behind bytes) Success t
    → (by_front (line 256) (planned names) work).answer bytes Success t
line_answer names bytes work plan t right p = front_answer (line 256) (planned names) work plan bytes Success t right.short (orders_plan names bytes plan right) p

-- By a request

pub written_is_right : (names bytes : List ℕ) (IsText : Planned → List ℕ → Type 0) (plan : Planned) (t : List ℕ)
    → IsRightLine names bytes plan → IsText plan t
    → (by_front (line 256) (planned names) (λ (p : Planned). writing (IsText p))).answer bytes Success t
written_is_right names bytes IsText plan t right is = line_answer names bytes (λ (p : Planned). writing (IsText p)) plan t right (refl, is)

pub text_is_right : (names bytes : List ℕ) (text : Planned → List ℕ) (plan : Planned) → IsRightLine names bytes plan
    → (by_front (line 256) (planned names) (λ (p : Planned). writing (λ t. t ≡ text p))).answer bytes Success
    (text plan)
text_is_right names bytes text plan right = written_is_right names bytes (λ p t. t ≡ text p) plan (text plan) right refl

pub data_are_right : (names bytes : List ℕ) (text : Planned → List (List ℕ) → List ℕ) (plan : Planned) →
    IsRightLine names bytes plan
    → HasWholeVectors (line 256) plan.request.size bytes
    → (by_front (line 256) (planned names) (λ (p : Planned). mapping all p.request.size p.request.modulus
    (λ vs t. t ≡ text p vs))).answer
    bytes Success (text plan (request_vectors plan bytes))
data_are_right names bytes text plan right vectors =
    let written = text plan (request_vectors plan bytes) in
    line_answer names bytes (λ (p : Planned). mapping all p.request.size p.request.modulus (λ vs t. t ≡ text p vs)) plan written right
    (whole_answer plan.request.size plan.request.modulus (λ vs t. t ≡ text plan vs) (room_behind (line 256) bytes)
    ((line 256).behind bytes) written vectors refl)

-- By a formula or a listing

pub listing_is_right : (m : ℕ) (bytes : List ℕ) (formula : Formula)
    → length ((line 65536).first bytes) ≤ 65536 → written ((line 65536).first bytes) (Ok formula)
    → (compile_outcomes m).answer bytes Success (listing_of (program_for m formula))
listing_is_right m bytes formula short gives =
    front_answer (line 65536) written (λ (f : Formula). writing (λ t. t ≡ listing_of (program_for m f))) formula bytes Success
    (listing_of (program_for m formula)) short gives (refl, refl)

pub applied_is_right : (m : ℕ) (schedule : Turns) (bytes : List ℕ) (formula : Formula)
    → length ((line 65536).first bytes) ≤ 65536 → formed (named schedule) ((line 65536).first bytes) (Ok formula)
    → HasWholeVectors (line 65536) (spl.size_of formula) bytes
    → (apply_outcomes m schedule).answer bytes Success (lines (formulas.apply m formula)
    (vectors_behind (line 65536) (spl.size_of formula) m bytes))
applied_is_right m schedule bytes formula short gives vectors =
    let text = lines (formulas.apply m formula) (vectors_behind (line 65536) (spl.size_of formula) m bytes) in
    front_answer (line 65536) (formed (named schedule)) (apply_work m) formula bytes Success text short gives
    (whole_answer (spl.size_of formula) m (λ vs t. t ≡ lines (formulas.apply m formula) vs) (room_behind (line 65536) bytes) ((line 65536).behind bytes) text vectors refl)

pub executed_is_right : (schedule : Turns) (bytes : List ℕ) (program : PlainProgram)
    → length ((part 1048576).first bytes) ≤ 1048576 → loaded schedule ((part 1048576).first bytes) (Ok program)
    → HasWholeVectors (part 1048576) program.size bytes
    → (exec_outcomes schedule).answer bytes Success (lines (result_of program)
    (vectors_behind (part 1048576) program.size program.modulus bytes))
executed_is_right schedule bytes program short gives vectors =
    let text = lines (result_of program) (vectors_behind (part 1048576) program.size program.modulus bytes) in
    front_answer (part 1048576) (loaded schedule) exec_work program bytes Success text short gives
    (whole_answer program.size program.modulus (λ vs t. t ≡ lines (result_of program) vs) (room_behind (part 1048576) bytes) ((part 1048576).behind bytes) text vectors refl)

-- a call whose outcome is Success with this text succeeds with it, but for the outside and memory
pub right_success : (words : List (List ℕ)) (bytes left : List ℕ) (ended : Bool) (before after : Option (List ℕ))
    (s : Status)
    (t : List ℕ) → IsOutcome words bytes Success t
    → Accounts words bytes left ended before after s → s ≢ ReadFault → s ≢ WriteFault → s ≢ NoMemory
    → (s ≡ Success) × Appends before after t
right_success words bytes left ended before after s t own accounts read write memory =
    let found = accounts.meets.answer (record { read = read; write = write; memory = memory }) in
    let same : found.0 ≡ t = one_text words bytes s Success found.0 t found.1 own in
    (one_status words bytes s Success found.0 t found.1 own, subst (λ u. Appends before after u) same found.2)

-- By a list

pub convolved_is_right : (schedule : Turns) (bytes : List ℕ) (plan : Planned) (h : List ℕ) (later : List (List ℕ))
    (t : List ℕ) → IsRightConvLine (named schedule) bytes plan → HasWholeVectors (line 256) plan.request.size bytes
    → request_vectors plan bytes ≡ h ∷ later → IsConvolveText plan (h ∷ later) t
    → (convolve_outcomes schedule).answer bytes Success t
convolved_is_right schedule bytes plan h later t right v same is =
    let n = plan.request.size in
    let m = plan.request.modulus in
    let room = room_behind (line 256) bytes in
    let behind = (line 256).behind bytes in
    let seen : data_vectors n m room behind ≡ h ∷ later = right_vectors n m room behind v.few v.good ∙ same in
    let ends : status_by a_first n (data_answer n room behind) (data_vectors n m room behind) ≡ Success =
    ap (status_by a_first n (data_answer n room behind)) seen
    ∙ ap status_of_stream (right_answer n room behind v.few v.good v.whole) in
    front_answer (line 256) (conv_planned (named schedule)) convolve_work plan bytes Success t right.short
    (orders_conv_plan (named schedule) bytes plan right)
    (sym ends, subst (λ vectors. IsConvolveText plan vectors t) (sym seen) is)

pub convolver_is_first : (schedule : Turns) (bytes : List ℕ) (plan : Planned) (h : List ℕ) (later : List (List ℕ))
    (t : List ℕ) → IsRightConvLine (named schedule) bytes plan
    → data_vectors plan.request.size plan.request.modulus (room_behind (line 256) bytes) ((line 256).behind bytes) ≡ h
    ∷ later
    → IsConvolverText plan (h ∷ later) t → (convolver_outcomes schedule).answer bytes Success t
convolver_is_first schedule bytes plan h later t right seen is =
    let n = plan.request.size in
    let answer = data_answer n (room_behind (line 256) bytes) ((line 256).behind bytes) in
    front_answer (line 256) (conv_planned (named schedule)) convolver_work plan bytes Success t right.short
    (orders_conv_plan (named schedule) bytes plan right)
    (sym (ap (status_by the_first n answer) seen), subst (λ vectors. IsConvolverText plan vectors t) (sym seen) is)
