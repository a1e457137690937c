-- What the commands that write a program answer for a right line, where the program's statements are forgotten.
use Rattle.std.proofs.Common.{◌≡◌, ◌≤◌, ℕ, true, List, [], ◌∷◌, Ok, refl, arith, inr, codes}
use Rattle.c_print.specs.CText.{c_text_of}
use Rattle.commands.specs.Convolutions.ConvPlanned.{IsConvPlanned}
use Rattle.commands.specs.Convolutions.Convolving.{IsConvRequest}
use Rattle.commands.specs.Emission.Whole.{conv_emission, emission}
use Rattle.commands.specs.Equations.Commands.{outcomes_of}
use Rattle.commands.specs.Equations.Convolve.{convolver_outcomes, convolver_work}
use Rattle.commands.specs.Equations.Front.{line, room_behind}
use Rattle.commands.specs.Equations.Orders.{Planned, planned}
use Rattle.commands.specs.Equations.Trace.{trace_outcomes, trace_work}
use Rattle.commands.specs.Equations.Convolutions.{conv_planned}
use Rattle.commands.specs.Equations.Works.{all, the_first, by_first, status_by}
use Rattle.commands.specs.Formulas.Code.{IsCodeOf}
use Rattle.commands.specs.Formulas.Letters as formulas
use Rattle.commands.specs.GoodPrograms.{FormulaProgramsAreCode}
use Rattle.commands.specs.Input.Orders.{procs_in}
use Rattle.commands.proofs.FormulaLemmas.Shaped.{written_few, written_shaped}
use Rattle.commands.proofs.GoodPrograms.{conv_programs_convolve, programs_are_good}
use Rattle.icode.specs.Plain.{PlainProgram}
use Rattle.listing_text.specs.Listing.{listing_of}
use Rattle.request_text.proofs.Judged.{conv_in_range}
use Rattle.schedules.specs.Schedule.{Plan as Turns}
use Rattle.schedules.specs.Turns.{named}
use Rattle.runs.specs.Stream.{data_answer}
use Rattle.spiral_words.specs.Asked.{AsksCode, AsksModulus, AsksSchedule, IsAsked, Means}
use Rattle.spiral_words.specs.CommandLine.{Names, Options}
use Rattle.spiral_words.specs.declared.Command.{Command}
use Rattle.spiral_words.specs.declared.Command.TheVariants as command
use Rattle.spiral_words.specs.declared.Document.TheVariants as document
use Rattle.spiral_words.specs.declared.FormulaCommand.TheVariants as formula_command
use Rattle.spiral_words.specs.declared.RequestCommand.TheVariants as request
use Rattle.spiral_words.specs.declared.statuses.status.Status.{Status}
use Rattle.spiral_words.specs.declared.statuses.status.Status.TheVariants.{Success}
use Rattle.spl_ast.specs.Formula.{Formula, parts_of}
use Rattle.spiral_main.specs.Good.{IsLeanFor, Prints, Shows, ShowsConvolver, Traces, trace_of, vectors_read}
use Rattle.spiral_main.specs.Outcome.{IsOutcome}
use Rattle.spiral_main.specs.RightFront.{IsRightConvLine, IsRightFormulaLine, IsRightLine}
use Rattle.spiral_main.proofs.Calls.{one_text}
use Rattle.spiral_main.proofs.RightFront.{front_answer, listing_is_right, orders_conv_plan, orders_plan, text_is_right}
use Rattle.spiral_main.proofs.RightLines.{spelt_in_range}

-- ---- by a request

-- the program of a right line's tree is good and lean
known : (names bytes : List ℕ) (plan : Planned) → IsRightLine names bytes plan
    → IsLeanFor plan (emission plan.request plan.tree)
known names bytes plan right =
    let range = spelt_in_range ((line 256).first bytes) plan.request right.spells in
    let all = programs_are_good plan.request plan.tree range right.planned in
    (all.0, all.1, all.2)

-- P is among what is known of a lean program
abbrev pub Keeps : (Planned → PlainProgram → Type 0) → Type 0
Keeps P = (plan : Planned) (program : PlainProgram) → IsLeanFor plan program → P plan program

-- a command that prints the program of the tree prints one that has P
printed_program : (name : List ℕ) (wanted : Command) (printed : PlainProgram → List ℕ)
    (P : Planned → PlainProgram → Type 0) → ((options : Options) → Means name options wanted)
    → ((bytes : List ℕ) (plan : Planned) → IsRightLine [] bytes plan
    → (outcomes_of wanted).answer bytes Success (printed (emission plan.request plan.tree)))
    → Keeps P → Prints name printed P
printed_program name wanted printed P means answers keeps words options bytes status text plan found right p =
    let program = emission plan.request plan.tree in (
      program,
      keeps plan program (known [] bytes plan right),
      one_text words bytes status Success text (printed program) p
          (inr (wanted, (name, options, found, means options), answers bytes plan right)),
    )

pub code_prints : (P : Planned → PlainProgram → Type 0) → Keeps P → Prints (codes "code") listing_of P
code_prints P =
    printed_program (codes "code") (command.ByRequest (request.Writes document.Code)) listing_of P (λ options. refl)
    (λ bytes plan right. text_is_right [] bytes (λ q. listing_of (emission q.request q.tree)) plan right)

pub c_prints : (P : Planned → PlainProgram → Type 0) → Keeps P → Prints (codes "c") c_text_of P
c_prints P =
    printed_program (codes "c") (command.ByRequest (request.Writes document.C)) c_text_of P (λ options. refl)
    (λ bytes plan right. text_is_right [] bytes (λ q. c_text_of (emission q.request q.tree)) plan right)

pub trace_prints : (P : Planned → PlainProgram → Type 0) → Keeps P → Traces P
trace_prints P keeps order words options bytes status text plan found ordered right p =
    let room = room_behind (line 256) bytes in
    let rest = (line 256).behind bytes in
    let ends = status_by all plan.request.size (data_answer plan.request.size room rest) (vectors_read plan bytes) in
    let program = emission plan.request plan.tree in
    let whole = trace_of order plan (vectors_read plan bytes) program in
    let own : (trace_outcomes order).answer bytes ends whole =
    front_answer (line 256) (planned (procs_in order)) (trace_work order) plan bytes ends whole right.short
    (orders_plan (procs_in order) bytes plan right) (refl, refl) in
    let asked : IsAsked words (command.ByRequest (request.Traces order)) =
    (codes "trace", options, found, (refl, ordered)) in (
      program,
      keeps plan program (known (procs_in order) bytes plan right),
      one_text words bytes status ends text whole p (inr (command.ByRequest (request.Traces order), asked, own)),
    )

-- ---- by a list

-- the listing for these vectors
first_listing : Planned → List (List ℕ) → List ℕ
first_listing plan [] = []
first_listing plan (h ∷ later) = listing_of (conv_emission plan.request plan.tree h)

is_first_listing : (plan : Planned) (vectors : List (List ℕ))
    → by_first (λ h later t. t ≡ listing_of (conv_emission plan.request plan.tree h)) vectors
    (first_listing plan vectors)
unfolding first_listing
is_first_listing plan [] = refl
is_first_listing plan (h ∷ later) = refl

shows_convolver : (plan : Planned) (vectors : List (List ℕ)) (text : List ℕ) → IsConvRequest plan.request
    → IsConvPlanned plan.request (Ok plan.tree) → text ≡ first_listing plan vectors → ShowsConvolver plan vectors text
unfolding first_listing
shows_convolver plan [] text able own is = is
shows_convolver plan (h ∷ later) text able own is =
    (conv_emission plan.request plan.tree h, conv_programs_convolve plan.request plan.tree h able own, is)

pub good_convolver : (schedule : Turns) (words : List (List ℕ)) (options : Options) (bytes : List ℕ) (status : Status)
    (text : List ℕ) (plan : Planned) → Names words (codes "convolve") options → AsksSchedule options schedule
    → AsksCode options true → IsRightConvLine (named schedule) bytes plan → IsOutcome words bytes status text
    → ShowsConvolver plan (vectors_read plan bytes) text
good_convolver schedule words options bytes status text plan found scheduled listed right p =
    let room = room_behind (line 256) bytes in
    let rest = (line 256).behind bytes in
    let vectors = vectors_read plan bytes in
    let ends = status_by the_first plan.request.size (data_answer plan.request.size room rest) vectors in
    let whole = first_listing plan vectors in
    let own : (convolver_outcomes schedule).answer bytes ends whole =
    front_answer (line 256) (conv_planned (named schedule)) convolver_work plan bytes ends whole right.short
    (orders_conv_plan (named schedule) bytes plan right) (refl, is_first_listing plan vectors) in
    let asked : IsAsked words (command.ByList schedule true) =
    (codes "convolve", options, found, (refl, scheduled, listed)) in
    shows_convolver plan vectors text
    (conv_in_range ((line 256).first bytes) plan.request right.spells.0 right.spells.1) right.planned
    (one_text words bytes status ends text whole p (inr (command.ByList schedule true, asked, own)))

-- ---- by a formula

pub good_compile : FormulaProgramsAreCode → (m : ℕ) (words : List (List ℕ)) (options : Options) (bytes : List ℕ)
    (status : Status) (text : List ℕ) (formula : Formula) → Names words (codes "compile") options
    → AsksModulus options m → IsRightFormulaLine bytes formula → IsOutcome words bytes status text
    → Shows listing_of (IsCodeOf m formula) text
good_compile law m words options bytes status text formula found modulus right p =
    let asked : IsAsked words (command.ByFormula m formula_command.Compile) =
    (codes "compile", options, found, (refl, modulus)) in
    let whole = listing_of (formulas.program_for m formula) in
    let first = (line 65536).first bytes in
    let few : parts_of formula ≤ 65536 =
    (let most = written_few first formula right.spells in let short = right.short in omega (arith, most, short)) in
    let own = listing_is_right m bytes formula right.short right.spells in (
      formulas.program_for m formula,
      law m formula modulus.1 modulus.0.0 (written_shaped first formula right.spells) few,
      one_text words bytes status Success text whole p
          (inr (command.ByFormula m formula_command.Compile, asked, own)),
    )
