-- What the program answers, where the programs that it writes are known by what they do: their statements are forgotten.
use Rattle.std.specs.Prelude.{◌≡◌, ◌↔◌, ℕ, ◌^◌, ◌<◌, ◌≤◌, true, false, List, [], Ok}
use Rattle.std.specs.declared.option.Option.{Option}
use Rattle.c_print.specs.CText.{c_text_of}
use Rattle.commands.specs.Convolutions.Convolving.{IsConvRequest}
use Rattle.commands.specs.Convolutions.ConvPlanned.{IsConvPlanned}
use Rattle.commands.specs.Equations.Apply.{apply_outcomes}
use Rattle.commands.specs.Equations.Cert.{cert_outcomes}
use Rattle.commands.specs.Equations.Check.{check_outcomes}
use Rattle.commands.specs.Equations.Convolutions.{conv_planned}
use Rattle.commands.specs.Equations.Convolve.{convolve_outcomes}
use Rattle.commands.specs.Equations.Exec.{exec_outcomes}
use Rattle.commands.specs.Equations.Formula.{formula_outcomes}
use Rattle.commands.specs.Equations.Formulas.{written}
use Rattle.commands.specs.Equations.Front.{by_front, line}
use Rattle.commands.specs.Equations.Orders.{Planned, planned}
use Rattle.commands.specs.Equations.Plan.{plan_outcomes}
use Rattle.commands.specs.Equations.Run.{run_outcomes}
use Rattle.commands.specs.Equations.Sample.{sample_outcomes}
use Rattle.commands.specs.Equations.Works.{all, by_first, mapping, the_first, writing}
use Rattle.commands.specs.Planned.{IsPlanned}
use Rattle.commands.specs.Input.Orders.{procs_in}
use Rattle.commands.specs.Input.Outcomes.{Outcomes}
use Rattle.icode.specs.Plain.{PlainProgram}
use Rattle.io_edge.specs.Told.{Told}
use Rattle.listing_text.specs.Listing.{listing_of}
use Rattle.matrix_meaning.specs.Valid.{IsInRange}
use Rattle.matrix_meaning.specs.declared.Request.{Request}
use Rattle.schedules.specs.Schedule.{Plan as Turns}
use Rattle.schedules.specs.Turns.{named}
use Rattle.spiral_main.specs.Good.{trace_of}
use Rattle.spiral_main.specs.Outcome.{AccountsFor, CallMeetsFor, IsOutcome, outcomes_for}
use Rattle.spiral_main.specs.FormulaTheorem.{IsRightCode, IsRightConvolver}
use Rattle.spiral_main.specs.Theorem.{IsRightProgram}
use Rattle.spiral_words.specs.Asked.{IsAsked}
use Rattle.spiral_words.specs.declared.Command.{Command}
use Rattle.spiral_words.specs.declared.Command.TheVariants.{ByRequest, ByFormula, ByListing, ByList}
use Rattle.spiral_words.specs.declared.Document.TheVariants as document
use Rattle.spiral_words.specs.declared.FormulaCommand.TheVariants.{Compile, Apply}
use Rattle.spiral_words.specs.declared.Order.{Order}
use Rattle.spiral_words.specs.declared.RequestCommand.TheVariants.{Writes, Runs, Traces, Judges}
use Rattle.spiral_words.specs.declared.statuses.status.Status.{Status}
use Rattle.spl_ast.specs.Formula.{Formula, parts_of}
use Rattle.spl_ast.specs.Shape.{IsShaped}
use Rattle.tree_model.specs.Breakdown.{Breakdown}

-- a program for each request and tree, for each convolution with a list, and for each formula modulo m; and what they do
pub record Generator : Type 0 where
  pub code : Request → Breakdown → PlainProgram
  pub right : (r : Request) (t : Breakdown) → IsInRange r → IsPlanned r (Ok t) → IsRightProgram r t (code r t)
  pub convolver : Request → Breakdown → List ℕ → PlainProgram
  pub convolves : (r : Request) (t : Breakdown) (h : List ℕ) → IsConvRequest r → IsConvPlanned r (Ok t) →
      IsRightConvolver r t h (convolver r t h)
  pub formula : ℕ → Formula → PlainProgram
  pub computes : (m : ℕ) (f : Formula) → 2 ≤ m → m < 2 ^ 62 → IsShaped f → parts_of f ≤ 65536 →
      IsRightCode m f (formula m f)

-- ---- what is right for the commands that write a program

-- a text of the request's program
abbrev pub code_by : (PlainProgram → List ℕ) → Generator → Outcomes
code_by printed g = by_front (line 256) (planned [])
    (λ (plan : Planned). writing (λ text. text ≡ printed (g.code plan.request plan.tree)))

-- its listing, and the lines of its runs
abbrev pub trace_by : Order → Generator → Outcomes
trace_by order g = by_front (line 256) (planned (procs_in order))
    (λ (plan : Planned). mapping all plan.request.size plan.request.modulus
    (λ vectors text. text ≡ trace_of order plan vectors (g.code plan.request plan.tree)))

-- the listing of the formula's program
abbrev pub compile_by : ℕ → Generator → Outcomes
compile_by m g = by_front (line 65536) written (λ (f : Formula). writing (λ text. text ≡ listing_of (g.formula m f)))

-- the listing of the program that convolves with the first vector
abbrev pub convolver_by : Turns → Generator → Outcomes
convolver_by schedule g = by_front (line 256) (conv_planned (named schedule))
    (λ (plan : Planned). mapping the_first plan.request.size plan.request.modulus
    (by_first (λ h later text. text ≡ listing_of (g.convolver plan.request plan.tree h))))

-- ---- what is right for each command

abbrev pub outcomes_by : Generator → Command → Outcomes
outcomes_by g (ByRequest (Writes document.Plan)) = plan_outcomes
outcomes_by g (ByRequest (Writes document.Formula)) = formula_outcomes
outcomes_by g (ByRequest (Writes document.Code)) = code_by listing_of g
outcomes_by g (ByRequest (Writes document.C)) = code_by c_text_of g
outcomes_by g (ByRequest (Writes document.Cert)) = cert_outcomes
outcomes_by g (ByRequest (Writes (document.Sample seed schedule))) = sample_outcomes seed schedule
outcomes_by g (ByRequest (Runs order)) = run_outcomes order
outcomes_by g (ByRequest (Traces order)) = trace_by order g
outcomes_by g (ByRequest Judges) = check_outcomes
outcomes_by g (ByFormula m Compile) = compile_by m g
outcomes_by g (ByFormula m (Apply schedule)) = apply_outcomes m schedule
outcomes_by g (ByListing schedule) = exec_outcomes schedule
outcomes_by g (ByList schedule false) = convolve_outcomes schedule
outcomes_by g (ByList schedule true) = convolver_by schedule g

-- The program writes the programs of this generator: each outcome of words that ask for a command is an answer by it, and
-- what `spiral_run` says of its status and output is what is right by it
pub record IsTheGenerator (g : Generator) : Type 0 where
  pub answers : (words : List (List ℕ)) (command : Command) (bytes : List ℕ) (status : Status) (text : List ℕ) →
      IsAsked words command → (IsOutcome words bytes status text ↔ (outcomes_by g command).answer bytes status text)
  pub told : (words : List (List ℕ)) (input input' : Told) (before after : Option (List ℕ)) (status : Status) →
      (AccountsFor words input input' before after status
      ↔ CallMeetsFor (outcomes_for (outcomes_by g) words) input input' before after status)

abbrev pub OneGenerator : Type 0
OneGenerator = (g : Generator) × IsTheGenerator g
