-- What the commands that print a program answer, where nothing is said of its statements: there is one program for each
-- thing that is asked, so there is one text. What these programs do is said in Good, Theorem and FormulaTheorem.
use Rattle.std.specs.Prelude.{◌≡◌, ◌↔◌, ℕ, true, List, [], codes}
use Rattle.commands.specs.Equations.Convolutions.{conv_planned}
use Rattle.commands.specs.Equations.Formulas.{written}
use Rattle.commands.specs.Equations.Front.{Answer, answered, line}
use Rattle.commands.specs.Equations.Orders.{Planned, planned}
use Rattle.commands.specs.Equations.Works.{by_first, mapped, mapped_by, printed, the_first}
use Rattle.commands.specs.Input.Orders.{procs_in}
use Rattle.icode.specs.Plain.{PlainProgram}
use Rattle.listing_text.specs.Listing.{listing_of}
use Rattle.matrix_meaning.specs.declared.Request.{Request}
use Rattle.schedules.specs.Schedule.{Plan as Turns}
use Rattle.schedules.specs.Turns.{named}
use Rattle.spiral_main.specs.Good.{trace_of}
use Rattle.spiral_main.specs.Outcome.{IsOutcome}
use Rattle.spiral_words.specs.Asked.{AsksCode, AsksModulus, AsksOrder, AsksSchedule}
use Rattle.spiral_words.specs.CommandLine.{Names, Options}
use Rattle.spiral_words.specs.declared.Order.{Order}
use Rattle.spiral_words.specs.declared.statuses.status.Status.{Status}
use Rattle.spl_ast.specs.Formula.{Formula}
use Rattle.tree_model.specs.Breakdown.{Breakdown}

-- where the words name the command with these options, exactly this is answered
abbrev pub Answers : List ℕ → (Options → Type 0) → Answer → Type 0
Answers name Asks answer =
    (words : List (List ℕ)) (options : Options) (bytes : List ℕ) (status : Status) (text : List ℕ) →
    Names words name options → Asks options → (IsOutcome words bytes status text ↔ answer bytes status text)

-- `code` and `c`: one program for each request and tree, whose text is this
pub record PrintsOne (name : List ℕ) (text_of : PlainProgram → List ℕ) : Type 0 where
  pub program : Request → Breakdown → PlainProgram
  pub answers : Answers name (λ options. Unit {0}) (answered (line 256) (planned [])
      (λ (plan : Planned). printed (λ text. text ≡ text_of (program plan.request plan.tree))))

-- `trace`: one program for each request and tree, whose listing and runs are the text
pub record TracesOne : Type 0 where
  pub program : Request → Breakdown → PlainProgram
  pub answers : (order : Order) → Answers (codes "trace") (λ options. AsksOrder options order)
      (answered (line 256) (planned (procs_in order)) (λ (plan : Planned). mapped plan.request.size plan.request.modulus
      (λ vectors text. text ≡ trace_of order plan vectors (program plan.request plan.tree))))

-- `compile`: one program for each formula modulo m
pub record CompilesOne : Type 0 where
  pub program : ℕ → Formula → PlainProgram
  pub answers : (m : ℕ) → Answers (codes "compile") (λ options. AsksModulus options m)
      (answered (line 65536) written (λ (f : Formula). printed (λ text. text ≡ listing_of (program m f))))

-- `convolve --code`: one program for each request for convolutions, its tree and the first vector
pub record ConvolvesByOne : Type 0 where
  pub program : Request → Breakdown → List ℕ → PlainProgram
  pub answers : (schedule : Turns) →
      Answers (codes "convolve") (λ options. AsksSchedule options schedule × AsksCode options true)
      (answered (line 256) (conv_planned (named schedule))
      (λ (plan : Planned). mapped_by the_first plan.request.size plan.request.modulus
      (by_first (λ h later text. text ≡ listing_of (program plan.request plan.tree h)))))
