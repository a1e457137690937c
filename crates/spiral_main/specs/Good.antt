-- What is right for the commands that write a program where its statements are forgotten.
use Rattle.std.specs.Prelude.{◌≡◌, ◌++◌, ℕ, true, List, [], codes}
use Rattle.commands.specs.Convolutions.Convolver.{IsConvolver}
use Rattle.commands.specs.Equations.Front.{line, room_behind}
use Rattle.commands.specs.Equations.Orders.{Planned}
use Rattle.commands.specs.Equations.Works.{by_first}
use Rattle.commands.specs.Good.{IsGood}
use Rattle.commands.specs.Lean.{IsLean}
use Rattle.commands.specs.OrderText.{order_text}
use Rattle.commands.specs.Input.Orders.{procs_in}
use Rattle.icode.specs.Actions.{plain_code}
use Rattle.icode.specs.Limits.{IsWithinLimits}
use Rattle.icode.specs.Plain.{PlainProgram}
use Rattle.listing_text.specs.Listing.{listing_of}
use Rattle.runs.specs.Stream.{data_vectors, texts}
use Rattle.spiral_main.specs.Outcome.{IsOutcome}
use Rattle.spiral_main.specs.RightFront.{IsRightLine}
use Rattle.spiral_words.specs.Asked.{AsksOrder}
use Rattle.spiral_words.specs.CommandLine.{Names, Options}
use Rattle.spiral_words.specs.declared.Order.{Order}
use Rattle.spiral_words.specs.declared.statuses.status.Status.{Status}
use Rattle.tree_model.specs.Chosen.{whole_cost}

-- the text is what is printed of a program that has P
abbrev pub Shows : (PlainProgram → List ℕ) → (PlainProgram → Type 0) → List ℕ → Type 0
Shows printed P text = (program : PlainProgram) × P program × (text ≡ printed program)

-- good for the request, at the cost of the tree
abbrev pub IsGoodFor : Planned → PlainProgram → Type 0
IsGoodFor plan program = IsGood plan.request (whole_cost plan.request plan.tree) program

-- it executes, loads and stores exactly what the tree does, pass by pass, and stands within the limits of listings
abbrev pub IsLeanFor : Planned → PlainProgram → Type 0
IsLeanFor plan program = IsGoodFor plan program × IsLean plan.request plan.tree program × IsWithinLimits program

-- for a right line the command of this name prints a program that has P
abbrev pub Prints : List ℕ → (PlainProgram → List ℕ) → (Planned → PlainProgram → Type 0) → Type 0
Prints name printed P =
    (words : List (List ℕ)) (options : Options) (bytes : List ℕ) (status : Status) (text : List ℕ) (plan : Planned) →
    Names words name options → IsRightLine [] bytes plan → IsOutcome words bytes status text →
    Shows printed (P plan) text

-- the vectors of the data after a request's line
abbrev pub vectors_read : Planned → List ℕ → List (List ℕ)
vectors_read plan bytes =
    data_vectors plan.request.size plan.request.modulus (room_behind (line 256) bytes) ((line 256).behind bytes)

-- the listing, and for each of these vectors the lines of its run in the order and of its results
abbrev pub trace_of : Order → Planned → List (List ℕ) → PlainProgram → List ℕ
trace_of order plan vectors program =
    listing_of program ++ texts (order_text true order plan.request.procs (plain_code program)) vectors

-- for a right line `trace` prints a program that has P, and what it does with the vectors
abbrev pub Traces : (Planned → PlainProgram → Type 0) → Type 0
Traces P =
    (order : Order) (words : List (List ℕ)) (options : Options) (bytes : List ℕ) (status : Status) (text : List ℕ)
    (plan : Planned) → Names words (codes "trace") options → AsksOrder options order →
    IsRightLine (procs_in order) bytes plan → IsOutcome words bytes status text →
    Shows (trace_of order plan (vectors_read plan bytes)) (P plan) text

-- the listing of a program that convolves with the first of these vectors
abbrev pub ShowsConvolver : Planned → List (List ℕ) → List ℕ → Type 0
ShowsConvolver plan vectors text =
    by_first (λ h later t. Shows listing_of (IsConvolver plan.request plan.tree h) t) vectors text
