-- The theorem of the program, on one page: for a right request `code` prints a right program, and `run` writes the
-- matrix times each vector.
--
-- These words are defined elsewhere, each in few lines:
--   Names, AsksOrder        what clap finds in the words: a command, its options, and the order of turns for `run`
--   IsRightLine             the first line of the input spells a request; roots are right, and processors that the words
--                           name are there; the tree is the first of the request's cheapest, and within its budget
--   HasWholeVectors         whole vectors of numbers stand behind that line; request_vectors are these
--   asked_of r x            the matrix that r asks for, times x; IsVector m n x: x is n residues modulo m
--   plain_code p            what a machine runs for p: for each phase and processor a list of actions
--   results code x turns    what is left in Y for x, where all else begins at 0, and processors act in the order of these turns
--                           and then finish
--   buffered_results        the same where what a processor stores waits in its own queue, by turns and drains
--   results_among code left x turns    as results, but Y, A, B, the rest of X, and the registers where each phase begins hold
--                           what is left over; AreLeftovers code left: it is as many words and registers, of any values
--   IsFresh code            each word that an action loads is of the input, or stored before; each register that it reads was
--                           put before by the same processor in the same phase; and each word of Y is stored
--   whole_counts code q     how many operations, loads and stores processor q executes
--   whole_cost, whole_loads, whole_stores    the same of a tree, by its nodes
--   listing_of p            the listing of p; is_listing text p: the text is that, and p is within the limits of listings
--   AccountsFor             what the clause `told` of `spiral_run` says of words, input, output and status
--   IsDefined status        no read or write failed, and memory did not run out
--   Appends before after t  the output held `before`, took the bytes t, and holds `after`
--   Gives before after bs   the input stood at `before`, gave the bytes bs in the call, and stands at `after`
use Rattle.std.specs.Prelude.{◌≡◌, ℕ, ◌*◌, ◌<◌, ◌≤◌, List, [], ◌++◌, Some, codes}
use Rattle.std.specs.declared.option.Option.{Option}
use Rattle.std.specs.Io.KnownBytes.{Appends}
use Rattle.commands.specs.Equations.Front.{line}
use Rattle.commands.specs.Equations.Orders.{Planned}
use Rattle.commands.specs.Good.{HasHeader}
use Rattle.spl_ast.specs.Meaning.{IsVector}
use Rattle.commands.specs.Input.Orders.{procs_in}
use Rattle.icode.specs.Actions.{PlainFits, plain_code}
use Rattle.icode.specs.Buffers.{buffered_results}
use Rattle.icode.specs.Fresh.{IsFresh}
use Rattle.icode.specs.Leftovers.{AreLeftovers, Leftovers, results_among}
use Rattle.icode.specs.Machine.{IsApart, results, weighted, whole_counts}
use Rattle.icode.specs.Plain.{PlainProgram}
use Rattle.icode.specs.declared.action.Counts.{Counts}
use Rattle.icode.specs.declared.event.Event.{Event}
use Rattle.io_edge.specs.Told.{Gives, Tells, Told, rest_of}
use Rattle.listing_text.specs.Listing.{listing_of}
use Rattle.listing_text.specs.Texts.{is_listing}
use Rattle.matrix_meaning.specs.Asked.{asked_of}
use Rattle.matrix_meaning.specs.declared.Request.{Request}
use Rattle.runs.specs.Stream.{lines}
use Rattle.spiral_main.specs.Outcome.{AccountsFor}
use Rattle.spiral_main.specs.RightFront.{HasWholeVectors, IsRightLine, request_vectors}
use Rattle.spiral_words.specs.Asked.{AsksOrder}
use Rattle.spiral_words.specs.CommandLine.{Names, Options}
use Rattle.spiral_words.specs.Statuses.Status.{IsDefined}
use Rattle.spiral_words.specs.declared.Order.{Order}
use Rattle.spiral_words.specs.declared.statuses.status.Status.{Status}
use Rattle.spiral_words.specs.declared.statuses.status.Status.TheVariants.{Success}
use Rattle.tree_model.specs.Breakdown.{Breakdown}
use Rattle.tree_model.specs.Chosen.{IsWholeTree, whole_cost}
use Rattle.tree_model.specs.WholePasses.{whole_loads, whole_stores}

-- what each processor executes, counted so, is the same part of the whole
abbrev pub AreEqualShares : Request → PlainProgram → (Counts → ℕ) → ℕ → Type 0
AreEqualShares r p count whole = (q : ℕ) → q < r.procs → r.procs * count (whole_counts (plain_code p) q) ≡ whole

-- Of each input p leaves what is asked of it, whatever is around
pub record Leaves (IsInput : List ℕ → Type 0) (asked : List ℕ → List ℕ) (p : PlainProgram) : Type 0 where
  -- it has a listing that can be read, since it stands within the limits of listings
  pub listed : is_listing (listing_of p) p
  -- each place, register and factor that it names is there, and no number on the way to a place is too great
  pub fits : PlainFits p
  -- it leaves what is asked of x, whatever turns the processors take
  pub product : (x turns : List ℕ) → IsInput x → results (plain_code p) x turns ≡ asked x
  -- also among anything that earlier runs have left: in Y, A, B, the rest of X, and the registers where each phase begins
  pub again : (left : Leftovers) (x turns : List ℕ) → AreLeftovers (plain_code p) left → IsInput x →
      results_among (plain_code p) left x turns ≡ asked x
  -- it reads nothing of that, and stores each word of Y
  pub fresh : IsFresh (plain_code p)
  -- also where stores wait in buffers, whatever turns and drains there are
  pub buffered : (x : List ℕ) (events : List Event) → IsInput x → buffered_results (plain_code p) x events ≡ asked x
  -- in no phase does a processor touch a cache line that another one writes
  pub apart : (phase : ℕ) → IsApart (plain_code p) phase

-- p is right for the request r, and does no more than its tree t
pub record IsRightProgram (r : Request) (t : Breakdown) (p : PlainProgram) : Type 0 where
  -- it is for the size, modulus, processors, cache lines and lanes of the request
  pub header : HasHeader r p
  -- it leaves the matrix times the vector
  pub leaves : Leaves (IsVector r.modulus r.size) (asked_of r) p
  -- operations, where a multiplication counts as the request's weight, loads and stores are those of the tree
  pub operations : AreEqualShares r p (weighted r.weight) (whole_cost r t)
  pub loads : AreEqualShares r p (λ c. c.loads) (whole_loads r t)
  pub stores : AreEqualShares r p (λ c. c.stores) (whole_stores r t)
  -- and no tree of the request costs less
  pub cheapest : (u : Breakdown) → IsWholeTree r u → whole_cost r t ≤ whole_cost r u

-- the text is the listing of a program that has P, and of no other
pub record Lists (P : PlainProgram → Type 0) (text : List ℕ) : Type 0 where
  pub program : PlainProgram
  pub right : P program
  pub listing : text ≡ listing_of program
  pub only : (other : PlainProgram) → is_listing text other → other ≡ program

-- the call succeeds, and its output takes a text that has P
pub record Writes (P : List ℕ → Type 0) (before after : Option (List ℕ)) (status : Status) : Type 0 where
  pub success : status ≡ Success
  pub text : List ℕ
  pub right : P text
  pub took : Appends before after text

-- what is right for a call with these words and these bytes of input
pub record IsRightAnswer (words : List (List ℕ)) (bytes : List ℕ) (before after : Option (List ℕ))
    (status : Status) : Type 0 where
  -- `spiral code`: the listing of a right program
  pub code : (options : Options) (plan : Planned) → Names words (codes "code") options → IsRightLine [] bytes plan →
      Writes (Lists (IsRightProgram plan.request plan.tree)) before after status
  -- `spiral run`: a line for each vector, of the matrix times it
  pub run : (options : Options) (order : Order) (plan : Planned) → Names words (codes "run") options →
      AsksOrder options order → IsRightLine (procs_in order) bytes plan →
      HasWholeVectors (line 256) plan.request.size bytes →
      Writes (λ text. text ≡ lines (asked_of plan.request) (request_vectors plan bytes)) before after status

-- whatever `spiral_run` does with an input that tells its bytes is right, unless a read or a write fails or memory
-- runs out
abbrev pub TheProgramIsRight : Type 0
TheProgramIsRight =
    (words : List (List ℕ)) (bytes : List ℕ) (input input' : Told) (before after : Option (List ℕ)) (status : Status) →
    rest_of input ≡ Some bytes → AccountsFor words input input' before after status → IsDefined status →
    IsRightAnswer words bytes before after status

-- any input gave these bytes, and with all that it may have left they have P. One that does not tell its bytes may have
-- any left
pub record OfWhatWasRead (P : List ℕ → Type 0) (input input' : Told) : Type 0 where
  pub read : List ℕ
  pub gave : Gives input input' read
  pub right : (left : List ℕ) → Tells (rest_of input') left → P (read ++ left)

-- what is right for a call of any input
abbrev pub IsRightRun : List (List ℕ) → (input input' : Told) (before after : Option (List ℕ)) → Status → Type 0
IsRightRun words input input' before after status =
    OfWhatWasRead (λ bytes. IsRightAnswer words bytes before after status) input input'
