-- The theorem of the program, from the laws on the commands.
use Rattle.std.proofs.Common.{Bool, ◌≡◌, ◌<◌, ◌≤◌, ◌^◌, ◌∙◌, ℕ, List, [], ◌++◌, Ok, ap, codes, inr, length, refl, sym}
use Rattle.std.proofs.lemmas.List.Elements.{All-nil}
use Rattle.std.specs.declared.option.Option.{Option}
use Rattle.commands.specs.Emission.Whole.{emission}
use Rattle.commands.specs.Equations.Front.{line}
use Rattle.commands.specs.Equations.Orders.{Planned}
use Rattle.spl_ast.specs.Meaning.{IsVector}
use Rattle.commands.specs.Planned.{IsPlanned}
use Rattle.commands.specs.Input.Orders.{procs_in}
use Rattle.commands.proofs.GoodPrograms.{programs_are_good}
use Rattle.commands.proofs.ListingLemmas.OneExecution.{one_listing}
use Rattle.icode.proofs.BufferedRuns.{memory_of_buffered}
use Rattle.icode.proofs.FreshCodes.{fresh_ignores_leftovers, programs_have_factors}
use Rattle.icode.proofs.Lists.{code_is}
use Rattle.icode.proofs.Runs.{memory_of_runs}
use Rattle.icode.specs.Actions.{PlainFits, plain_code}
use Rattle.icode.specs.Buffers.{buffered_results}
use Rattle.icode.specs.Fresh.{IsFresh}
use Rattle.icode.specs.Limits.{IsWithinLimits}
use Rattle.icode.specs.Plain.{PlainProgram}
use Rattle.icode.specs.Machine.{IsApart, padded, results, words_at}
use Rattle.icode.specs.declared.event.Event.{Event}
use Rattle.io_edge.specs.Told.{Told}
use Rattle.listing_text.specs.Listing.{listing_of}
use Rattle.listing_text.specs.Texts.{is_listing}
use Rattle.matrix_meaning.specs.Asked.{asked_of}
use Rattle.matrix_meaning.specs.Valid.{IsInRange}
use Rattle.matrix_meaning.specs.declared.Request.{Request}
use Rattle.runs.specs.Stream.{lines}
use Rattle.spiral_words.specs.Statuses.Status.{IsDefined}
use Rattle.spiral_words.specs.declared.Command.TheVariants as command
use Rattle.spiral_words.specs.declared.Document.TheVariants as document
use Rattle.spiral_words.specs.declared.RequestCommand.TheVariants as request
use Rattle.spiral_words.specs.declared.statuses.status.Status.{Status}
use Rattle.spiral_words.specs.declared.statuses.status.Status.TheVariants.{Success}
use Rattle.spiral_main.specs.Outcome.{Accounts, AccountsFor, IsOutcome}
use Rattle.spiral_main.specs.RightFront.{IsRightLine, request_vectors}
use Rattle.spiral_main.specs.Theorem.{IsRightAnswer, IsRightProgram, IsRightRun, Leaves, Lists, OfWhatWasRead}
use Rattle.spiral_main.specs.Theorem.{TheProgramIsRight, Writes}
use Rattle.spiral_main.proofs.Accounts.{told_input, told_left}
use Rattle.spiral_main.proofs.RightFront.{data_are_right, right_success, text_is_right}
use Rattle.spiral_main.proofs.RightLines.{spelt_in_range}
use Rattle.tree_model.specs.Breakdown.{Breakdown}

-- what a program whose processors share no line leaves is what it leaves where no turn comes first
pub by_turns : (p : PlainProgram) → ((phase : ℕ) → IsApart (plain_code p) phase) → (x turns : List ℕ)
    → results (plain_code p) x turns ≡ results (plain_code p) x []
by_turns p apart x turns =
    let code = plain_code p in
    let in_order = memory_of_runs code (code_is p) apart in
    ap (λ (memory : List ℕ). words_at code.size memory (padded code)) (in_order x turns ∙ sym (in_order x []))

pub by_events : (p : PlainProgram) → ((phase : ℕ) → IsApart (plain_code p) phase) → (x : List ℕ) (events : List Event)
    → buffered_results (plain_code p) x events ≡ results (plain_code p) x []
by_events p apart x events =
    let code = plain_code p in
    ap (λ (memory : List ℕ). words_at code.size memory (padded code))
    (memory_of_buffered code (code_is p) apart x events ∙ sym (memory_of_runs code (code_is p) apart x []))

-- a program that fits, reads nothing that is left over and leaves what is asked where no turn comes first leaves it
-- whatever is around
pub leaves_asked : (IsInput : List ℕ → Type 0) (asked : List ℕ → List ℕ) (p : PlainProgram) → IsWithinLimits p
    → length p.tables ≤ 2 ^ 64 → PlainFits p → IsFresh (plain_code p) → ((phase : ℕ) → IsApart (plain_code p) phase)
    → ((x : List ℕ) → IsInput x → length x ≡ p.size)
    → ((x : List ℕ) → IsInput x → results (plain_code p) x [] ≡ asked x) → Leaves IsInput asked p
leaves_asked IsInput asked p limits few fits fresh apart long first =
    let code = plain_code p in
    let product : (x turns : List ℕ) → IsInput x → results code x turns ≡ asked x =
    λ x turns input. by_turns p apart x turns ∙ first x input
    in
    record {
      listed = (limits, few, refl);
      fits = fits;
      product = product;
      again = λ left x turns are input.
          fresh_ignores_leftovers code left (code_is p) (programs_have_factors p) fresh are x turns (long x input)
          ∙ product x turns input;
      fresh = fresh;
      buffered = λ x events input. by_events p apart x events ∙ first x input;
      apart = apart;
    }

-- the program of a planned tree is right
pub right_program : (r : Request) (t : Breakdown) → IsInRange r → IsPlanned r (Ok t) →
    IsRightProgram r t (emission r t)
right_program r t range planned =
    let program = emission r t in
    let known = programs_are_good r t range planned in
    let good = known.0 in
    record {
      header = good.header;
      leaves = leaves_asked (IsVector r.modulus r.size) (asked_of r) program known.2 known.3 good.fits good.fresh good.apart
          (λ x vector. vector.size ∙ sym good.header.size)
          (λ x vector. good.product x [] vector (All-nil (λ q. q < r.procs)));
      operations = good.operations;
      loads = known.1.loads;
      stores = known.1.stores;
      cheapest = planned.1.least;
    }

-- the listing of a program that has P is that of no other
pub lists : (P : PlainProgram → Type 0) (p : PlainProgram) → P p → is_listing (listing_of p) p → Lists P (listing_of p)
lists P p has own = record {
  program = p;
  right = has;
  listing = refl;
  only = λ other is. one_listing (listing_of p) other p is own;
}

lists_right : (names bytes : List ℕ) (plan : Planned) → IsRightLine names bytes plan
    → Lists (IsRightProgram plan.request plan.tree) (listing_of (emission plan.request plan.tree))
lists_right names bytes plan right =
    let range = spelt_in_range ((line 256).first bytes) plan.request right.spells in
    let own = right_program plan.request plan.tree range right.planned in
    lists (IsRightProgram plan.request plan.tree) (emission plan.request plan.tree) own own.leaves.listed

-- an outcome that is Success, with a text that has P
pub writes : (words : List (List ℕ)) (bytes left : List ℕ) (ended : Bool) (before after : Option (List ℕ))
    (status : Status)
    (P : List ℕ → Type 0) (text : List ℕ) → Accounts words bytes left ended before after status → IsDefined status
    → IsOutcome words bytes Success text → P text → Writes P before after status
writes words bytes left ended before after status P text accounts well own right =
    let found = right_success words bytes left ended before after status text own accounts well.read well.write well.memory in
    record { success = found.0; text = text; right = right; took = found.1 }

right_answer : (words : List (List ℕ)) (bytes left : List ℕ) (ended : Bool) (before after : Option (List ℕ))
    (status : Status)
    → Accounts words bytes left ended before after status → IsDefined status
    → IsRightAnswer words bytes before after status
right_answer words bytes left ended before after status accounts well = record {
  code = λ options plan found right.
      let text = listing_of (emission plan.request plan.tree) in
      writes words bytes left ended before after status
      (Lists (IsRightProgram plan.request plan.tree)) text accounts well
      (inr (
        command.ByRequest (request.Writes document.Code),
        (codes "code", options, found, refl),
        text_is_right [] bytes (λ p. listing_of (emission p.request p.tree)) plan right,
      ))
      (lists_right [] bytes plan right);
  run = λ options order plan found ordered right vectors.
      let text = lines (asked_of plan.request) (request_vectors plan bytes) in
      writes words bytes left ended before after status (λ t. t ≡ text) text accounts well
      (inr (
        command.ByRequest (request.Runs order),
        (codes "run", options, found, (refl, ordered)),
        data_are_right (procs_in order) bytes (λ p vs. lines (asked_of p.request) vs) plan right vectors,
      ))
      refl;
}

pub program_is_right : TheProgramIsRight
program_is_right words bytes input input' before after status tells told well =
    let rest = told_input words bytes input input' before after status tells told in
    right_answer words bytes rest.0 input'.ended before after status rest.2 well

-- what was read of any input has what the bytes of every told one have
pub what_was_read : (P : List ℕ → Type 0) (words : List (List ℕ)) (input input' : Told)
    (before after : Option (List ℕ)) (status : Status) → AccountsFor words input input' before after status
    → ((bytes left : List ℕ) → Accounts words bytes left input'.ended before after status → P bytes)
    → OfWhatWasRead P input input'
what_was_read P words input input' before after status told has =
    let read : List ℕ = told.used ++ told.held in
    record {
      read = read;
      gave = told.gave;
      right = λ left tells.
          has (read ++ left) left (told_left words input input' before after status told left tells);
    }

pub any_run_is_right : (words : List (List ℕ)) (input input' : Told) (before after : Option (List ℕ)) (status : Status)
    → AccountsFor words input input' before after status → IsDefined status
    → IsRightRun words input input' before after status
any_run_is_right words input input' before after status told well =
    what_was_read (λ bytes. IsRightAnswer words bytes before after status) words input input' before after status told
    (λ bytes left accounts. right_answer words bytes left input'.ended before after status accounts well)
