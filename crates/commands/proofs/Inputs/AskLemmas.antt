-- From the first line to a request.
use Rattle.std.proofs.Common.{◌≡◌, ◌≢◌, ◌≤◌, ℕ, List, take, None, Some, Ok, Err, length, length-take, sym, ap}
use Rattle.std.proofs.Common.{arith, inl, inr}
use Rattle.io_edge.specs.Told.{Coming, Consumes, IsOver}
use Rattle.io_edge.specs.Feed.{limit}
use Rattle.matrix_meaning.specs.declared.Request.{Request}
use Rattle.request_text.specs.declared.RequestFault.{RequestFault}
use Rattle.request_text.specs.declared.RequestFault.TheVariants as request
use Rattle.io_edge.specs.declared.FeedFault.{FeedFault}
use Rattle.io_edge.specs.declared.FeedFault.TheVariants as feed
use Rattle.spiral_words.proofs.OneCommand.{asked_once}
use Rattle.spiral_words.specs.Asked.{IsAsked}
use Rattle.spiral_words.specs.declared.Command.{Command}
use Rattle.spiral_words.specs.declared.statuses.status.Status.TheVariants.{Turn, ReadFault}
use Rattle.spiral_words.specs.Statuses.Fault.{status_of_line, status_of_request}
use Rattle.commands.specs.Input.Asking.{Asks}
use Rattle.commands.specs.Input.Commands.{reads_rest, first_stranger, admitted}
use Rattle.commands.specs.Input.Line.{IsWhole, GivesLine}
use Rattle.commands.specs.Input.Stage.{Stage, ◌>>=◌}
use Rattle.commands.specs.Equations.Front.{line}
use Rattle.commands.specs.Equations.Orders.{turned}
use Rattle.commands.proofs.Inputs.FrontLemmas.{asks_read_fault, asks_too_long, asks_refused, asks_value}

-- the first line can't be read
pub asked_line_fault : {A : Type 0} (orders : List ℕ → Stage A) (before after : Coming) (taken : ℕ)
    (read buffer : List ℕ) (ended : Type 0) (fault : FeedFault)
    → Consumes before after read → GivesLine read ended taken buffer (Err fault) →
    Asks (line 256) orders before after taken (Err (status_of_line fault))
asked_line_fault orders before after taken read buffer ended feed.ReadFault consumed given =
    let short : length read ≤ 256 = given.short in
    asks_read_fault (line 256) orders before after taken read consumed (omega (arith, short)) given
asked_line_fault orders before after taken read buffer ended feed.TooLong consumed given =
    asks_too_long (line 256) orders before after taken read consumed (omega (arith, given.0)) given.1

-- the first line is what was put into the buffer
line_given : (read buffer : List ℕ) (ended : Type 0) (taken count : ℕ) → GivesLine read ended taken buffer (Ok count)
    → IsWhole (line 256) read ended (take count buffer) × (length (take count buffer) ≤ 256) × (length read ≤ limit)
line_given read buffer ended taken count given = (
  given.3,
  let most = length-take count buffer in let short = given.1 in omega (arith, most, short),
  omega (arith, given.0, given.1, given.2),
)

request_fault_other : (fault : RequestFault) → status_of_request fault ≢ ReadFault
request_fault_other (request.Syntax at) = λ e. cc
request_fault_other fault = λ e. cc

-- the line spells no request that can be served
pub asked_request_fault : (spells : List ℕ → Stage Request) (names : List ℕ) (before after : Coming)
    (taken : ℕ) (read buffer : List ℕ) (count : ℕ) (fault : RequestFault)
    → Consumes before after read → GivesLine read (IsOver after) taken buffer (Ok count)
    → spells (take count buffer) (Err (status_of_request fault))
    → Asks (line 256) (λ text. spells text >>= turned names) before after taken (Err (status_of_request fault))
asked_request_fault spells names before after taken read buffer count fault consumed given answer =
    let whole = line_given read buffer (IsOver after) taken count given in
    asks_refused (line 256) (λ text. spells text >>= turned names) before after taken read (take count buffer)
    (status_of_request fault) consumed whole.2 whole.0 whole.1 (λ _. inl answer) (request_fault_other fault)

-- a turn is of a processor that is not there
pub asked_turn_fault : (spells : List ℕ → Stage Request) (names : List ℕ) (before after : Coming) (taken : ℕ)
    (read buffer : List ℕ) (count : ℕ) (wanted : Request) (q : ℕ)
    → Consumes before after read → GivesLine read (IsOver after) taken buffer (Ok count)
    → spells (take count buffer) (Ok wanted) → first_stranger names wanted.procs ≡ Some q
    → Asks (line 256) (λ text. spells text >>= turned names) before after taken (Err (Turn q wanted.procs))
asked_turn_fault spells names before after taken read buffer count wanted q consumed given answer found =
    let whole = line_given read buffer (IsOver after) taken count given in
    asks_refused (line 256) (λ text. spells text >>= turned names) before after taken read (take count buffer)
    (Turn q wanted.procs) consumed whole.2 whole.0 whole.1
    (λ _. inr (record { value = wanted; before = answer; behind = sym (ap (λ o. admitted o wanted.procs wanted) found) })) (λ e. cc)

-- the request
pub asked_request : (spells : List ℕ → Stage Request) (names : List ℕ) (before after : Coming) (taken : ℕ)
    (read buffer : List ℕ) (count : ℕ) (wanted : Request)
    → Consumes before after read → GivesLine read (IsOver after) taken buffer (Ok count)
    → spells (take count buffer) (Ok wanted) → first_stranger names wanted.procs ≡ None
    → Asks (line 256) (λ text. spells text >>= turned names) before after taken (Ok wanted)
asked_request spells names before after taken read buffer count wanted consumed given answer none =
    let whole = line_given read buffer (IsOver after) taken count given in
    asks_value (line 256) (λ text. spells text >>= turned names) before after taken read (take count buffer) wanted
    consumed whole.2 given.0 whole.0 whole.1
    (record { value = wanted; before = answer; behind = sym (ap (λ o. admitted o wanted.procs wanted) none) })

-- words ask for one command, so they tell whether the input is read to its end
pub reads_same : (words : List (List ℕ)) (a b : Command) → IsAsked words a → IsAsked words b →
    reads_rest a ≡ reads_rest b
reads_same words a b asked other = ap reads_rest (asked_once words a b asked other)
