-- What a run of a program over the data comes to.
use Rattle.std.proofs.Common.{◌≡◌, ◌≢◌, ◌<◌, ◌≤◌, ◌-◌, ℕ, Bool, true, false, List, [], ◌++◌, None, Some, Err, Result}
use Rattle.std.proofs.Common.{length, refl, sym, ap, subst, ◌∙◌, arith, append-nil, nat_lt, inl, inr, take}
use Rattle.std.specs.declared.option.Option.{Option}
use Rattle.std.specs.Io.KnownBytes.{Appends}
use Rattle.io_edge.specs.Told.{Coming}
use Rattle.buffer_machine.specs.Listed as listed
use Rattle.buffer_machine.specs.declared.Events.{Events}
use Rattle.buffer_machine.specs.declared.Events.TheVariants as events
use Rattle.data_stream.specs.Data.{tokens, closed_part}
use Rattle.icode.specs.Buffers.{Buffered, buffered_runs}
use Rattle.icode.specs.Machine.{Code, State, runs}
use Rattle.icode.specs.Program.{code_of}
use Rattle.icode.specs.declared.program.Program.{Program}
use Rattle.io_edge.specs.Feed.{Fed, limit}
use Rattle.io_edge.specs.Taken.{AppendsPrefix}
use Rattle.schedules.specs.Schedule.{Plan}
use Rattle.schedules.specs.Turns.{turns_of}
use Rattle.runs.proofs.CutLemmas.{vectors_ahead}
use Rattle.runs.proofs.StreamLemmas.{vectors_few}
use Rattle.runs.specs.Stream.{Streams, bad_after, good_front, texts, vectors_of, vectors_seen}
use Rattle.runs.specs.Texts.{buffered_text, run_text}
use Rattle.runs.specs.declared.stream.StreamFault.{StreamFault}
use Rattle.runs.specs.declared.stream.StreamFault.TheVariants as stream
use Rattle.spiral_words.specs.Statuses.Fault.{status_of_stream}
use Rattle.spiral_words.specs.declared.Order.{Order}
use Rattle.spiral_words.specs.declared.Order.TheVariants as order
use Rattle.spiral_words.specs.declared.statuses.status.Status.TheVariants.{WriteFault}
use Rattle.commands.specs.Equations.Front.{Work}
use Rattle.commands.specs.Equations.Works.{StopsAtLast, all, mapping}
use Rattle.commands.specs.OrderText.{order_of, order_text}
use Rattle.commands.specs.Prepared.{stream_text, stream_work}
use Rattle.commands.specs.Input.Outcomes.{SourceMeets}
use Rattle.commands.specs.declared.streams.Prepared.{Prepared}
use Rattle.commands.proofs.Inputs.DataLemmas.{streams_told}
use Rattle.commands.proofs.Inputs.OutcomeLemmas.{all_few, cut_meets, unread_meets}
use Rattle.commands.proofs.Inputs.Within.{Within}

-- The front is not written whole

pub front_cut : (made : Prepared) (way : Order) (room : ℕ) (before : Coming) (out out' : Option (List ℕ))
    → AppendsPrefix out out' made.front.items
    → SourceMeets (stream_work made way room) before before out out' WriteFault
front_cut made way room before out out' wrote =
    let some : 0 < made.program.size = omega (arith, made.program.header.of_size.0) in
    let size = made.program.size in
    let modulus = made.program.modulus in
    let none : vectors_of size modulus [] ≡ [] = vectors_few size modulus [] some in
    let alone : made.front.items ≡ stream_text made way (vectors_of size modulus []) =
    sym (ap (stream_text made way) none ∙ append-nil made.front.items) in
    unread_meets (stream_work made way room) before out out' WriteFault (λ bytes.
    cut_meets (stream_work made way room) [] bytes before.told.ended made.front.items out out' wrote
    (record { few = omega arith; good = refl }, inl refl, alone, inl refl))

-- The machines

-- the work of a program with this code
abbrev work_by : List ℕ → Code → (Code → List ℕ → List ℕ) → Work
work_by front code text = mapping all code.size code.modulus (λ vectors t. t ≡ front ++ texts (text code) vectors)

-- a stream of the program's code
of_code : (front : List ℕ) (code : Code) (program : Program) (text : Code → List ℕ → List ℕ) (room : ℕ)
    (before after : Coming) (start out' : Option (List ℕ))
    (result : Result (Unit {0}) StreamFault)
    → code ≡ code_of program
    → SourceMeets (work_by front code text room) before after start out' (status_of_stream result)
    → SourceMeets (work_by front (code_of program) text room) before after start out' (status_of_stream result)
of_code front code program text room before after start out' result same p =
    subst (λ (k : Code). SourceMeets (work_by front k text room) before after start out' (status_of_stream result)) same p

-- a program's code has a size
code_has_size : (code : Code) (program : Program) → code ≡ code_of program → 0 < code.size
code_has_size code program same =
    let size : code.size ≡ program.size = ap (λ (k : Code). k.size) same in
    omega (arith, size, program.header.of_size.0)

pub turns_told : (made : Prepared) (schedule : Plan) (code : Code) (old new : Fed)
    (before after : Coming) (start out out' : Option (List ℕ)) (first last : State)
    (result : Result (Unit {0}) StreamFault)
    → code ≡ code_of made.program → Appends start out made.front.items → old.taken ≤ limit →
    (result ≢ Err stream.TooLong → new.taken ≤ limit)
    → Streams (run_text made.lines code (turns_of schedule code.procs))
    (λ x. runs code x (turns_of schedule code.procs)) code.size code.modulus
    old new before after out out' first last result
    → SourceMeets (stream_work made (order.Turns schedule) (limit - old.taken)) before after start out'
    (status_of_stream result)
turns_told made schedule code old new before after start out out' first last result same begun within ends s =
    of_code made.front.items code made.program (λ (k : Code). run_text made.lines k (turns_of schedule k.procs)) (limit - old.taken) before after start out' result same
    (streams_told (λ vectors t. t ≡ made.front.items ++ texts (run_text made.lines code (turns_of schedule code.procs)) vectors) code.size code.modulus made.front.items
    (run_text made.lines code (turns_of schedule code.procs)) (λ x. runs code x (turns_of schedule code.procs)) old new before after start out out' first last result
    (λ ts. refl) (code_has_size code made.program same) begun within ends s)

events_text : (asked : Bool) (word : Events) (procs : ℕ) (code : Code) →
    buffered_text asked code (listed.events_of word procs) ≡ order_text asked (order_of word) procs code
events_text asked (events.Turns schedule) procs code = refl
events_text asked (events.Mixed mix) procs code = refl

pub events_told : (made : Prepared) (word : Events) (code : Code) (old new : Fed)
    (before after : Coming) (start out out' : Option (List ℕ)) (first last : Buffered)
    (result : Result (Unit {0}) StreamFault)
    → code ≡ code_of made.program → Appends start out made.front.items → old.taken ≤ limit →
    (result ≢ Err stream.TooLong → new.taken ≤ limit)
    → Streams (buffered_text made.lines code (listed.events_of word code.procs))
    (λ x. buffered_runs code x (listed.events_of word code.procs)) code.size code.modulus
    old new before after out out' first last result
    → SourceMeets (stream_work made (order_of word) (limit - old.taken)) before after start out'
    (status_of_stream result)
events_told made word code old new before after start out out' first last result same begun within ends s =
    let text : List ℕ → List ℕ = buffered_text made.lines code (listed.events_of word code.procs) in
    of_code made.front.items code made.program (λ (k : Code). order_text made.lines (order_of word) k.procs k) (limit - old.taken) before after start out' result same
    (streams_told (λ vectors t. t ≡ made.front.items ++ texts (order_text made.lines (order_of word) code.procs code) vectors) code.size code.modulus made.front.items
    text (λ x. buffered_runs code x (listed.events_of word code.procs)) old new before after start out out' first last result
    (λ ts. ap (λ (f : List ℕ → List ℕ). made.front.items ++ texts f (vectors_of code.size code.modulus ts)) (events_text made.lines word code.procs code))
    (code_has_size code made.program same) begun within ends s)

-- Other texts of the same vectors

-- the vectors of data are whole vectors of some tokens
vectors_made : (size modulus : ℕ) (over : Bool) (bad : Option ℕ) (seen : List ℕ) →
    (ts : List (List ℕ)) × (vectors_of size modulus ts ≡ vectors_seen size modulus over bad seen)
vectors_made size modulus over (Some token) seen = (good_front (tokens seen), refl)
vectors_made size modulus true None seen = (tokens (closed_part seen), refl)
vectors_made size modulus false None seen = (tokens seen, refl)

stops_within : (size modulus : ℕ) (P Q : List (List ℕ) → List ℕ → Type 0) → 0 < size
    → ((ts : List (List ℕ)) (t : List ℕ) → P (vectors_of size modulus ts) t → Q (vectors_of size modulus ts) t)
    → (read taken : List ℕ) → StopsAtLast size P read (vectors_of size modulus (tokens read)) taken
    → StopsAtLast size Q read (vectors_of size modulus (tokens read)) taken
stops_within size modulus P Q some each read taken (inl none) = inl none
stops_within size modulus P Q some each read taken (inr (whole, h)) =
    let us = vectors_ahead size modulus (tokens read) h.ahead h.last some h.whole in
    inr (
      whole,
      record {
        ahead = h.ahead;
        last = h.last;
        whole = h.whole;
        text = h.text;
        right = subst (λ (v : List (List ℕ)). P v h.text → Q v h.text) us.1 (each us.0 h.text) h.right;
        rest = h.rest;
        begins = h.begins;
      },
    )

-- a text for whole vectors is another one for them
pub mapping_within : (size modulus : ℕ) (P Q : List (List ℕ) → List ℕ → Type 0) (room : ℕ) → 0 < size
    → ((ts : List (List ℕ)) (t : List ℕ) → P (vectors_of size modulus ts) t → Q (vectors_of size modulus ts) t)
    → Within (mapping all size modulus P room) (mapping all size modulus Q room)
mapping_within size modulus P Q room some each = record {
  most = all_few room;
  answer = λ bytes s t p.
      let made = vectors_made size modulus (nat_lt room (length bytes)) (bad_after 0 (tokens (take room bytes))) (take room bytes) in
      (p.0, subst (λ (v : List (List ℕ)). P v t → Q v t) made.1 (each made.0 t) p.1);
  broken = λ read ended t p. (p.0, p.1, each (tokens (closed_part read)) t p.2);
  cut = λ read left t taken p.
      (p.0, p.1, each (tokens read) t p.2, stops_within size modulus P Q some each read taken p.3);
}
