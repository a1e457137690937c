-- Vectors that go on after others.
use Rattle.std.proofs.Common.{◌≡◌, ◌<◌, ◌≤◌, ◌+◌, ◌≢◌, ◌-◌, ℕ, suc, zero, Bool, true, false, List, [], ◌∷◌, ◌++◌, None}
use Rattle.std.proofs.Common.{Some, Ok, Err, Result, length, take, cond, nat_lt, refl, sym, ap, subst, ◌∙◌, arith}
use Rattle.std.proofs.Common.{append-nil}
use Rattle.std.proofs.lemmas.Grind.{common_steps}
use Rattle.std.specs.List.{list_all}
use Rattle.std.specs.declared.option.Option.{Option}
use Rattle.io_edge.specs.Told.{Coming, Consumes, IsOver}
use Rattle.io_edge.specs.Feed.{Fed, limit}
use Rattle.data_stream.specs.Data.{tokens, closed_part, is_good}
use Rattle.data_stream.specs.Reading.{GivesVector}
use Rattle.data_stream.specs.Vectors.{Cut, IsReady}
use Rattle.data_stream.specs.declared.vectors.Next.TheVariants.{Vector, End}
use Rattle.data_stream.specs.declared.DataFault.{DataFault}
use Rattle.data_stream.specs.declared.DataFault.TheVariants as data_fault
use Rattle.data_stream.proofs.TokenLemmas.{both_left, both_right}
use Rattle.data_stream.proofs.TokensLemmas.{not_ended}
use Rattle.data_stream.proofs.VectorLemmas.{closed_after}
use Rattle.runs.specs.Progress.{StreamProgress, HasCome, ReadsData, StreamsBehind}
use Rattle.runs.specs.Stream.{Reads, vectors_of, good_front, bad_after, vectors_seen, data_vectors, Streams}
use Rattle.runs.specs.StreamFault.{stream_fault}
use Rattle.runs.specs.declared.stream.StreamFault.{StreamFault}
use Rattle.runs.specs.declared.stream.StreamFault.TheVariants.{TooLong, WriteFault}
use Rattle.runs.proofs.StreamLemmas.{Once, no_stream, stream_push, stream_end, stream_fault_at, stream_unwritten}
use Rattle.runs.proofs.StreamLemmas.{failed_next, failed_stream}
use Rattle.runs.proofs.StreamLemmas.{answered_with, fault_within, seen_front, state_behind-of}
use Rattle.runs.proofs.CutLemmas.{writes_same}

-- nothing was read yet
pub come_none : (modulus size : ℕ) (cut : Cut) (feed : Fed) (a : Coming)
    → cut ≡ record { size = size; done = 0; ended = false } → HasCome modulus cut feed feed a a []
come_none modulus size cut feed a new = record {
  progress = subst (λ (v : Cut). StreamProgress a a feed.taken feed.taken v.ended v.size modulus v.done []) (sym new) (no_stream a feed.taken false size modulus);
  begun = λ _. refl;
}

-- as the reader of vectors is then
pub ready_none : {size : ℕ} {cut : Cut} (feed : Fed) (left : Coming) →
    cut ≡ record { size = size; done = 0; ended = false } → IsReady cut feed left
ready_none feed left new =
    subst (λ (v : Cut). IsReady v feed left) (sym new)
    (record {
      few = omega arith;
      counted = omega arith;
      within = λ e. absurd (not_ended false refl e);
      end = λ e. absurd (not_ended false refl e);
    })

-- a vector more
pub come_push : (modulus : ℕ) (cut next : Cut) (old now new : Fed) (a b c : Coming) (seen : List (List ℕ))
    (read vector : List ℕ)
    → 0 < cut.size → next.size ≡ cut.size → next.done ≡ cut.done + cut.size → new.taken ≤ limit → Consumes b c read →
    Once cut.ended next.ended read
    → GivesVector cut.size modulus cut.done now new read next.ended vector (Ok Vector) →
    HasCome modulus cut old now a b seen
    → HasCome modulus next old new a c (seen ++ vector ∷ [])
come_push modulus cut next old now new a b c seen read vector some size done within r once given h =
    let pushed = stream_push a b c old.taken now new cut.ended next.ended cut.size modulus cut.done seen read vector some h.progress r once given in
    record {
      progress = subst (λ n. StreamProgress a c old.taken new.taken next.ended n modulus next.done (seen ++ vector ∷ [])) (sym size)
          (subst (λ d. StreamProgress a c old.taken new.taken next.ended cut.size modulus d (seen ++ vector ∷ [])) (sym done) pushed);
      begun = λ over. absurd (omega (arith, over, within));
    }

-- what was read is an answer to all data
pub reads_data : (size modulus : ℕ) (old new : Fed) (before after : Coming) (vectors : List (List ℕ))
    (result : Result (Unit {0}) StreamFault) (read : List ℕ)
    → Consumes before after read × Reads size modulus old new read (IsOver after) vectors result →
    (result ≢ Err TooLong → new.taken ≤ limit)
    → ReadsData size modulus old new before after vectors result
reads_data size modulus old new before after vectors result read s within = record {
  read = read;
  consumed = s.0;
  answer = s.1;
  answers = λ start. answered_with size modulus old new read (IsOver after) vectors result s.1 start within;
}

-- the data end
pub come_end : (modulus : ℕ) (cut : Cut) (ended : Bool) (old now new : Fed) (a b c : Coming)
    (seen : List (List ℕ)) (read vector : List ℕ)
    → 0 < cut.size → new.taken ≤ limit → Consumes b c read → Once cut.ended ended read →
    GivesVector cut.size modulus cut.done now new read ended vector (Ok End) → (ended ≡ true → IsOver c)
    → HasCome modulus cut old now a b seen → ReadsData cut.size modulus old new a c seen (Ok tt)
come_end modulus cut ended old now new a b c seen read vector some within r once given end h =
    reads_data cut.size modulus old new a c seen (Ok tt) (h.progress.bytes ++ read)
    (stream_end a b c old now new cut.ended ended cut.size modulus cut.done seen (IsOver c) read vector some h.progress r once given end) (λ _. within)

-- or are faulty
pub come_fault : (modulus : ℕ) (cut : Cut) (ended : Bool) (old now new : Fed) (a b c : Coming)
    (seen : List (List ℕ)) (read vector : List ℕ) (fault : DataFault)
    → 0 < cut.size → (failed_next fault ≢ failed_next data_fault.TooLong → new.taken ≤ limit) → Consumes b c read →
    cut.ended ≡ false
    → GivesVector cut.size modulus cut.done now new read ended vector (Err fault) → (ended ≡ true → IsOver c)
    → HasCome modulus cut old now a b seen → ReadsData cut.size modulus old new a c seen (Err (stream_fault fault))
come_fault modulus cut ended old now new a b c seen read vector fault some within r going given end h =
    reads_data cut.size modulus old new a c seen (Err (stream_fault fault)) (h.progress.bytes ++ read)
    (stream_fault_at a b c old now new cut.ended ended cut.size modulus cut.done seen (IsOver c) read vector fault some h.progress h.begun r going given end)
    (fault_within fault (new.taken ≤ limit) within)

-- which is no fault of the output
pub fault_reads : (fault : DataFault) → failed_stream (stream_fault fault) ≢ failed_stream WriteFault
fault_reads (data_fault.BadNumber token) = λ e. cc
fault_reads (data_fault.Truncated have need) = λ e. cc
fault_reads data_fault.TooLong = λ e. cc
fault_reads data_fault.ReadFault = λ e. cc

-- the output fails after what was read
pub come_unwritten : (modulus : ℕ) (cut : Cut) (old new : Fed) (a c : Coming) (seen : List (List ℕ))
    → 0 < cut.size → new.taken ≤ limit → (cut.ended ≡ true → IsOver c) → HasCome modulus cut old new a c seen →
    ReadsData cut.size modulus old new a c seen (Err WriteFault)
come_unwritten modulus cut old new a c seen some within end h =
    reads_data cut.size modulus old new a c seen (Err WriteFault) h.progress.bytes
    (h.progress.consumed, stream_unwritten a c old new cut.ended cut.size modulus cut.done seen (IsOver c) some h.progress end) (λ _. within)

-- a run from the first vector on
module _ {S : Type 0} {text : List ℕ → List ℕ} {leaves : List ℕ → S} {count size modulus : ℕ} {old new : Fed}
    {before after : Coming} {out out' : Option (List ℕ)} {first last : S} {result : Result (Unit {0}) StreamFault} where
  pub streams_new : count ≡ size →
      StreamsBehind [] text leaves count modulus old new before after out out' first last result →
      Streams text leaves size modulus old new before after out out' first last result
  streams_new e s =
      let reads = subst (λ n. ReadsData n modulus old new before after s.later result) e s.reads in
      record {
        read = reads.read;
        vectors = s.later;
        consumed = reads.consumed;
        answer = reads.answer;
        answers = reads.answers;
        wrote = s.wrote;
        stands = s.stands;
      }

-- a run told in other words
pub streams_as : {S T : Type 0} (f : S → T) (seen : List (List ℕ)) (text text' : List ℕ → List ℕ) (leaves : List ℕ → S)
    (leaves' : List ℕ → T) (size modulus : ℕ) (old new : Fed) (before after : Coming) (out out' : Option (List ℕ))
    (first last : S) (result : Result (Unit {0}) StreamFault) → ((x : List ℕ) → text x ≡ text' x) →
    ((x : List ℕ) → f (leaves x) ≡ leaves' x)
    → StreamsBehind seen text leaves size modulus old new before after out out' first last result →
    StreamsBehind seen text' leaves' size modulus old new before after out out' (f first) (f last) result
streams_as f seen text text' leaves leaves' size modulus old new before after out out' first last result same_text same s = record {
  later = s.later;
  reads = s.reads;
  wrote = writes_same text text' same_text s.later out out' result s.wrote;
  stands = λ other. ap f (s.stands other) ∙ state_behind-of f leaves leaves' same first s.later;
}

-- The vectors that were read are the first of all

good_on : (ts more : List (List ℕ)) → list_all is_good ts ≡ true → good_front (ts ++ more) ≡ ts ++ good_front more
good_on [] more h = refl
good_on (t ∷ ts) more h =
    let good = both_left (is_good t) (list_all is_good ts) h in
    let rest = both_right (is_good t) (list_all is_good ts) h in
    ap (λ b. cond b (t ∷ good_front (ts ++ more)) []) good ∙ ap (λ l. t ∷ l) (good_on ts more rest)

abbrev BeginsWith : List (List ℕ) → List (List ℕ) → Type 0
BeginsWith vectors all = (later : List (List ℕ)) × (all ≡ vectors ++ later)

seen_first : (a b : Coming) (old new : ℕ) (ended : Bool) (size modulus done : ℕ) (vectors : List (List ℕ))
    (p : StreamProgress a b old new ended size modulus done vectors)
    (over : Bool) (bad : Option ℕ) (more : List ℕ) → (ended ≡ true → (more ≡ []) × (over ≡ false)) →
    BeginsWith vectors (vectors_seen size modulus over bad (p.bytes ++ more))
seen_first a b old new ended size modulus done vectors p over (Some token) more none =
    (_, ap (λ l. vectors_of size modulus (good_front l)) (p.are_tokens more (λ e. (none e).0)) ∙ ap (vectors_of size modulus) (good_on p.ts (tokens more) p.good) ∙ p.splits (good_front (tokens more)))
seen_first a b old new ended size modulus done vectors p false None more none =
    (_, ap (vectors_of size modulus) (p.are_tokens more (λ e. (none e).0)) ∙ p.splits (tokens more))
seen_first a b old new true size modulus done vectors p true None more none = absurd (let other = (none refl).1 in cc)
seen_first a b old new false size modulus done vectors p true None more none =
    (_, ap (λ l. vectors_of size modulus (tokens l)) (closed_after p.bytes more (p.closed refl)) ∙ ap (vectors_of size modulus) (p.are_tokens (closed_part more) (λ e. absurd (cc))) ∙ p.splits (tokens (closed_part more)))

take_nothing : (n : ℕ) → take {A = ℕ} n [] ≡ []
take_nothing zero = refl
take_nothing (suc n) = refl

-- whatever the data have after them
pub vectors_begin : (modulus : ℕ) (cut : Cut) (old new : Fed) (before after : Coming) (rest : List ℕ)
    (vectors : List (List ℕ)) → (h : HasCome modulus cut old new before after vectors)
    → old.taken ≤ limit → new.taken ≤ limit → (cut.ended ≡ true → rest ≡ [])
    → BeginsWith vectors (data_vectors cut.size modulus (limit - old.taken) (h.progress.bytes ++ rest))
vectors_begin modulus cut old new before after rest vectors h start within end =
    let p = h.progress in
    let room = limit - old.taken in
    let bytes = p.bytes ++ rest in
    let count = p.taken in
    let few : length p.bytes ≤ room = omega arith in
    let more = take (room - length p.bytes) rest in
    let front : take room bytes ≡ p.bytes ++ more = seen_front room p.bytes rest few in
    let none : cut.ended ≡ true → (more ≡ []) × (nat_lt room (length bytes) ≡ false) = λ e. (
      ap (take (room - length p.bytes)) (end e) ∙ take_nothing (room - length p.bytes),
      let whole : length bytes ≡ length p.bytes = ap length (ap (λ l. p.bytes ++ l) (end e) ∙ append-nil p.bytes) in
          grind (arith, common_steps),
    ) in
    subst (λ l. BeginsWith vectors (vectors_seen cut.size modulus (nat_lt room (length bytes)) (bad_after 0 (tokens l)) l)) (sym front)
    (seen_first before after old.taken new.taken cut.ended cut.size modulus cut.done vectors p (nat_lt room (length bytes))
    (bad_after 0 (tokens (p.bytes ++ more))) more none)
