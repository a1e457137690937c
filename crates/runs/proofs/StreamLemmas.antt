-- Vectors that come one by one.
use Rattle.std.proofs.Common.{◌≡◌, ◌<◌, ◌≤◌, ◌+◌, ◌/◌, ◌%◌, ◌⊎◌, ℕ, suc, Bool, true, false, List, [], ◌∷◌, ◌++◌}
use Rattle.std.proofs.Common.{None, Some, Ok, Err, Result, OnOk, nat_lt, ◌==◌, ◌-◌, ◌≢◌, zero, length, take, drop, refl}
use Rattle.std.proofs.Common.{sym, ap, ap₂, subst, ◌∙◌, arith, append_assoc, append-nil, length-append, cond, add_assoc}
use Rattle.std.proofs.Common.{add-one, add-zero, slice_index, inl, inr}
use Rattle.std.proofs.Math.Nat.{add-div_left, div-eq_of_lt, mod-eq_of_lt, add-mod_left}
use Rattle.std.proofs.Math.Seq.{take-append_seam, take-append-add, drop-append_seam}
use Rattle.std.proofs.KnownBytes.{Appends-trans}
use Rattle.io_edge.proofs.ToldLemmas.{Consumes-nil, Consumes-trans}
use Rattle.std.proofs.lemmas.Grind.{common_steps, flat_map-append}
use Rattle.std.proofs.lemmas.List.{take_all}
use Rattle.std.specs.List.{list_all}
use Rattle.std.specs.declared.option.Option.{Option}
use Rattle.std.specs.Io.KnownBytes.{Appends}
use Rattle.io_edge.specs.Told.{Coming, Consumes}
use Rattle.icode.specs.Machine.{Code, State, padded, start, run, finished, runs, words_at}
use Rattle.buffer_machine.specs.declared.Events.{Events}
use Rattle.buffer_machine.specs.Listed.{events_of}
use Rattle.runs.specs.Standing.{Standing, memory_at}
use Rattle.runs.specs.Texts.{asked_lines}
use Rattle.runs.specs.Walks.{ended}
use Rattle.schedules.specs.Schedule.{Plan}
use Rattle.schedules.specs.Turns.{turns_of}
use Rattle.io_edge.specs.Feed.{Fed, limit}
use Rattle.io_edge.specs.Taken.{AppendsPrefix}
use Rattle.data_stream.specs.Data.{tokens, closed_part, is_good}
use Rattle.data_stream.specs.Reading.{AreTokens, IsPart, GivesVector, residues}
use Rattle.data_stream.specs.declared.vectors.Next.{Next}
use Rattle.data_stream.specs.declared.vectors.Next.TheVariants.{Vector, End}
use Rattle.data_stream.specs.declared.DataFault.{DataFault}
use Rattle.data_stream.specs.declared.DataFault.TheVariants as data_fault
use Rattle.data_stream.proofs.TokensLemmas.{not_ended}
use Rattle.data_stream.proofs.TokenLemmas.{both_left, both_right}
use Rattle.data_stream.proofs.VectorLemmas.{closed_after, over_behind, count_grown, all_good}
pub use Rattle.runs.specs.Progress.{StreamProgress}
use Rattle.runs.specs.Stream.{group_vectors, vectors_of, texts, state_behind, good_front, bad_after, answer_of}
use Rattle.runs.specs.Stream.{vectors_seen, data_answer, data_vectors, Answers, AnswersWith, FailsAtLast, Reads, Writes}
use Rattle.runs.specs.declared.stream.StreamFault.{StreamFault}
use Rattle.runs.specs.StreamFault.{stream_fault}
use Rattle.runs.specs.declared.stream.StreamFault.TheVariants.{BadNumber, Truncated, TooLong, ReadFault, WriteFault}
use Rattle.icode.proofs.LaneSteps.{words_at_more}

-- a whole vector at the front comes first
pub vectors_more : (size modulus : ℕ) (us more : List (List ℕ)) → 0 < size → length us ≡ size →
    vectors_of size modulus (us ++ more) ≡ residues modulus us ∷ vectors_of size modulus more
vectors_more size modulus us more some full =
    let count : length (us ++ more) / size ≡ suc (length more / size) =
    ap (λ n. n / size) (length-append us more ∙ ap (λ n. n + length more) full) ∙ add-div_left (length more) some ∙ add-one (length more / size) in
    let front : take size (us ++ more) ≡ us = ap (λ n. take n (us ++ more)) (sym full) ∙ take-append_seam us more in
    let back : drop size (us ++ more) ≡ more = ap (λ n. drop n (us ++ more)) (sym full) ∙ drop-append_seam us more in
    ap (λ n. group_vectors size modulus n (us ++ more)) count
    ∙ ap (λ l. residues modulus l ∷ group_vectors size modulus (length more / size) (drop size (us ++ more))) front
    ∙ ap (λ l. residues modulus us ∷ group_vectors size modulus (length more / size) l) back

-- fewer tokens than a vector has give none
pub vectors_few : (size modulus : ℕ) (ts : List (List ℕ)) → length ts < size → vectors_of size modulus ts ≡ []
vectors_few size modulus ts few = ap (λ n. group_vectors size modulus n ts) (div-eq_of_lt few)

-- a text more
pub texts-push : (text : List ℕ → List ℕ) (vectors : List (List ℕ)) (x : List ℕ) →
    texts text (vectors ++ x ∷ []) ≡ texts text vectors ++ text x
texts-push text vectors x = flat_map-append text vectors (x ∷ []) ∙ ap (λ l. texts text vectors ++ l) (append-nil (text x))

-- the last vector leaves what it leaves
pub state_behind-push : {S : Type 0} (leaves : List ℕ → S) (state : S) (vectors : List (List ℕ)) (x : List ℕ) →
    state_behind leaves state (vectors ++ x ∷ []) ≡ leaves x
state_behind-push leaves state [] x = refl
state_behind-push leaves state (v ∷ vectors) x = state_behind-push leaves (leaves v) vectors x

pub no_stream : (a : Coming) (old : ℕ) (ended : Bool) (size modulus : ℕ) →
    StreamProgress a a old old ended size modulus 0 []
no_stream a old ended size modulus = record {
  bytes = [];
  ts = [];
  consumed = Consumes-nil a;
  taken = omega arith;
  are_tokens = λ more e. refl;
  good = refl;
  count = refl;
  whole = λ n. ap (λ m. m % size) (omega arith);
  splits = λ more. refl;
  closed = λ e. refl;
}

-- nothing is read after the end
abbrev pub Once : Bool → Bool → List ℕ → Type 0
Once mid new read = mid ≡ true → (read ≡ []) × (new ≡ true)

joined : (bytes read more : List ℕ) (ts : List (List ℕ)) (mid new : Bool) → AreTokens bytes ts mid → Once mid new read →
    (new ≡ true → more ≡ [])
    → tokens ((bytes ++ read) ++ more) ≡ ts ++ tokens (read ++ more)
joined bytes read more ts mid new p once end =
    ap tokens (append_assoc bytes read more) ∙ p (read ++ more) (λ e. let o = once e in ap (λ l. l ++ more) o.0 ∙ end o.1)

going_on : (mid new : Bool) (read : List ℕ) → Once mid new read → new ≡ false → mid ≡ false
going_on true new read once going = absurd (not_ended new going (once refl).1)
going_on false new read once going = refl

-- a vector more
pub stream_push : (a b c : Coming) (old : ℕ) (now new : Fed) (mid ended : Bool) (size modulus done : ℕ)
    (vectors : List (List ℕ)) (read vector : List ℕ)
    → 0 < size → StreamProgress a b old now.taken mid size modulus done vectors → Consumes b c read →
    Once mid ended read
    → GivesVector size modulus done now new read ended vector (Ok Vector)
    → StreamProgress a c old new.taken ended size modulus (done + size) (vectors ++ vector ∷ [])
stream_push a b c old now new mid ended size modulus done vectors read vector some p r once given =
    let us = given.1.0 in
    record {
      bytes = p.bytes ++ read;
      ts = p.ts ++ us;
      consumed = Consumes-trans a b c p.bytes read p.consumed r;
      taken = count_grown old now.taken new.taken p.bytes read p.taken given.0;
      are_tokens = λ more end. joined p.bytes read more p.ts mid ended p.are_tokens once end ∙ ap (λ l. p.ts ++ l) (given.1.1 more end) ∙ sym (append_assoc p.ts us (tokens more));
      good = all_good p.ts us p.good given.1.2;
      count = length-append p.ts us ∙ ap (λ n. n + length us) p.count ∙ ap (λ n. done + n) given.1.3;
      whole = λ n. ap (λ m. m % size) (add_assoc done size n) ∙ p.whole (size + n) ∙ add-mod_left size n;
      splits = λ more.
          ap (vectors_of size modulus) (append_assoc p.ts us more) ∙ p.splits (us ++ more)
          ∙ ap (λ l. vectors ++ l) (vectors_more size modulus us more some given.1.3 ∙ ap (λ v. v ∷ vectors_of size modulus more) (sym given.1.4))
          ∙ sym (append_assoc vectors (vector ∷ []) (vectors_of size modulus more));
      closed = λ going. closed_after p.bytes read (p.closed (going_on mid ended read once going)) ∙ ap (λ l. p.bytes ++ l) (given.2 going);
    }

-- the tokens of all that was read
joined_all : (bytes read : List ℕ) (ts : List (List ℕ)) (mid new : Bool) → AreTokens bytes ts mid → Once mid new read →
    tokens (bytes ++ read) ≡ ts ++ tokens read
joined_all bytes read ts mid new p once =
    ap tokens (sym (append-nil (bytes ++ read))) ∙ joined bytes read [] ts mid new p once (λ _. refl) ∙ ap (λ l. ts ++ tokens l) (append-nil read)

-- the data have no token that may go on, or have ended
closed_or_ended : (ended : Bool) (closed end : Type 0) → (ended ≡ false → closed) → (ended ≡ true → end) → closed ⊎ end
closed_or_ended true closed end c e = inr (e refl)
closed_or_ended false closed end c e = inl (c refl)

-- fewer tokens than a vector has make no vector after whole ones
vectors_still : {a b : Coming} {old new : ℕ} {ended : Bool} {size modulus done : ℕ} {vectors : List (List ℕ)}
    (p : StreamProgress a b old new ended size modulus done vectors) (us : List (List ℕ)) → length us < size →
    vectors_of size modulus (p.ts ++ us) ≡ vectors
vectors_still {a} {b} {old} {new} {ended} {size} {modulus} {done} {vectors} p us few =
    p.splits us ∙ ap (λ l. vectors ++ l) (vectors_few size modulus us few) ∙ append-nil vectors

-- the line of a vector was not written whole
pub stream_unwritten : (a c : Coming) (old new : Fed) (ended : Bool) (size modulus done : ℕ)
    (vectors : List (List ℕ)) (end : Type 0)
    → 0 < size → (p : StreamProgress a c old.taken new.taken ended size modulus done vectors) → (ended ≡ true → end)
    → Reads size modulus old new p.bytes end vectors (Err WriteFault)
stream_unwritten a c old new ended size modulus done vectors end some p at_end =
    let there : tokens p.bytes ≡ p.ts = ap tokens (sym (append-nil p.bytes)) ∙ p.are_tokens [] (λ _. refl) ∙ append-nil p.ts in (
      p.taken,
      ap (list_all is_good) there ∙ p.good,
      closed_or_ended ended (closed_part p.bytes ≡ p.bytes) end p.closed at_end,
      ap (λ n. n % size) (ap length there ∙ p.count ∙ sym (add-zero done)) ∙ p.whole 0 ∙ mod-eq_of_lt some,
      ap (vectors_of size modulus) (there ∙ sym (append-nil p.ts)) ∙ vectors_still p [] some,
    )

-- the data end after a whole vector
pub stream_end : (a b c : Coming) (old now new : Fed) (mid ended : Bool) (size modulus done : ℕ)
    (vectors : List (List ℕ)) (end : Type 0) (read vector : List ℕ)
    → 0 < size → (p : StreamProgress a b old.taken now.taken mid size modulus done vectors) → Consumes b c read →
    Once mid ended read
    → GivesVector size modulus done now new read ended vector (Ok End) → (ended ≡ true → end)
    → Consumes a c (p.bytes ++ read) × Reads size modulus old new (p.bytes ++ read) end vectors (Ok tt)
stream_end a b c old now new mid ended size modulus done vectors end read vector some p r once given at_end =
    let there : tokens (p.bytes ++ read) ≡ p.ts = joined_all p.bytes read p.ts mid ended p.are_tokens once ∙ ap (λ l. p.ts ++ l) given.1 ∙ append-nil p.ts in (
      Consumes-trans a b c p.bytes read p.consumed r,
      (
        count_grown old.taken now.taken new.taken p.bytes read p.taken given.0,
        at_end given.2,
        ap (list_all is_good) there ∙ p.good,
        ap (λ l. length l % size) there ∙ ap (λ n. n % size) (p.count ∙ sym (add-zero done)) ∙ p.whole 0 ∙ mod-eq_of_lt some,
        ap (vectors_of size modulus) (there ∙ sym (append-nil p.ts)) ∙ vectors_still p [] some,
      ),
    )

pub bad_behind : (n : ℕ) (ts more : List (List ℕ)) → list_all is_good ts ≡ true →
    bad_after n (ts ++ more) ≡ bad_after (n + length ts) more
bad_behind n [] more h = ap (λ m. bad_after m more) (sym (add-zero n))
bad_behind n (t ∷ ts) more h =
    let good = both_left (is_good t) (list_all is_good ts) h in
    let rest = both_right (is_good t) (list_all is_good ts) h in
    ap (λ b. cond b (bad_after (n + 1) (ts ++ more)) (Some (n + 1))) good ∙ bad_behind (n + 1) ts more rest ∙ ap (λ m. bad_after m more) (omega arith)

front_good : (ts : List (List ℕ)) (bad : List ℕ) (others : List (List ℕ)) → list_all is_good ts ≡ true →
    is_good bad ≡ false → good_front (ts ++ bad ∷ others) ≡ ts
front_good [] bad others h b = ap (λ t. cond t (bad ∷ good_front others) []) b
front_good (t ∷ ts) bad others h b =
    let good = both_left (is_good t) (list_all is_good ts) h in
    let rest = both_right (is_good t) (list_all is_good ts) h in
    ap (λ b. cond b (t ∷ good_front (ts ++ bad ∷ others)) []) good ∙ ap (λ l. t ∷ l) (front_good ts bad others rest b)

-- after whole vectors, what there is of the next
part_behind : (a b : Coming) (old now : ℕ) (mid : Bool) (size modulus done : ℕ) (vectors : List (List ℕ))
    (read : List ℕ) (p : StreamProgress a b old now mid size modulus done vectors)
    → mid ≡ false → IsPart size read
    → (list_all is_good (tokens (p.bytes ++ read)) ≡ true) × (vectors_of size modulus
    (tokens (closed_part (p.bytes ++ read))) ≡ vectors)
part_behind a b old now mid size modulus done vectors read p going part =
    let behind : (l : List ℕ) → tokens (p.bytes ++ l) ≡ p.ts ++ tokens l = λ l. p.are_tokens l (λ e. absurd (not_ended mid going e)) in (
      ap (list_all is_good) (behind read) ∙ all_good p.ts (tokens read) p.good part.good,
      ap (λ l. vectors_of size modulus (tokens l)) (closed_after p.bytes read (p.closed going))
          ∙ ap (vectors_of size modulus) (behind (closed_part read))
          ∙ vectors_still p (tokens (closed_part read)) part.few,
    )

no_bytes : (bytes : List ℕ) → length bytes ≡ 0 → bytes ≡ []
no_bytes [] e = refl
no_bytes (x ∷ bytes) e = absurd (omega arith)

-- the data end in a vector, or are faulty, or can't be read
pub stream_fault_at : (a b c : Coming) (old now new : Fed) (mid ended : Bool) (size modulus done : ℕ)
    (vectors : List (List ℕ)) (end : Type 0) (read vector : List ℕ) (fault : DataFault)
    → 0 < size → (p : StreamProgress a b old.taken now.taken mid size modulus done vectors) →
    (limit < now.taken → now.taken ≡ old.taken) → Consumes b c read → mid ≡ false
    → GivesVector size modulus done now new read ended vector (Err fault) → (ended ≡ true → end)
    → Consumes a c (p.bytes ++ read) × Reads size modulus old new (p.bytes ++ read) end vectors
    (Err (stream_fault fault))
stream_fault_at a b c old now new mid ended size modulus done vectors end read vector (data_fault.Truncated have need) some p begun r going given at_end =
    let there : tokens (p.bytes ++ read) ≡ p.ts ++ tokens read = p.are_tokens read (λ e. absurd (not_ended mid going e)) in
    let few : length (tokens read) < size = let n = given.3 in let h = given.5 in let s = given.6 in omega arith in (
      Consumes-trans a b c p.bytes read p.consumed r,
      (
        count_grown old.taken now.taken new.taken p.bytes read p.taken given.0,
        at_end given.1,
        ap (list_all is_good) there ∙ all_good p.ts (tokens read) p.good given.2,
        ap (λ n. n % size) (ap length there ∙ length-append p.ts (tokens read) ∙ ap (λ n. n + length (tokens read)) p.count) ∙ p.whole (length (tokens read)) ∙ mod-eq_of_lt few ∙ given.3,
        given.4,
        given.6,
        ap (vectors_of size modulus) there ∙ vectors_still p (tokens read) few,
      ),
    )
stream_fault_at a b c old now new mid ended size modulus done vectors end read vector (data_fault.BadNumber token) some p begun r going given at_end =
    let us = given.1.0 in
    let good = all_good p.ts us p.good given.1.1 in
    let shown : (more : List ℕ) → tokens ((p.bytes ++ read) ++ more) ≡ (p.ts ++ us) ++ (given.1.4 more).0 ∷ (given.1.4 more).1 =
    λ more. ap tokens (append_assoc p.bytes read more) ∙ p.are_tokens (read ++ more) (λ e. absurd (not_ended mid going e))
    ∙ ap (λ l. p.ts ++ l) (given.1.4 more).2 ∙ sym (append_assoc p.ts us ((given.1.4 more).0 ∷ (given.1.4 more).1)) in (
      Consumes-trans a b c p.bytes read p.consumed r,
      (
        count_grown old.taken now.taken new.taken p.bytes read p.taken given.0,
        (
          p.ts ++ us,
          (λ more.
              let first = given.1.4 more in (
                ap (bad_after 0) (shown more)
                    ∙ bad_behind 0 (p.ts ++ us) (first.0 ∷ first.1) good
                    ∙ ap (λ t. cond t (bad_after (0 + length (p.ts ++ us) + 1) first.1) (Some (0 + length (p.ts ++ us) + 1))) first.3
                    ∙ ap Some (let l = length-append p.ts us in let n = p.count in let t = given.1.3 in omega arith),
                ap good_front (shown more) ∙ front_good (p.ts ++ us) first.0 first.1 good first.3,
              )),
          vectors_still p us given.1.2,
        ),
      ),
    )
stream_fault_at a b c old now new mid ended size modulus done vectors end read vector data_fault.ReadFault some p begun r going given at_end =
    let part = part_behind a b old.taken now.taken mid size modulus done vectors read p going given.1 in (
      Consumes-trans a b c p.bytes read p.consumed r,
      (count_grown old.taken now.taken new.taken p.bytes read p.taken given.0, part.0, part.1),
    )
stream_fault_at a b c old now new mid ended size modulus done vectors end read vector data_fault.TooLong some p begun r going given at_end =
    let part = part_behind a b old.taken now.taken mid size modulus done vectors given.0 p going given.2 in (
      Consumes-trans a b c p.bytes read p.consumed r,
      (
        p.bytes ++ given.0,
        over_behind old now p.bytes read given.0 p.taken (λ over. no_bytes p.bytes (omega (arith, p.taken, begun over))) given.1,
        part.0,
        part.1,
      ),
    )

all_good_none : (n : ℕ) (ts : List (List ℕ)) → list_all is_good ts ≡ true → bad_after n ts ≡ None
all_good_none n ts h = ap (bad_after n) (sym (append-nil ts)) ∙ bad_behind n ts [] h

-- data that are seen whole
whole_seen : (room : ℕ) (bytes : List ℕ) → length bytes ≤ room →
    (nat_lt room (length bytes) ≡ false) × (take room bytes ≡ bytes)
whole_seen room bytes h = (grind (arith, common_steps), take_all room bytes h)

link : (size modulus room : ℕ) (bytes : List ℕ) (over : Bool) (bad : Option ℕ) (seen : List ℕ) →
    nat_lt room (length bytes) ≡ over → take room bytes ≡ seen → bad_after 0 (tokens seen) ≡ bad
    → (data_answer size room bytes ≡ answer_of size over bad (length (tokens seen)))
    × (data_vectors size modulus room bytes ≡ vectors_seen size modulus over bad seen)
link size modulus room bytes over bad seen o t b = (
  ap (λ x. answer_of size x (bad_after 0 (tokens (take room bytes))) (length (tokens (take room bytes)))) o
      ∙ ap (λ x. answer_of size over (bad_after 0 (tokens x)) (length (tokens x))) t
      ∙ ap (λ x. answer_of size over x (length (tokens seen))) b,
  ap (λ x. vectors_seen size modulus x (bad_after 0 (tokens (take room bytes))) (take room bytes)) o
      ∙ ap (λ x. vectors_seen size modulus over (bad_after 0 (tokens x)) x) t
      ∙ ap (λ x. vectors_seen size modulus over x seen) b,
)

-- good tokens in whole vectors
pub right_answer : (size room : ℕ) (bytes : List ℕ) → length bytes ≤ room → list_all is_good (tokens bytes) ≡ true →
    length (tokens bytes) % size ≡ 0 → data_answer size room bytes ≡ Ok tt
right_answer size room bytes few good whole =
    let seen = whole_seen room bytes few in
    let l = link size 1 room bytes false None bytes seen.0 seen.1 (all_good_none 0 (tokens bytes) good) in
    l.0 ∙ ap (λ n. cond {A = Result (Unit {0}) StreamFault} (n == 0) (Ok tt) (Err (Truncated n size))) whole

bad_any : (size count token : ℕ) (over : Bool) → answer_of size over (Some token) count ≡ Err (BadNumber token)
bad_any size count token true = refl
bad_any size count token false = refl

bad_vectors : (size modulus token : ℕ) (over : Bool) (seen : List ℕ) →
    vectors_seen size modulus over (Some token) seen ≡ vectors_of size modulus (good_front (tokens seen))
bad_vectors size modulus token true seen = refl
bad_vectors size modulus token false seen = refl

no_rest : (size have : ℕ) → 0 < have → cond {A = Result (Unit {0}) StreamFault} (have == 0) (Ok tt) (Err (Truncated have size)) ≡ Err (Truncated have size)
no_rest size zero h = absurd (omega arith)
no_rest size (suc have) h =
    let not_zero : (suc have == 0) ≡ false = grind arith in
    ap (λ b. cond {A = Result (Unit {0}) StreamFault} b (Ok tt) (Err (Truncated (suc have) size))) not_zero

pub seen_front : (room : ℕ) (read rest : List ℕ) → length read ≤ room →
    take room (read ++ rest) ≡ read ++ take (room - length read) rest
seen_front room read rest h = ap (λ n. take n (read ++ rest)) (omega arith) ∙ take-append-add read rest (room - length read)

-- what a run answers by the bytes that it read, it answers by all bytes
pub answered : (size modulus : ℕ) (old new : Fed) (read rest : List ℕ) (vectors : List (List ℕ))
    (result : Result (Unit {0}) StreamFault)
    → Reads size modulus old new read (rest ≡ []) vectors result → old.taken ≤ limit →
    (result ≢ Err TooLong → new.taken ≤ limit)
    → Answers size modulus (limit - old.taken) (read ++ rest) vectors result
answered size modulus old new read rest vectors (Ok u) s start within =
    let none : read ++ rest ≡ read = ap (λ l. read ++ l) s.1 ∙ append-nil read in
    let fits = within (λ e. cc) in
    let taken = s.0 in
    let whole = whole_seen (limit - old.taken) read (omega arith) in
    let l = link size modulus (limit - old.taken) read false None read whole.0 whole.1 (all_good_none 0 (tokens read) s.2) in
    rw none (l.0 ∙ ap (λ n. cond (n == 0) (Ok tt) (Err (Truncated n size))) s.3, l.1 ∙ s.4)
answered size modulus old new read rest vectors (Err (Truncated have need)) s start within =
    let none : read ++ rest ≡ read = ap (λ l. read ++ l) s.1 ∙ append-nil read in
    let fits = within (λ e. cc) in
    let taken = s.0 in
    let whole = whole_seen (limit - old.taken) read (omega arith) in
    let l = link size modulus (limit - old.taken) read false None read whole.0 whole.1 (all_good_none 0 (tokens read) s.2) in
    rw none (l.0 ∙ ap (λ n. cond (n == 0) (Ok tt) (Err (Truncated n size))) s.3 ∙ no_rest size have s.4 ∙ ap (λ n. Err (Truncated have n)) (sym s.5), l.1 ∙ s.6)
answered size modulus old new read rest vectors (Err (BadNumber token)) s start within =
    let room = limit - old.taken in
    let fits = within (λ e. cc) in
    let taken = s.0 in
    let more = take (room - length read) rest in
    let found = s.1.1 more in
    let l = link size modulus room (read ++ rest) (nat_lt room (length (read ++ rest))) (Some token) (read ++ more) refl (seen_front room read rest (omega arith)) found.0 in (
      l.0 ∙ bad_any size (length (tokens (read ++ more))) token (nat_lt room (length (read ++ rest))),
      l.1 ∙ bad_vectors size modulus token (nat_lt room (length (read ++ rest))) (read ++ more) ∙ ap (vectors_of size modulus) found.1 ∙ s.1.2,
    )
answered size modulus old new read rest vectors (Err TooLong) (within_bytes, inl (byte, whole, at), good, same) start within =
    let room = limit - old.taken in
    let front : read ++ rest ≡ within_bytes ++ byte ∷ rest = ap (λ l. l ++ rest) whole ∙ append_assoc within_bytes (byte ∷ []) rest in
    let count = length-append within_bytes (byte ∷ rest) in
    let full : room ≡ length within_bytes = omega arith in
    let over : nat_lt room (length (within_bytes ++ byte ∷ rest)) ≡ true = grind (arith, common_steps) in
    let l = link size modulus room (within_bytes ++ byte ∷ rest) true None within_bytes over (ap (λ n. take n (within_bytes ++ byte ∷ rest)) full ∙ take-append_seam within_bytes (byte ∷ rest)) (all_good_none 0 (tokens within_bytes) good) in
    rw front (l.0, l.1 ∙ same)
answered size modulus old new read rest vectors (Err TooLong) (within_bytes, inr (over, none, empty), good, same) start within = absurd (omega (arith, over, start))
answered size modulus old new read rest vectors (Err ReadFault) s start within = tt
answered size modulus old new read rest vectors (Err WriteFault) s start within = tt

-- where the data have ended, so has more
pub reads_more : (size modulus : ℕ) (old new : Fed) (read : List ℕ) (now later : Type 0) (vectors : List (List ℕ))
    (result : Result (Unit {0}) StreamFault) → (now → later)
    → Reads size modulus old new read now vectors result → Reads size modulus old new read later vectors result
reads_more size modulus old new read now later vectors (Ok u) goes s = (s.0, goes s.1, s.2, s.3, s.4)
reads_more size modulus old new read now later vectors (Err (Truncated have need)) goes s =
    (s.0, goes s.1, s.2, s.3, s.4, s.5, s.6)
reads_more size modulus old new read now later vectors (Err (BadNumber token)) goes s = s
reads_more size modulus old new read now later vectors (Err TooLong) goes s = s
reads_more size modulus old new read now later vectors (Err ReadFault) goes s = s
reads_more size modulus old new read now later vectors (Err WriteFault) goes s = (s.0, s.1, still s.2, s.3, s.4)
  where
    still : (closed_part read ≡ read) ⊎ now → (closed_part read ≡ read) ⊎ later
    still (inl e) = inl e
    still (inr e) = inr (goes e)

-- the same with all that may follow
pub answered_with : (size modulus : ℕ) (old new : Fed) (read : List ℕ) (ended : Type 0) (vectors : List (List ℕ))
    (result : Result (Unit {0}) StreamFault) → Reads size modulus old new read ended vectors result
    → old.taken ≤ limit → (result ≢ Err TooLong → new.taken ≤ limit)
    → AnswersWith size modulus (limit - old.taken) read ended vectors result
answered_with size modulus old new read ended vectors result s start within = λ more none.
    answered size modulus old new read more vectors result
    (reads_more size modulus old new read ended (more ≡ []) vectors result none s) start within

pub word_more : (n : ℕ) (xs : List ℕ) (i v : ℕ) (front : List ℕ) → front ≡ words_at n xs i →
    v ≡ slice_index xs (i + n) → front ++ v ∷ [] ≡ words_at (n + 1) xs i
word_more n xs i v front p q = ap (λ l. l ++ v ∷ []) p ∙ ap (λ w. words_at n xs i ++ w ∷ []) q ∙ sym (words_at_more n xs i)

-- a text more was written, or a prefix of it
pub texts_more : (text : List ℕ → List ℕ) (a b c : Option (List ℕ)) (seen : List (List ℕ)) (x v : List ℕ) → v ≡ text x →
    Appends a b (texts text seen) → Appends b c v → Appends a c (texts text (seen ++ x ∷ []))
texts_more text a b c seen x v e p w =
    subst (Appends a c) (sym (texts-push text seen x)) (Appends-trans a b c (texts text seen) (text x) p (subst (Appends b c) e w))

pub texts_cut : (text : List ℕ → List ℕ) (a b c : Option (List ℕ)) (seen : List (List ℕ)) (x v : List ℕ) → v ≡ text x →
    Appends a b (texts text seen) → AppendsPrefix b c v → FailsAtLast text (seen ++ x ∷ []) a c
texts_cut text a b c seen x v e p w =
    record { ahead = seen; last = x; whole = refl; mid = b; took = p; cut = subst (AppendsPrefix b c) e w }

-- after a fault of the data the output has taken all texts
pub writes_fault : (fault : DataFault) (a b : Option (List ℕ)) (text : List ℕ → List ℕ) (vectors : List (List ℕ)) →
    Appends a b (texts text vectors) → Writes a b (Err (stream_fault fault)) text vectors
writes_fault (data_fault.BadNumber token) a b text vectors w = w
writes_fault (data_fault.Truncated have need) a b text vectors w = w
writes_fault data_fault.TooLong a b text vectors w = w
writes_fault data_fault.ReadFault a b text vectors w = w

abbrev pub failed_next : DataFault → Result Next DataFault
failed_next fault = Err fault

abbrev pub failed_stream : StreamFault → Result (Unit {0}) StreamFault
failed_stream fault = Err fault

-- a fault that is no long input, told as one of the stream
pub fault_within : (fault : DataFault) (fits : Type 0) → (failed_next fault ≢ failed_next data_fault.TooLong → fits) →
    failed_stream (stream_fault fault) ≢ failed_stream TooLong → fits
fault_within (data_fault.BadNumber token) fits w other = w (λ e. cc)
fault_within (data_fault.Truncated have need) fits w other = w (λ e. cc)
fault_within data_fault.TooLong fits w other = absurd (other refl)
fault_within data_fault.ReadFault fits w other = w (λ e. cc)

-- the turns of a schedule, and then those that complete it
pub whole_run : (plan : Plan) (code first second : Code) (x : List ℕ) (begun turned ended : State) → first ≡ code →
    begun ≡ start code x → second ≡ first
    → turned ≡ run first begun (turns_of plan first.procs) → ended ≡ finished second turned →
    ended ≡ runs code x (turns_of plan code.procs)
whole_run plan code first second x begun turned ended p b q t e =
    e ∙ ap (λ k. finished k turned) (q ∙ p)
    ∙ ap (λ s. finished code s) (t ∙ ap (λ (k : Code). run k begun (turns_of plan k.procs)) p ∙ ap (λ s. run code s (turns_of plan code.procs)) b)

-- the words that a run leaves
pub results_left : (code last : Code) (s t : Standing) → last ≡ code → t ≡ s →
    words_at last.size (memory_at t) (padded last) ≡ words_at code.size (memory_at s) (padded code)
results_left code last s t p e = ap (λ (k : Code). words_at k.size (memory_at t) (padded k)) p ∙ ap (λ (u : Standing). words_at code.size (memory_at u) (padded code)) e

-- what holds at any rate holds at `Ok`
pub held_at_ok : {T E : Type 0} {P : Type 0} (result : Result T E) → P → OnOk result P
held_at_ok (Ok x) p = p
held_at_ok (Err e) p = tt

-- the lines of events from a vector's start
pub lines_begun : (asked : Bool) (events : Events) (code own : Code) (first begun : Standing) → own ≡ code →
    begun ≡ first
    → asked_lines asked own begun (events_of events own.procs)
    ≡ asked_lines asked code first (events_of events code.procs)
lines_begun asked events code own first begun p b = ap (λ (k : Code). asked_lines asked k begun (events_of events k.procs)) p ∙ ap (λ (s : Standing). asked_lines asked code s (events_of events code.procs)) b

-- the machine after events from a vector's start
pub stands_begun : (events : Events) (code own : Code) (first begun last : Standing) → own ≡ code → begun ≡ first
    → last ≡ ended own begun (events_of events own.procs) → last ≡ ended code first (events_of events code.procs)
stands_begun events code own first begun last p b e =
    e ∙ ap (λ (k : Code). ended k begun (events_of events k.procs)) p ∙ ap (λ (s : Standing). ended code s (events_of events code.procs)) b

-- a function of what runs leave
pub state_behind-of : {S T : Type 0} (f : S → T) (leaves : List ℕ → S) (leaves' : List ℕ → T) →
    ((x : List ℕ) → f (leaves x) ≡ leaves' x)
    → (first : S) (vectors : List (List ℕ)) → f (state_behind leaves first vectors)
    ≡ state_behind leaves' (f first) vectors
state_behind-of f leaves leaves' same first [] = refl
state_behind-of f leaves leaves' same first (x ∷ xs) = state_behind-of f leaves leaves' same (leaves x) xs ∙ ap (λ t. state_behind leaves' t xs) (same x)

-- texts that are the same, one by one
pub texts_same : (text text' : List ℕ → List ℕ) → ((x : List ℕ) → text x ≡ text' x) → (vectors : List (List ℕ)) →
    texts text vectors ≡ texts text' vectors
texts_same text text' same [] = refl
texts_same text text' same (x ∷ xs) = ap₂ (λ (l m : List ℕ). l ++ m) (same x) (texts_same text text' same xs)
