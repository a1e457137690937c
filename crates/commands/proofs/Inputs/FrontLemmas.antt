-- From what comes after a front to the whole input.
use Rattle.std.proofs.Common.{◌≡◌, ◌≢◌, ◌<◌, ◌≤◌, ◌+◌, ◌-◌, ◌⊎◌, Bool, ℕ, true, false, List, [], ◌∷◌, ◌++◌, Ok, Err}
use Rattle.std.proofs.Common.{Result, nat_le}
use Rattle.std.proofs.Common.{length, cond, refl, sym, ap, subst, ◌∙◌, arith, append_assoc, length-append, inl, inr}
use Rattle.std.proofs.lemmas.Grind.{common_steps}
use Rattle.std.proofs.KnownBytes.{Appends-nil}
use Rattle.io_edge.proofs.ToldLemmas.{Consumes-trans, over_left, over_rest}
use Rattle.std.specs.declared.option.Option.{Option}
use Rattle.io_edge.specs.Told.{Coming, Consumes, IsOver}
use Rattle.io_edge.specs.Feed.{limit}
use Rattle.spiral_words.specs.Statuses.Status.{IsDefined}
use Rattle.spiral_words.specs.declared.statuses.status.Status.{Status}
use Rattle.spiral_words.specs.declared.statuses.status.Status.TheVariants.{ReadFault, WriteFault, TooLong}
use Rattle.commands.specs.Input.Asking.{AsksBy, Asks}
use Rattle.commands.specs.Input.Line.{IsWhole}
use Rattle.commands.specs.Input.Outcomes.{Meets, SourceMeets}
use Rattle.commands.specs.Input.Refusals.{IsRefusal}
use Rattle.commands.specs.Input.Stage.{Stage, HasGiven}
use Rattle.commands.specs.Equations.Front.{Front, MayGoOn, HasEnded, Work, taken_from, room_behind, ordered, by_front}
use Rattle.commands.proofs.Inputs.InputLemmas.{none_cut}

-- What holds of each front

pub record IsFront (front : Front) : Type 0 where
  -- one that has ended has ended after further bytes too
  pub kept : (read more : List ℕ) → front.has_end read ≡ true → front.has_end (read ++ more) ≡ true
  -- one has ended where what comes after it is known, whatever follows
  pub there : (read rest : List ℕ) → ((more : List ℕ) → (rest ≡ [] → more ≡ []) → front.behind (read ++ more) ≡ more) →
      HasEnded front read (rest ≡ [])

still_ended : (front : Front) → IsFront front → (read more : List ℕ) (now later : Type 0) → HasEnded front read now →
    (now → later) → HasEnded front (read ++ more) later
still_ended front is read more now later (inl there) goes = inl (is.kept read more there)
still_ended front is read more now later (inr e) goes = inr (goes e)

-- whether the input is over is known
over_or_not : (held : List ℕ) (ended : Bool) →
    ((held ≡ []) × (ended ≡ true)) ⊎ ((held ≡ []) × (ended ≡ true) → ⊥)
over_or_not [] true = inl (refl, refl)
over_or_not [] false = inr (λ over. let wrong = over.1 in cc)
over_or_not (byte ∷ held) ended = inr (λ over. let wrong = over.0 in cc)

stands_alone : (front : Front) (read : List ℕ) (byte : ℕ) (over : Type 0) → HasEnded front read (byte ∷ [] ≡ []) →
    HasEnded front read over
stands_alone front read byte over (inl there) = inl there
stands_alone front read byte over (inr wrong) = absurd (cc)

-- one behind which everything is known has ended by its own end, or the input is over
stands_by : (front : Front) → IsFront front → (read : List ℕ) (over : Type 0) → over ⊎ (over → ⊥) →
    ((more : List ℕ) → (over → more ≡ []) → front.behind (read ++ more) ≡ more) → HasEnded front read over
stands_by front is read over (inl there) behind = inr there
stands_by front is read over (inr never) behind = stands_alone front read 0 over
    (is.there read (0 ∷ []) (λ more none. behind more (λ there. absurd (never there))))

-- as many bytes may come after it as the limit leaves after what was taken for it
room_after : (front : Front) (read more : List ℕ) (taken : ℕ) → taken ≡ length read →
    front.behind (read ++ more) ≡ more → limit - taken ≡ room_behind front (read ++ more)
room_after front read more taken count is =
    let whole : length (read ++ more) ≡ length read + length more = length-append read more in
    let behind : length (front.behind (read ++ more)) ≡ length more = ap length is in
    ap (λ n. limit - n) (omega (arith, count, whole, behind))

-- a front that is not too long, and one that is
pub front_short : (front : Front) (bytes text : List ℕ) → front.first bytes ≡ text → length text ≤ front.most →
    taken_from front bytes ≡ Ok text
front_short front bytes text same short =
    let test : nat_le (length text) front.most ≡ true = grind (arith, common_steps) in
    ap (λ l. cond {A = Result (List ℕ) Status} (nat_le (length l) front.most) (Ok l) (Err (TooLong front.most))) same
    ∙ ap (λ b. cond {A = Result (List ℕ) Status} b (Ok text) (Err (TooLong front.most))) test

pub front_long : (front : Front) (bytes : List ℕ) → front.most < length (front.first bytes) →
    taken_from front bytes ≡ Err (TooLong front.most)
front_long front bytes long =
    let test : nat_le (length (front.first bytes)) front.most ≡ false = grind (arith, common_steps) in
    ap (λ b. cond {A = Result (List ℕ) Status} b (Ok (front.first bytes)) (Err (TooLong front.most))) test

-- The front orders a value

-- what the work comes to after the front is right for the whole input
front_meets : {A : Type 0} (front : Front) → IsFront front →
    (orders : List ℕ → Stage A) (work : A → Work) (bytes read rest : List ℕ) (taken : ℕ) (value : A)
    (left : List ℕ) (was : Type 0) (ended : Bool) (out out' : Option (List ℕ)) (status : Status)
    → bytes ≡ read ++ rest → AsksBy front orders read (rest ≡ []) taken (Ok value)
    → HasEnded front read was → (was → ended ≡ true)
    → Meets (work value (limit - taken)) rest left ended out out' status
    → Meets (by_front front orders work) bytes left ended out out' status
front_meets {A} front is orders work bytes read rest taken value left was ended out out' status whole asked stands stays p =
    let here = asked.1 rest (λ e. e) in
    let ordered_here : ordered front orders bytes (Ok value) = subst (λ b. ordered front orders b (Ok value)) (sym whole) here.0 in
    let data_here : front.behind bytes ≡ rest = ap front.behind whole ∙ here.1 in
    let room : limit - taken ≡ room_behind front bytes = subst (λ b. limit - taken ≡ room_behind front b) (sym whole) (room_after front read rest taken asked.0 here.1) in
    let line : HasEnded front read (rest ≡ []) = is.there read rest (λ more none. (asked.1 more none).1) in
    let has : (more : List ℕ) (ended : Type 0) → (rest ≡ [] → more ≡ []) → (rest ≡ [] → ended) → HasGiven (HasEnded front (read ++ more) ended) (ordered front orders (read ++ more)) value =
    λ more ended none goes. record {
      front = still_ended front is read more (rest ≡ []) ended line goes;
      gives = (asked.1 more none).0;
    } in
    record {
      answer = λ d.
          let found = p.answer d in (
            found.0,
            inr (
              value,
              ordered_here,
              subst (λ n. (work value n).answer (front.behind bytes) status found.0) room
                  (subst (λ b. (work value (limit - taken)).answer b status found.0) (sym data_here) found.1),
            ),
            found.2,
          );
      read_fault = λ e.
          let found = p.read_fault e in
          let none : rest ≡ [] → found.0 ≡ [] = λ end. (none_cut rest found.0 left found.2 end).0 in (
            read ++ found.0,
            found.1,
            whole ∙ ap (λ l. read ++ l) found.2 ∙ sym (append_assoc read found.0 left),
            inr (
              value,
              record {
                front = still_ended front is read found.0 was (ended ≡ true) stands stays;
                gives = (asked.1 found.0 none).0;
              },
              subst (λ n. (work value n).broken (front.behind (read ++ found.0)) (ended ≡ true) found.1)
                  (room_after front read found.0 taken asked.0 (asked.1 found.0 none).1)
                  (subst (λ b. (work value (limit - taken)).broken b (ended ≡ true) found.1)
                  (sym (asked.1 found.0 none).1) found.3),
            ),
            found.4,
          );
      write_fault = λ e.
          let found = p.write_fault e in
          let none : rest ≡ [] → found.0 ≡ [] = λ end. (none_cut rest found.0 left found.2 end).0 in (
            read ++ found.0,
            found.1,
            whole ∙ ap (λ l. read ++ l) found.2 ∙ sym (append_assoc read found.0 left),
            found.3,
            (
              value,
              has found.0 (left ≡ []) none (λ end. (none_cut rest found.0 left found.2 end).1),
              subst (λ n. (work value n).cut (front.behind (read ++ found.0)) left found.1 found.3.front)
                  (room_after front read found.0 taken asked.0 (asked.1 found.0 none).1)
                  (subst (λ b. (work value (limit - taken)).cut b left found.1 found.3.front)
                  (sym (asked.1 found.0 none).1) found.4),
            ),
          );
    }

pub front_told : {A : Type 0} (front : Front) → IsFront front →
    (orders : List ℕ → Stage A) (work : A → Work) (before mid left : Coming) (taken : ℕ) (value : A)
    (out out' : Option (List ℕ)) (status : Status)
    → Asks front orders before mid taken (Ok value) → (work value (limit - taken)).most ≤ limit - taken + 1
    → SourceMeets (work value (limit - taken)) mid left out out' status
    → SourceMeets (by_front front orders work) before left out out' status
front_told front is orders work before mid left taken value out out' status a most p = record {
  read = a.read ++ p.read;
  consumed = Consumes-trans before mid left a.read p.read a.consumed p.consumed;
  few =
      let all = length-append a.read p.read in
      let count : taken ≡ length a.read = a.asks.0 in
      let few : length (a.read ++ p.read) ≤ limit + 1 = omega (arith, all, count, a.few, p.few, most) in
      few;
  meets = λ rest tells.
      let behind : List ℕ = p.read ++ rest in
      let asked : AsksBy front orders a.read (behind ≡ []) taken (Ok value) =
      (a.asks.0, λ more none. a.asks.1 more (λ over. none (over_rest mid left p.read rest p.consumed tells over))) in
      front_meets front is orders work ((a.read ++ p.read) ++ rest) a.read behind taken value rest (IsOver mid)
      left.told.ended out out' status (append_assoc a.read p.read rest) asked
      (stands_by front is a.read (IsOver mid) (over_or_not mid.held mid.told.ended)
      (λ more over. (a.asks.1 more over).1))
      (λ over. p.consumed.ended over.1) (p.meets rest tells);
}

-- The front orders nothing

pub front_refused : {A : Type 0} (front : Front) (orders : List ℕ → Stage A) (work : A → Work)
    (before left : Coming) (out : Option (List ℕ)) (taken : ℕ) (status : Status)
    → Asks front orders before left taken (Err status) → status ≢ WriteFault
    → SourceMeets (by_front front orders work) before left out out status
front_refused front orders work before left out taken status a w = record {
  read = a.read;
  consumed = a.consumed;
  few = let few : length a.read ≤ limit + 1 = omega (arith, a.few) in few;
  meets = λ rest tells. record {
    answer = λ d. ([], inl (a.asks.0 d rest (over_left left rest tells), refl), Appends-nil out);
    read_fault = λ e. (a.read, [], refl, inl (a.asks.1 e, refl), Appends-nil out);
    write_fault = λ e. absurd (w e);
  };
}

-- What a call for the front answers

-- the front can't be read
pub asks_read_fault : {A : Type 0} (front : Front) (orders : List ℕ → Stage A) (before after : Coming)
    (taken : ℕ) (read : List ℕ)
    → Consumes before after read → length read ≤ limit → MayGoOn front read
    → Asks front orders before after taken (Err ReadFault)
asks_read_fault front orders before after taken read consumed few part =
    record { read = read; consumed = consumed; few = few; asks = (λ d. absurd (d.read refl), λ _. part) }

-- it is too long
pub asks_too_long : {A : Type 0} (front : Front) (orders : List ℕ → Stage A) (before after : Coming)
    (taken : ℕ) (read : List ℕ)
    → Consumes before after read → length read ≤ limit
    → ((more : List ℕ) → front.most < length (front.first (read ++ more)))
    → Asks front orders before after taken (Err (TooLong front.most))
asks_too_long front orders before after taken read consumed few long = record {
  read = read;
  consumed = consumed;
  few = few;
  asks = (λ _ more none. inl (sym (front_long front (read ++ more) (long more))), λ e. absurd (cc));
}

-- its text orders nothing
pub asks_refused : {A : Type 0} (front : Front) (orders : List ℕ → Stage A) (before after : Coming) (taken : ℕ)
    (read text : List ℕ) (status : Status)
    → Consumes before after read → length read ≤ limit → IsWhole front read (IsOver after) text
    → length text ≤ front.most → (IsDefined status → orders text (Err status)) → status ≢ ReadFault
    → Asks front orders before after taken (Err status)
asks_refused front orders before after taken read text status consumed few whole short refused other = record {
  read = read;
  consumed = consumed;
  few = few;
  asks = (
    λ d more none.
        let there = front_short front (read ++ more) text (whole more none).0 short in
        inr (record { value = text; before = sym there; behind = refused d }),
    λ e. absurd (other e),
  );
}

-- its text orders a value
pub asks_value : {A : Type 0} (front : Front) (orders : List ℕ → Stage A) (before after : Coming) (taken : ℕ)
    (read text : List ℕ) (value : A)
    → Consumes before after read → length read ≤ limit → taken ≡ length read
    → IsWhole front read (IsOver after) text → length text ≤ front.most → orders text (Ok value)
    → Asks front orders before after taken (Ok value)
asks_value front orders before after taken read text value consumed few count whole short gives = record {
  read = read;
  consumed = consumed;
  few = few;
  asks = (
    count,
    λ more none.
        let parts = whole more none in
        (record { value = text; before = sym (front_short front (read ++ more) text parts.0 short); behind = gives }, parts.1),
  );
}

-- The whole input, by a front that was read whole

module _ {A : Type 0} (front : Front) (orders : List ℕ → Stage A) (work : A → Work) where
  -- its text orders nothing
  pub text_refused : (before after : Coming) (out : Option (List ℕ)) (taken : ℕ) (read text : List ℕ) (status : Status)
      → Consumes before after read → length read ≤ limit → IsWhole front read (IsOver after) text
      → length text ≤ front.most → (IsDefined status → orders text (Err status)) → IsRefusal status
      → SourceMeets (by_front front orders work) before after out out status
  text_refused before after out taken read text status consumed few whole short refused refusal =
      front_refused front orders work before after out taken status
      (asks_refused front orders before after taken read text status consumed few whole short refused refusal.read)
      refusal.write

  -- its text orders a value, and after it this is right for the value's work
  pub text_told : IsFront front → (before mid left : Coming) (out out' : Option (List ℕ)) (taken : ℕ)
      (read text : List ℕ)
      (value : A) (status : Status)
      → Consumes before mid read → length read ≤ limit → taken ≡ length read → IsWhole front read (IsOver mid) text
      → length text ≤ front.most → orders text (Ok value)
      → (work value (limit - taken)).most ≤ limit - taken + 1
      → SourceMeets (work value (limit - taken)) mid left out out' status
      → SourceMeets (by_front front orders work) before left out out' status
  text_told is before mid left out out' taken read text value status consumed few count whole short gives most p =
      front_told front is orders work before mid left taken value out out' status
      (asks_value front orders before mid taken read text value consumed few count whole short gives) most p
