-- What a run over data answers, reads and writes, by the texts of its vectors.
use Rattle.std.proofs.Common.{◌≡◌, ◌≢◌, ◌≤◌, ◌+◌, ◌-◌, ℕ, true, List, [], ◌∷◌, ◌++◌, Ok, Err, Result, refl, sym, ap}
use Rattle.std.proofs.Common.{Bool, subst, ◌<◌, ◌*◌, zero, suc, length, take, drop, ap₂, ◌∙◌, arith, append_assoc, inl, inr}
use Rattle.std.proofs.Common.{length-append}
use Rattle.std.proofs.KnownBytes.{Appends-trans}
use Rattle.std.specs.List.{list_all, All}
use Rattle.std.specs.declared.option.Option.{Option}
use Rattle.std.specs.Io.KnownBytes.{Appends}
use Rattle.std.proofs.lemmas.List.Elements.{All-from_get_or}
use Rattle.std.proofs.lemmas.List.{length-take-le, length-drop, length-map}
use Rattle.io_edge.specs.Feed.{Fed, limit}
use Rattle.io_edge.specs.Told.{Coming, IsOver}
use Rattle.data_stream.specs.Data.{tokens, closed_part, is_good}
use Rattle.data_stream.specs.Line.{line_of}
use Rattle.data_stream.specs.Reading.{GoesOver, residues}
use Rattle.data_stream.proofs.VectorLemmas.{residues_below}
use Rattle.par_machine.proofs.Schedules.{turns_there}
use Rattle.schedules.specs.Schedule.{Plan}
use Rattle.schedules.specs.Turns.{turns_of}
use Rattle.spiral_words.specs.Statuses.Fault.{status_of_stream}
use Rattle.spiral_words.specs.declared.statuses.status.Status.{Status}
use Rattle.spiral_words.specs.declared.statuses.status.Status.TheVariants.{ReadFault, WriteFault}
use Rattle.commands.specs.Input.Outcomes.{Outcomes, Meets, SourceMeets}
use Rattle.commands.specs.Equations.Works.{HasAllButLast, Wants, ReadsOn, all, mapping, status_by}
use Rattle.commands.proofs.Inputs.OutcomeLemmas.{answered_meets, broken_meets, cut_meets}
use Rattle.commands.specs.Input.Fine.{IsFine}
use Rattle.runs.specs.declared.stream.StreamFault.{StreamFault}
use Rattle.runs.specs.declared.stream.StreamFault.TheVariants as stream
use Rattle.runs.specs.Stream.{vectors_of, texts, data_answer, data_vectors, Answers, Reads, Streams, Writes}
use Rattle.runs.specs.Stream.{FailsAtLast, HasNoStranger, group_vectors, lines}
use Rattle.runs.proofs.CutLemmas.{cut_behind, vectors_ahead}
use Rattle.runs.proofs.StreamLemmas.{reads_more}
use Rattle.io_edge.proofs.ToldLemmas.{over_left}

pub reads_vectors : (size modulus : ℕ) (old new : Fed) (read : List ℕ) (ended : Type 0) (vectors : List (List ℕ))
    (result : Result (Unit {0}) StreamFault)
    → Reads size modulus old new read ended vectors result →
    (ts : List (List ℕ)) × (vectors_of size modulus ts ≡ vectors)
reads_vectors size modulus old new read ended vectors (Ok u) s = (tokens read, s.4)
reads_vectors size modulus old new read ended vectors (Err (stream.Truncated have need)) s = (tokens read, s.6)
reads_vectors size modulus old new read ended vectors (Err (stream.BadNumber token)) s = (s.1.0, s.1.2)
reads_vectors size modulus old new read ended vectors (Err stream.TooLong) s = (tokens (closed_part s.0), s.3)
reads_vectors size modulus old new read ended vectors (Err stream.ReadFault) s = (tokens (closed_part read), s.2)
reads_vectors size modulus old new read ended vectors (Err stream.WriteFault) s = (tokens read, s.4)

-- no more than one byte over the limit was read
over_few : (old : Fed) (read within : List ℕ) → GoesOver old read within → old.taken ≤ limit →
    length read ≤ limit - old.taken + 1
over_few old read within (inl (byte, whole, at)) start =
    let count : length read ≡ length within + 1 = ap length whole ∙ length-append within (byte ∷ []) in
    omega (arith, count, at)
over_few old read within (inr (over, none, empty)) start = absurd (omega (arith, over, start))

pub reads_few : (size modulus : ℕ) (old new : Fed) (read : List ℕ) (ended : Type 0) (vectors : List (List ℕ))
    (result : Result (Unit {0}) StreamFault)
    → Reads size modulus old new read ended vectors result → old.taken ≤ limit
    → (result ≢ Err stream.TooLong → new.taken ≤ limit) → length read ≤ limit - old.taken + 1
reads_few size modulus old new read ended vectors (Ok u) s start ends =
    omega (arith, s.0, start, ends (λ e. cc))
reads_few size modulus old new read ended vectors (Err (stream.Truncated have need)) s start ends =
    omega (arith, s.0, start, ends (λ e. cc))
reads_few size modulus old new read ended vectors (Err (stream.BadNumber token)) s start ends =
    omega (arith, s.0, start, ends (λ e. cc))
reads_few size modulus old new read ended vectors (Err stream.TooLong) s start ends = over_few old read s.0 s.1 start
reads_few size modulus old new read ended vectors (Err stream.ReadFault) s start ends =
    omega (arith, s.0, start, ends (λ e. cc))
reads_few size modulus old new read ended vectors (Err stream.WriteFault) s start ends =
    omega (arith, s.0, start, ends (λ e. cc))

-- what was read within the limit
pub fine_by : (old new : ℕ) (read : List ℕ) → new ≡ old + length read → new ≤ limit →
    list_all is_good (tokens read) ≡ true → IsFine (limit - old) read
fine_by old new read count within good = record { few = omega (arith, count, within); good = good }

-- What a run comes to that writes a front and then the texts of the later vectors, with the bytes that are left
module _ (wants : Wants) (IsText : List (List ℕ) → List ℕ → Type 0) (size modulus : ℕ) (old new : Fed)
    (read left : List ℕ) (ended : Bool) (first later : List (List ℕ)) (front : List ℕ) (text : List ℕ → List ℕ)
    (told : IsText (first ++ later) (front ++ texts text later))
    (start out out' : Option (List ℕ)) (begun : Appends start out front) where
  abbrev work : Outcomes
  work = mapping wants size modulus IsText (limit - old.taken)

  abbrev vectors : List (List ℕ)
  vectors = first ++ later

  -- where nothing failed, by what the data call for
  pub run_answers : (result : Result (Unit {0}) StreamFault) (status : Status)
      → status_by wants size result vectors ≡ status
      → (data_answer size (limit - old.taken) (read ++ left) ≡ result)
      × (data_vectors size modulus (limit - old.taken) (read ++ left) ≡ vectors)
      → Appends out out' (texts text later) → status ≢ ReadFault → status ≢ WriteFault
      → Meets work (read ++ left) left ended start out' status
  run_answers result status is seen wrote = answered_meets work (read ++ left) left ended start out' status (λ d. (
    front ++ texts text later,
    (
      sym (ap₂ (status_by wants size) seen.0 seen.1 ∙ is),
      subst (λ (v : List (List ℕ)). IsText v (front ++ texts text later)) (sym seen.1) told,
    ),
    Appends-trans start out out' front (texts text later) begun wrote,
  ))

  -- a text of the vectors before the last
  abbrev pub IsToldAhead : Type 0
  IsToldAhead = (ahead : List (List ℕ)) (last : List ℕ) → vectors ≡ (first ++ ahead) ++ last ∷ [] →
      IsText (first ++ ahead) (front ++ texts text ahead)

  -- the output failed at the text of the last vector
  run_stops : IsToldAhead → (f : FailsAtLast text later out out') →
      Reads size modulus old new read (left ≡ []) vectors (Err stream.WriteFault) → new.taken ≤ limit
      → Meets work (read ++ left) left ended start out' WriteFault
  run_stops ahead f s ends =
      let took = cut_behind text later front start out out' begun f in
      let whole : vectors ≡ (first ++ f.ahead) ++ f.last ∷ [] =
      ap (λ l. first ++ l) f.whole ∙ sym (append_assoc first f.ahead (f.last ∷ [])) in
      let all : HasAllButLast IsText vectors took.0.front = record {
        ahead = first ++ f.ahead;
        last = f.last;
        whole = whole;
        text = front ++ texts text f.ahead;
        right = ahead f.ahead f.last whole;
        rest = f.cut.front;
        begins = took.1;
      } in
      cut_meets work read left ended (front ++ texts text later) start out' took.0 (
        fine_by old.taken new.taken read s.0 ends s.1,
        s.2,
        subst (λ (v : List (List ℕ)). IsText v (front ++ texts text later)) (sym s.4) told,
        inr (s.3, subst (λ (v : List (List ℕ)). HasAllButLast IsText v took.0.front) (sym s.4) all),
      )

  -- by each way in which it may end
  pub run_meets : (result : Result (Unit {0}) StreamFault)
      → status_by wants size result vectors ≡ status_of_stream result → ReadsOn wants vectors
      → Reads size modulus old new read (left ≡ []) vectors result
      → Answers size modulus (limit - old.taken) (read ++ left) vectors result
      → Writes out out' result text later → (result ≢ Err stream.TooLong → new.taken ≤ limit) → IsToldAhead
      → Meets work (read ++ left) left ended start out' (status_of_stream result)
  run_meets (Err stream.ReadFault) is on s seen wrote ends ahead =
      broken_meets work (read ++ left) left ended start out' (
        read,
        front ++ texts text later,
        refl,
        (
          fine_by old.taken new.taken read s.0 (ends (λ e. cc)) s.1,
          subst (ReadsOn wants) (sym s.2) on,
          subst (λ (v : List (List ℕ)). IsText v (front ++ texts text later)) (sym s.2) told,
        ),
        Appends-trans start out out' front (texts text later) begun wrote,
      )
  run_meets (Err stream.WriteFault) is on s seen wrote ends ahead = run_stops ahead wrote s (ends (λ e. cc))
  run_meets result is on s seen wrote ends ahead =
      run_answers result (status_of_stream result) is seen wrote (λ e. cc) (λ e. cc)

-- after the front, the texts of whole vectors are texts of them
pub streams_told : {S : Type 0} (IsText : List (List ℕ) → List ℕ → Type 0) (size modulus : ℕ) (front : List ℕ)
    (text : List ℕ → List ℕ) (leaves : List ℕ → S) (old new : Fed) (before after : Coming) (start out out' : Option (List ℕ))
    (first last : S)
    (result : Result (Unit {0}) StreamFault)
    → ((ts : List (List ℕ)) → IsText (vectors_of size modulus ts) (front ++ texts text (vectors_of size modulus ts))) →
    0 < size → Appends start out front → old.taken ≤ limit → (result ≢ Err stream.TooLong → new.taken ≤ limit)
    → Streams text leaves size modulus old new before after out out' first last result
    → SourceMeets (mapping all size modulus IsText (limit - old.taken)) before after start out'
    (status_of_stream result)
streams_told IsText size modulus front text leaves old new before after start out out' first last result writes some begun within ends s = record {
  read = s.read;
  consumed = s.consumed;
  few = reads_few size modulus old new s.read (IsOver after) s.vectors result s.answer within ends;
  meets = λ rest tells.
      let goes : IsOver after → rest ≡ [] = over_left after rest tells in
      let made = reads_vectors size modulus old new s.read (IsOver after) s.vectors result s.answer in
      let Tells : List (List ℕ) → Type 0 = λ v. IsText v (front ++ texts text v) in
      run_meets all IsText size modulus old new s.read rest after.told.ended [] s.vectors front text
      (subst Tells made.1 (writes made.0))
      start out out' begun result refl tt
      (reads_more size modulus old new s.read (IsOver after) (rest ≡ []) s.vectors result goes s.answer)
      (s.answers within rest goes) s.wrote ends
      (λ ahead end whole.
      let us = vectors_ahead size modulus made.0 ahead end some (made.1 ∙ whole) in subst Tells us.1 (writes us.0));
}

-- the turns of a schedule that names no stranger are of the processors
pub turns_below : (schedule : Plan) (procs bound : ℕ) → procs ≡ bound → 0 < bound → HasNoStranger schedule bound →
    All (λ q. q < bound) (turns_of schedule procs)
turns_below schedule procs bound same some none =
    subst (λ p. All (λ q. q < bound) (turns_of schedule p)) (sym same)
    (All-from_get_or (λ q. q < bound) (turns_of schedule bound) 0 (turns_there schedule bound some none))

-- programs that do the same to each vector write the same lines
pub lines_equal : (size modulus : ℕ) (f h : List ℕ → List ℕ) →
    ((x : List ℕ) → length x ≡ size → All (λ v. v < modulus) x → f x ≡ h x) → 0 < modulus
    → (count : ℕ) (ts : List (List ℕ)) → count * size ≤ length ts →
    lines f (group_vectors size modulus count ts) ≡ lines h (group_vectors size modulus count ts)
lines_equal size modulus f h same some zero ts fits = refl
lines_equal size modulus f h same some (suc count) ts fits =
    let here : size ≤ length ts = omega arith in
    let back : length (drop size ts) ≡ length ts - size = length-drop size ts in
    let us = take size ts in
    let full : length (residues modulus us) ≡ size = length-map us _ ∙ length-take-le size ts here in
    ap (λ y. line_of y ++ lines f (group_vectors size modulus count (drop size ts))) (same (residues modulus us) full (residues_below modulus us some))
    ∙ ap (λ l. line_of (h (residues modulus us)) ++ l) (lines_equal size modulus f h same some count (drop size ts) (omega arith))
