-- What `exec` comes to.
use Rattle.std.proofs.Common.{◌≡◌, ◌≤◌, ◌+◌, ◌-◌, ◌&&◌, ◌||◌, ℕ, Bool, true, false, List, [], ◌∷◌, ◌++◌, None}
use Rattle.std.proofs.Common.{Some, Ok, Err, Vec, length, cond, refl, sym, ap, subst, ◌∙◌, arith, inl, inr}
use Rattle.std.specs.declared.option.Option.{Option}
use Rattle.io_edge.specs.Told.{Coming, Consumes, IsOver}
use Rattle.std.proofs.Common.{Global}
use Rattle.std.proofs.lemmas.Bool.{cases_Bool}
use Rattle.icode.specs.Actions.{plain_code}
use Rattle.icode.specs.Machine.{results, words_at, padded}
use Rattle.icode.specs.Plain.{PlainProgram}
use Rattle.icode.specs.Program.{plain_program}
use Rattle.icode.specs.declared.program.Program.{Program}
use Rattle.icode.proofs.Lists.{code_is}
use Rattle.icode.proofs.Runs.{memory_of_runs}
use Rattle.listing_text.specs.Texts.{is_listing}
use Rattle.code_check.specs.Refusals.{PassesCheck, action_limit}
use Rattle.io_edge.specs.Feed.{limit}
use Rattle.data_stream.specs.declared.parts.RestFault.{RestFault}
use Rattle.data_stream.specs.declared.parts.RestFault.TheVariants as rest_fault
use Rattle.data_stream.specs.Parts.Part.{ends_line, has_empty_line, behind_empty_line, second_part, IsWholePart}
use Rattle.data_stream.specs.Parts.Part.{GivesPart}
use Rattle.data_stream.proofs.TwoParts.PartLemmas.{still_ended}
use Rattle.data_stream.specs.Line.{line_of}
use Rattle.schedules.specs.Schedule.{Plan}
use Rattle.schedules.specs.Turns.{turns_of}
use Rattle.spiral_words.specs.Statuses.Fault.{status_of_part}
use Rattle.spiral_words.specs.declared.Order.TheVariants as order
use Rattle.spiral_words.specs.declared.statuses.status.Status.{Status}
use Rattle.spiral_words.specs.declared.statuses.status.Status.TheVariants.{Turn, ReadFault, TooLong}
use Rattle.runs.specs.Stream.{texts, lines, vectors_of}
use Rattle.runs.specs.Texts.{run_text}
use Rattle.commands.specs.Listings.Listed.{loaded, result_of}
use Rattle.commands.specs.Prepared.{stream_work}
use Rattle.commands.specs.Equations.Exec.{exec_outcomes, exec_work}
use Rattle.commands.specs.Equations.Front.{HasEnded, part}
use Rattle.commands.specs.Input.Commands.{stranger, admitted}
use Rattle.commands.specs.Input.Outcomes.{SourceMeets}
use Rattle.commands.proofs.Inputs.FrontLemmas.{IsFront, asks_read_fault, asks_too_long, front_refused, text_told}
use Rattle.commands.proofs.Inputs.Stages.{admitted_same}
use Rattle.commands.proofs.Inputs.Within.{told_within}
use Rattle.commands.proofs.Inputs.OutcomeLemmas.{all_few, told_nothing}
use Rattle.commands.proofs.StreamLemmas.{mapping_within}

-- The front

-- a byte that ends no line leaves a part unended, and nothing after it
unended_push : (begins : Bool) (read : List ℕ) → has_empty_line begins read ≡ false →
    behind_empty_line begins (read ++ 0 ∷ []) ≡ []
unended_push true [] none = refl
unended_push false [] none = refl
unended_push begins (byte ∷ read) none = at (begins && ends_line byte) refl none (unended_push (ends_line byte) read)
  where
    at : (b : Bool) → (begins && ends_line byte) ≡ b → (b || has_empty_line (ends_line byte) read) ≡ false
        → (has_empty_line (ends_line byte) read ≡ false → behind_empty_line (ends_line byte) (read ++ 0 ∷ []) ≡ [])
        → cond (begins && ends_line byte) (read ++ 0 ∷ []) (behind_empty_line (ends_line byte) (read ++ 0 ∷ [])) ≡ []
    at true is none later = absurd (cc)
    at false is none later = ap (λ b. cond b (read ++ 0 ∷ []) (behind_empty_line (ends_line byte) (read ++ 0 ∷ []))) is ∙ later none

part_there : (most : ℕ) (read rest : List ℕ) → ((more : List ℕ) → (rest ≡ [] → more ≡ []) →
    second_part (read ++ more) ≡ more)
    → HasEnded (part most) read (rest ≡ [])
part_there most read [] behind = inr refl
part_there most read (x ∷ rest) behind =
    elim (cases_Bool (has_empty_line true read)) [
      | inl there ↦ inl there
      | inr none ↦
          let byte : second_part (read ++ 0 ∷ []) ≡ 0 ∷ [] = behind (0 ∷ []) (λ e. absurd (cc)) in
          let nothing : second_part (read ++ 0 ∷ []) ≡ [] = unended_push true read none in
          absurd (cc)
    ]

ended_kept : (most : ℕ) (read more : List ℕ) → has_empty_line true read ≡ true →
    has_empty_line true (read ++ more) ≡ true
ended_kept most read more there = elim (still_ended read more ⊥ ⊥ (inl there) (λ e. e)) [ inl kept ↦ kept | inr e ↦ absurd e ]

part_is_front : (most : ℕ) → IsFront (part most)
part_is_front most = record { kept = ended_kept most; there = part_there most }

-- The program of the listing

-- the schedule names a processor that is not there
pub unturned : (schedule : Plan) (text : List ℕ) (program : PlainProgram) (q : ℕ) → is_listing text program →
    PassesCheck action_limit program → stranger schedule program.procs ≡ Some q
    → loaded schedule text (Err (Turn q program.procs))
unturned schedule text program q listed passes found = inr (record {
  value = program;
  before = listed;
  behind = inr (record { value = program; before = (passes, refl); behind = sym (ap (λ o. admitted o program.procs program) found) });
})

-- the program runs
pub loads : (schedule : Plan) (text : List ℕ) (program : PlainProgram) → is_listing text program →
    PassesCheck action_limit program → stranger schedule program.procs ≡ None
    → loaded schedule text (Ok program)
loads schedule text program listed passes none = record {
  value = program;
  before = listed;
  behind = record { value = program; before = (passes, refl); behind = sym (ap (λ o. admitted o program.procs program) none) };
}

-- what runs has passed the check
pub loaded_passes : (schedule : Plan) (text : List ℕ) (program : PlainProgram) → loaded schedule text (Ok program) →
    PassesCheck action_limit program
loaded_passes schedule text program l =
    let passed = l.behind.value in
    subst (λ (p : PlainProgram). PassesCheck action_limit p) (sym l.behind.before.1 ∙ (admitted_same (stranger schedule passed.procs) passed.procs passed program l.behind.behind).0) l.behind.before.0

-- so every order of turns leaves the same results
same_results : (program : PlainProgram) (x turns : List ℕ) → PassesCheck action_limit program →
    results (plain_code program) x turns ≡ result_of program x
same_results program x turns passes =
    let code = plain_code program in
    let is = code_is program in
    ap (λ memory. words_at code.size memory (padded code)) (memory_of_runs code is passes.apart x turns ∙ sym (memory_of_runs code is passes.apart x []))

same_lines : (program : PlainProgram) (turns : List ℕ) → PassesCheck action_limit program → (vectors : List (List ℕ)) →
    texts (run_text false (plain_code program) turns) vectors ≡ lines (result_of program) vectors
same_lines program turns passes [] = refl
same_lines program turns passes (x ∷ vectors) =
    ap (λ y. line_of y ++ texts (run_text false (plain_code program) turns) vectors) (same_results program x turns passes)
    ∙ ap (λ l. line_of (result_of program x) ++ l) (same_lines program turns passes vectors)

-- The call

-- the listing is not read
pub exec_unread : (schedule : Plan) (before after : Coming) (out : Option (List ℕ)) (taken : ℕ) (read : List ℕ)
    (fault : RestFault)
    → Consumes before after read → GivesPart 1048576 read (IsOver after) 0 taken (Err fault)
    → SourceMeets (exec_outcomes schedule) before after out out (status_of_part fault)
exec_unread schedule before after out taken read rest_fault.TooLong consumed given =
    front_refused (part 1048576) (loaded schedule) exec_work before after out taken (TooLong 1048576)
    (asks_too_long (part 1048576) (loaded schedule) before after taken read consumed (omega (arith, given.0)) given.1)
    (λ e. cc)
exec_unread schedule before after out taken read rest_fault.ReadFault consumed given =
    front_refused (part 1048576) (loaded schedule) exec_work before after out taken ReadFault
    (asks_read_fault (part 1048576) (loaded schedule) before after taken read consumed (omega (arith, given.short))
    (record { unended = given.unended; short = given.short })) (λ e. cc)
exec_unread schedule before after out taken read rest_fault.NoMemory consumed given =
    let few : length read ≤ limit + 1 = omega (arith, given) in
    told_nothing (exec_outcomes schedule) before after out read consumed few

-- its program runs
pub exec_told : (schedule : Plan) (program : Program) (front : Vec ℕ Global)
    (before mid left : Coming) (out out' : Option (List ℕ)) (taken : ℕ) (read text : List ℕ) (status : Status)
    → Consumes before mid read → length read ≤ limit → taken ≡ length read → IsWholePart read (IsOver mid) text
    → length text ≤ 1048576
    → loaded schedule text (Ok (plain_program program)) → front.items ≡ []
    → SourceMeets (stream_work (record { program = program; front = front; lines = false }) (order.Turns schedule) (limit - taken)) mid left out out' status
    → SourceMeets (exec_outcomes schedule) before left out out' status
exec_told schedule program front before mid left out out' taken read text status consumed few count whole short load alone p =
    let own : PlainProgram = plain_program program in
    let turns = turns_of schedule program.procs in
    let Writes : List (List ℕ) → List ℕ → Type 0 = λ vectors t. t ≡ front.items ++ texts (run_text false (plain_code own) turns) vectors in
    let Wanted : List (List ℕ) → List ℕ → Type 0 = λ vectors t. t ≡ lines (result_of own) vectors in
    let passes = loaded_passes schedule text own load in
    text_told (part 1048576) (loaded schedule) exec_work (part_is_front 1048576) before mid left out out' taken read text
    own status consumed few count whole.parts short load (all_few (limit - taken))
    (told_within (stream_work (record { program = program; front = front; lines = false }) (order.Turns schedule) (limit - taken)) (exec_work own (limit - taken)) mid left out out' status
    (mapping_within own.size own.modulus Writes Wanted (limit - taken) (omega (arith, program.header.of_size.0))
    (λ ts t written.
    let vectors = vectors_of own.size own.modulus ts in
    written ∙ ap (λ l. l ++ texts (run_text false (plain_code own) turns) vectors) alone ∙ same_lines own turns passes vectors)) p)
