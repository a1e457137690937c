-- What `convolve` comes to.
use Rattle.std.proofs.Common.{◌≡◌, ◌≢◌, ◌<◌, ◌≤◌, ◌*◌, ◌+◌, ◌-◌, ◌/◌, ℕ, zero, suc, Bool, true, false, List, []}
use Rattle.std.proofs.Common.{◌∷◌, ◌++◌, ◌%◌, Ok, Err, Result, length, drop, refl, sym, ap, subst, ◌∙◌, arith, inr}
use Rattle.std.proofs.KnownBytes.{Appends-nil}
use Rattle.std.proofs.Math.Nat.{div-mul-le_self}
use Rattle.std.proofs.lemmas.List.{length-drop}
use Rattle.std.specs.List.{All}
use Rattle.std.specs.declared.option.Option.{Option}
use Rattle.std.specs.Io.KnownBytes.{Appends}
use Rattle.io_edge.specs.Told.{Coming, IsOver}
use Rattle.matrix_meaning.specs.Convolution.{convolution}
use Rattle.generate.specs.ConvPlanned.{IsConvPlanned}
use Rattle.generate_faults.specs.declared.conv_fault.ConvFault.{ConvFault}
use Rattle.generate_faults.specs.declared.conv_fault.ConvFault.TheVariants as conv
use Rattle.data_stream.specs.Data.{tokens}
use Rattle.data_stream.specs.Line.{line_of}
use Rattle.data_stream.specs.Vectors.{Cut}
use Rattle.icode.specs.Machine.{Code, results}
use Rattle.icode.specs.Program.{plain_program, code_of}
use Rattle.icode.specs.declared.program.Program.{Program}
use Rattle.io_edge.specs.Feed.{Fed, limit}
use Rattle.io_edge.specs.Taken.{AppendsPrefix}
use Rattle.listing_text.specs.Listing.{listing_of}
use Rattle.matrix_meaning.specs.declared.Request.{Request}
use Rattle.schedules.specs.Schedule.{Plan}
use Rattle.schedules.specs.Turns.{named, turns_of}
use Rattle.spiral_words.specs.declared.statuses.status.Status.TheVariants.{Success, WriteFault}
use Rattle.spiral_words.specs.Statuses.Fault.{status_of_conv, status_of_fault, status_of_stream}
use Rattle.spiral_words.specs.Statuses.Status.{IsDefined}
use Rattle.runs.specs.Progress.{HasCome, StreamsBehind, StreamsOn, lacking, HasNoVector}
use Rattle.runs.specs.Texts.{run_text}
use Rattle.runs.specs.Stream.{lines, group_vectors, vectors_of, data_answer, data_vectors, Answers, HasNoStranger}
use Rattle.runs.specs.Stream.{Reads, Writes}
use Rattle.runs.specs.declared.stream.StreamFault.{StreamFault}
use Rattle.runs.specs.declared.stream.StreamFault.TheVariants as stream
use Rattle.runs.proofs.ProgressLemmas.{vectors_begin, come_unwritten}
use Rattle.commands.specs.Convolutions.Convolved.{IsListProgram, list_work, work_by_list}
use Rattle.commands.specs.Equations.Convolutions.{conv_spelt, conv_chosen}
use Rattle.commands.specs.Equations.Convolve.{IsConvolveText, IsConvolverText, convolve_work, convolver_work}
use Rattle.commands.specs.Equations.Convolve.{outcomes_by_list}
use Rattle.commands.specs.Equations.Front.{line, by_front}
use Rattle.commands.specs.Equations.Orders.{Planned, turned}
use Rattle.commands.specs.Equations.Works.{HasAllButLast, Wants, a_first, the_first, by_first, mapping, status_by}
use Rattle.commands.specs.Equations.Works.{ReadsOn}
use Rattle.commands.specs.Input.Outcomes.{Outcomes, Meets, SourceMeets}
use Rattle.commands.specs.Input.Refusals.{IsRefusal}
use Rattle.commands.specs.Input.Stage.{◌>>=◌}
use Rattle.commands.proofs.DocumentLemmas.{with_tree}
use Rattle.io_edge.proofs.ToldLemmas.{over_left}
use Rattle.commands.proofs.Inputs.DataLemmas.{fine_by, reads_few, reads_vectors, lines_equal, run_answers, run_meets}
use Rattle.commands.proofs.Inputs.DataLemmas.{turns_below}
use Rattle.commands.proofs.Inputs.OutcomeLemmas.{all_few, answered_meets, cut_meets}
use Rattle.commands.proofs.Inputs.StatusLemmas.{failed}
use Rattle.runs.proofs.CutLemmas.{vectors_ahead}
use Rattle.runs.proofs.StreamLemmas.{reads_more}
use Rattle.commands.proofs.Inputs.StageLemmas.{stage_told}
use Rattle.commands.proofs.Inputs.Within.{Within, front_join}

-- Refusals

pub conv_refused : (request : Request) (fault : ConvFault) →
    (fault ≢ conv.NoMemory → IsConvPlanned request (Err fault)) → IsDefined (status_of_conv fault) →
    conv_chosen request (Err (status_of_conv fault))
conv_refused request conv.NoMemory p d = absurd (d.memory refl)
conv_refused request fault p d = (fault, p (λ e. cc), refl)

pub conv_refusal : (fault : ConvFault) → IsRefusal (status_of_conv fault)
conv_refusal conv.NoMemory = record { success = λ e. cc; read = λ e. cc; write = λ e. cc; usage = λ e. cc }
conv_refusal fault = record { success = λ e. cc; read = λ e. cc; write = λ e. cc; usage = λ e. cc }

-- Data without a list

-- a failed run that wrote nothing has written the texts of no vector
nothing_written : (out : Option (List ℕ)) (text : List ℕ → List ℕ) (fault : StreamFault)
    → failed fault ≢ failed stream.WriteFault → Writes out out (failed fault) text []
nothing_written out text stream.WriteFault other = absurd (other refl)
nothing_written out text fault other = Appends-nil out

-- none is the last of no vectors
none_last : (ahead : List (List ℕ)) (last : List ℕ) → [] ≡ ahead ++ last ∷ [] → ⊥
none_last [] last e = absurd (cc)
none_last (x ∷ ahead) last e = absurd (cc)

-- too much is no lack
lacking_long : (size : ℕ) (result : Result (Unit {0}) StreamFault) → result ≢ Err stream.TooLong
    → lacking size result ≢ stream.TooLong
lacking_long size (Ok u) other = λ e. cc
lacking_long size (Err fault) other = λ e. other (ap failed e)

-- where no vector is there, a work that wants one lacks it
pub record WantsList (wants : Wants) (size : ℕ) : Type 0 where
  pub lacks : (answer : Result (Unit {0}) StreamFault) → status_by wants size answer []
      ≡ status_of_fault (lacking size answer)
  pub on : ReadsOn wants []

module _ (wants : Wants) (size modulus : ℕ) (list : WantsList wants size)
    (IsText : List ℕ → List (List ℕ) → List ℕ → Type 0) where
  lacks : (old new : Fed) (read left : List ℕ) (ended : Bool) (out : Option (List ℕ))
      (result : Result (Unit {0}) StreamFault)
      → (lacking size result ≢ stream.TooLong → new.taken ≤ limit) → result ≢ Err stream.WriteFault
      → Reads size modulus old new read (left ≡ []) [] result
      → Answers size modulus (limit - old.taken) (read ++ left) [] result
      → Meets (mapping wants size modulus (by_first IsText) (limit - old.taken)) (read ++ left) left ended out out
      (status_of_fault (lacking size result))
  lacks old new read left ended out (Ok u) ends other s seen =
      run_answers wants (by_first IsText) size modulus old new read left ended [] [] [] (λ x. []) refl out out out
      (Appends-nil out) (Ok u) (status_of_fault (lacking size (Ok u))) (list.lacks (Ok u)) seen (Appends-nil out)
      (λ e. cc) (λ e. cc)
  lacks old new read left ended out (Err fault) ends other s seen =
      run_meets wants (by_first IsText) size modulus old new read left ended [] [] [] (λ x. []) refl out out out
      (Appends-nil out) (Err fault) (list.lacks (Err fault)) list.on s seen (nothing_written out (λ x. []) fault other)
      (λ short. ends (λ e. short (ap failed e))) (λ ahead last e. absurd (none_last ahead last e))

  pub list_lacking : (old new : Fed) (before after : Coming) (out : Option (List ℕ)) (fault : StreamFault)
      → old.taken ≤ limit → (fault ≢ stream.TooLong → new.taken ≤ limit) →
      HasNoVector size modulus old new before after fault
      → SourceMeets (mapping wants size modulus (by_first IsText) (limit - old.taken)) before after out out
      (status_of_fault fault)
  list_lacking old new before after out fault start ends none =
      let result = none.0 in
      let r = none.2 in
      let short = subst (λ (f : StreamFault). f ≢ stream.TooLong → new.taken ≤ limit) none.3 ends in
      record {
        read = r.read;
        consumed = r.consumed;
        few = reads_few size modulus old new r.read (IsOver after) [] result r.answer start
            (λ other. short (lacking_long size result other));
        meets = λ rest tells.
            let goes : IsOver after → rest ≡ [] = over_left after rest tells in
            rw none.3 (lacks old new r.read rest after.told.ended out result short none.1
            (reads_more size modulus old new r.read (IsOver after) (rest ≡ []) [] result goes r.answer)
            (r.answers start rest goes));
      }

list_told : (code : Bool) (plan : Planned) (old new : Fed) (before after : Coming) (out : Option (List ℕ))
    (fault : StreamFault)
    → old.taken ≤ limit → (fault ≢ stream.TooLong → new.taken ≤ limit) →
    HasNoVector plan.request.size plan.request.modulus old new before after fault
    → SourceMeets (list_work code plan (limit - old.taken)) before after out out (status_of_fault fault)
list_told false plan old new before after out fault start ends none =
    list_lacking a_first plan.request.size plan.request.modulus (record { lacks = λ answer. refl; on = tt }) _ old new before after out fault start ends none
list_told true plan old new before after out fault start ends none =
    list_lacking the_first plan.request.size plan.request.modulus (record { lacks = λ answer. refl; on = refl }) _ old new before after out fault start ends none

list_few : (code : Bool) (plan : Planned) (room : ℕ) → (list_work code plan room).most ≤ room + 1
list_few false plan room = all_few room
list_few true plan room = all_few room

pub convolves_lacking : (code : Bool) (plan : Planned) (request : Request) (old new : Fed)
    (before after : Coming) (out : Option (List ℕ)) (fault : StreamFault)
    → conv_chosen request (Ok plan) → old.taken ≤ limit → (fault ≢ stream.TooLong → new.taken ≤ limit)
    → HasNoVector plan.request.size plan.request.modulus old new before after fault
    → SourceMeets (work_by_list code request (limit - old.taken)) before after out out (status_of_fault fault)
convolves_lacking code plan request old new before after out fault chosen start ends none =
    stage_told (conv_chosen request) (list_work code) (limit - old.taken) plan before after out out (status_of_fault fault) chosen
    (list_few code plan (limit - old.taken)) (list_told code plan old new before after out fault start ends none)

-- The listing

-- all of it is written
pub convolves_listing : (request : Request) (cut : Cut) (old new : Fed) (before after : Coming)
    (out out' : Option (List ℕ))
    (h listing : List ℕ) (program : Program)
    → cut.size ≡ request.size → HasCome request.modulus cut old new before after (h ∷ []) → old.taken ≤ limit
    → new.taken ≤ limit → (cut.ended ≡ true → IsOver after)
    → IsListProgram request h program → listing ≡ listing_of (plain_program program) → Appends out out' listing
    → SourceMeets (work_by_list true request (limit - old.taken)) before after out out' Success
convolves_listing request cut old new before after out out' h listing program size come start within end made same wrote =
    let plan = with_tree request made.tree in
    let room = limit - old.taken in
    stage_told (conv_chosen request) convolver_work room plan before after out out' Success (refl, made.planned)
    (all_few room) (record {
      read = come.progress.bytes;
      consumed = come.progress.consumed;
      few = let few : length come.progress.bytes ≤ room + 1 = omega (arith, come.progress.taken, start, within) in few;
      meets = λ rest tells.
          let bytes : List ℕ = come.progress.bytes ++ rest in
          let first = vectors_begin request.modulus cut old new before after rest (h ∷ []) come start within
          (λ e. over_left after rest tells (end e)) in
          let seen : data_vectors request.size request.modulus room bytes ≡ h ∷ first.0 =
          ap (λ n. data_vectors n request.modulus room bytes) (sym size) ∙ first.1 in
          answered_meets (convolver_work plan room) bytes rest after.told.ended out out' Success
          (λ d. (
            listing,
            (
              sym (ap (status_by the_first request.size (data_answer request.size room bytes)) seen),
              subst (λ vectors. IsConvolverText plan vectors listing) (sym seen) (same ∙ ap listing_of made.letters),
            ),
            wrote,
          )) (λ e. cc) (λ e. cc);
    })

-- a front of it is written
pub convolves_cut : (request : Request) (cut : Cut) (old new : Fed) (before after : Coming) (out out' : Option (List ℕ))
    (h listing : List ℕ) (program : Program)
    → cut.size ≡ request.size → 0 < request.size → HasCome request.modulus cut old new before after (h ∷ [])
    → new.taken ≤ limit → (cut.ended ≡ true → IsOver after)
    → IsListProgram request h program → listing ≡ listing_of (plain_program program) → AppendsPrefix out out' listing
    → SourceMeets (work_by_list true request (limit - old.taken)) before after out out' WriteFault
convolves_cut request cut old new before after out out' h listing program size some come within end made same wrote =
    let plan = with_tree request made.tree in
    let room = limit - old.taken in
    let r = come_unwritten request.modulus cut old new before after (h ∷ []) (omega (arith, some, size)) within end
    come in
    let seen : vectors_of request.size request.modulus (tokens r.read) ≡ h ∷ [] =
    ap (λ n. vectors_of n request.modulus (tokens r.read)) (sym size) ∙ r.answer.4 in
    stage_told (conv_chosen request) convolver_work room plan before after out out' WriteFault (refl, made.planned)
    (all_few room) (record {
      read = r.read;
      consumed = r.consumed;
      few = let few : length r.read ≤ room + 1 = omega (arith, r.answer.0, within) in few;
      meets = λ rest tells.
          let goes : IsOver after → rest ≡ [] = over_left after rest tells in
          let s = reads_more cut.size request.modulus old new r.read (IsOver after) (rest ≡ []) (h ∷ [])
          (Err stream.WriteFault) goes r.answer in
          let all : HasAllButLast (IsConvolverText plan) (h ∷ []) wrote.front =
          record { ahead = []; last = h; whole = refl; text = []; right = refl; rest = wrote.front; begins = refl } in
          cut_meets (convolver_work plan room) r.read rest after.told.ended listing out out' wrote (
            fine_by old.taken new.taken r.read s.0 within s.1,
            s.2,
            subst (λ vectors. IsConvolverText plan vectors listing) (sym seen) (same ∙ ap listing_of made.letters),
            inr (
              ap (λ n. length (tokens r.read) % n) (sym size) ∙ s.3,
              subst (λ vectors. HasAllButLast (IsConvolverText plan) vectors wrote.front) (sym seen) all,
            ),
          );
    })

-- The lines of a run

tail_same : (x y : List ℕ) (xs ys : List (List ℕ)) → x ∷ xs ≡ y ∷ ys → xs ≡ ys
tail_same x y xs ys e = cc

-- what is the same on all whole vectors is so on the later ones
later_lines : (size modulus : ℕ) (f g : List ℕ → List ℕ) → ((x : List ℕ) → length x ≡ size → All (λ v. v < modulus) x →
    f x ≡ g x) → 0 < modulus
    → (count : ℕ) (ts : List (List ℕ)) (h : List ℕ) (later : List (List ℕ)) → count * size ≤ length ts →
    group_vectors size modulus count ts ≡ h ∷ later → lines f later ≡ lines g later
later_lines size modulus f g same some zero ts h later fits e = absurd (cc)
later_lines size modulus f g same some (suc count) ts h later fits e =
    let back : length (drop size ts) ≡ length ts - size = length-drop size ts in
    let rest : group_vectors size modulus count (drop size ts) ≡ later = tail_same _ h _ later e in
    subst (λ vectors. lines f vectors ≡ lines g vectors) rest (lines_equal size modulus f g same some count (drop size ts) (omega arith))

-- the machine's lines are those of the convolutions
convolved_lines : (request : Request) (h : List ℕ) (program : Program) (code : Code) (turns : List ℕ)
    (later : List (List ℕ)) → IsListProgram request h program → code ≡ code_of program
    → 0 < request.modulus → All (λ q. q < request.procs) turns →
    (ts : List (List ℕ)) × (vectors_of request.size request.modulus ts ≡ h ∷ later)
    → lines (λ x. results code x turns) later ≡ lines (convolution request.modulus request.size h) later
convolved_lines request h program code turns later made same some there whole =
    let f : List ℕ → List ℕ = λ x. results code x turns in
    let g : List ℕ → List ℕ = convolution request.modulus request.size h in
    let each : (x : List ℕ) → length x ≡ request.size → All (λ v. v < request.modulus) x → f x ≡ g x =
    λ x full below. ap (λ k. results k x turns) same ∙ made.convolver.product x turns (record { size = full; residues = below }) there in
    later_lines request.size request.modulus f g each some (length whole.0 / request.size) whole.0 h later (div-mul-le_self (length whole.0) request.size) whole.1

run_told : {S : Type 0} (schedule : Plan) (request : Request) (code : Code) (old new : Fed)
    (before after : Coming) (out out' : Option (List ℕ)) (h : List ℕ) (program : Program) (leaves : List ℕ → S)
    (first last : S)
    (result : Result (Unit {0}) StreamFault)
    → (made : IsListProgram request h program) → code ≡ code_of program → request.procs ≡ 1 → 0 < request.modulus →
    HasNoStranger schedule 1 → old.taken ≤ limit → (result ≢ Err stream.TooLong → new.taken ≤ limit)
    → StreamsBehind (h ∷ []) (run_text false code (turns_of schedule code.procs)) leaves request.size request.modulus
    old new before after out out' first last result
    → SourceMeets (convolve_work (with_tree request made.tree) (limit - old.taken)) before after out out'
    (status_of_stream result)
run_told schedule request code old new before after out out' h program leaves first last result made same own some none start ends s =
    let turns = turns_of schedule code.procs in
    let procs : code.procs ≡ request.procs = ap (λ (k : Code). k.procs) same ∙ made.convolver.header.procs in
    let there = turns_below schedule code.procs request.procs procs (omega (arith, own))
    (subst (HasNoStranger schedule) (sym own) none) in
    let r = s.reads in
    let whole = reads_vectors request.size request.modulus old new r.read (IsOver after) (h ∷ s.later) result r.answer in
    let told = convolved_lines request h program code turns s.later made same some there whole in
    record {
      read = r.read;
      consumed = r.consumed;
      few = reads_few request.size request.modulus old new r.read (IsOver after) (h ∷ s.later) result r.answer start
          ends;
      meets = λ rest tells.
          let goes : IsOver after → rest ≡ [] = over_left after rest tells in
          run_meets a_first (IsConvolveText (with_tree request made.tree)) request.size request.modulus old new r.read rest
          after.told.ended (h ∷ []) s.later [] (λ x. line_of (results code x turns)) told out out out'
          (Appends-nil out) result refl tt
          (reads_more request.size request.modulus old new r.read (IsOver after) (rest ≡ []) (h ∷ s.later) result
          goes r.answer)
          (r.answers start rest goes) s.wrote ends
          (λ ahead last shown.
          convolved_lines request h program code turns ahead made same some there
          (vectors_ahead request.size request.modulus whole.0 (h ∷ ahead) last
          (omega (arith, program.header.of_size.0, made.convolver.header.size)) (whole.1 ∙ shown)));
    }

-- the list has come, by what the machine's code says of the modulus
pub list_come : (request : Request) (code : Code) (cut : Cut) (old now : Fed) (before mid : Coming)
    (h : List ℕ) (program : Program)
    → IsListProgram request h program → code ≡ code_of program →
    HasCome request.modulus cut old now before mid (h ∷ []) → HasCome code.modulus cut old now before mid (h ∷ [])
list_come request code cut old now before mid h program made same come =
    subst (λ m. HasCome m cut old now before mid (h ∷ [])) (sym (ap (λ (k : Code). k.modulus) same ∙ made.convolver.header.modulus)) come

-- the machine runs after the list
pub convolves_run : {S : Type 0} (schedule : Plan) (request : Request) (code : Code) (cut : Cut) (old now new : Fed)
    (before mid after : Coming) (out out' : Option (List ℕ)) (h : List ℕ) (program : Program) (leaves : List ℕ → S)
    (first last : S)
    (result : Result (Unit {0}) StreamFault)
    → IsListProgram request h program → code ≡ code_of program → cut.size ≡ request.size → request.procs ≡ 1 →
    0 < request.modulus → HasNoStranger schedule 1 → old.taken ≤ limit →
    (result ≢ Err stream.TooLong → new.taken ≤ limit)
    → HasCome request.modulus cut old now before mid (h ∷ [])
    → StreamsOn (run_text false code (turns_of schedule code.procs)) leaves code.modulus cut now new mid after out out'
    first last result
    → SourceMeets (work_by_list false request (limit - old.taken)) before after out out' (status_of_stream result)
convolves_run schedule request code cut old now new before mid after out out' h program leaves first last result made same size own some none start ends come s =
    let text : List ℕ → List ℕ = run_text false code (turns_of schedule code.procs) in
    let modulus : code.modulus ≡ request.modulus = ap (λ (k : Code). k.modulus) same ∙ made.convolver.header.modulus in
    stage_told (conv_chosen request) convolve_work (limit - old.taken) (with_tree request made.tree) before after out out' (status_of_stream result) (refl, made.planned)
    (all_few (limit - old.taken))
    (run_told schedule request code old new before after out out' h program leaves first last result made same own some none start ends
    (subst (λ n. StreamsBehind (h ∷ []) text leaves n request.modulus old new before after out out' first last result) size
    (subst (λ m. StreamsBehind (h ∷ []) text leaves cut.size m old new before after out out' first last result) modulus
    (s old before (h ∷ []) (list_come request code cut old now before mid h program made same come)))))

-- From what comes after the line to the whole input

-- what is right by the line of a request, and then after it
abbrev pub by_line : Plan → Bool → Outcomes
by_line schedule code = by_front (line 256) (λ text. conv_spelt text >>= turned (named schedule)) (work_by_list code)

pub list_within : (schedule : Plan) (code : Bool) → Within (by_line schedule code) (outcomes_by_list schedule code)
list_within schedule false = front_join (line 256) (λ text. conv_spelt text >>= turned (named schedule)) conv_chosen convolve_work
list_within schedule true = front_join (line 256) (λ text. conv_spelt text >>= turned (named schedule)) conv_chosen convolver_work
