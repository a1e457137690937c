-- What `compile` and `apply` come to.
use Rattle.std.proofs.Common.{◌≡◌, ◌<◌, ◌≤◌, ◌+◌, ◌-◌, ◌/◌, ℕ, false, List, [], ◌++◌, None, Some, Ok, Err, Vec, length}
use Rattle.std.proofs.Common.{refl, sym, ap, subst, ◌∙◌, arith, inr}
use Rattle.std.proofs.Common.{Global}
use Rattle.io_edge.proofs.ToldLemmas.{Consumes-kept}
use Rattle.std.proofs.Math.Nat.{div-mul-le_self}
use Rattle.std.specs.List.{All, list_any}
use Rattle.std.specs.declared.option.Option.{Option}
use Rattle.std.specs.Io.KnownBytes.{Appends}
use Rattle.io_edge.specs.Told.{Coming, Consumes, IsOver}
use Rattle.icode.specs.Actions.{plain_code}
use Rattle.icode.specs.Machine.{results}
use Rattle.icode.specs.Plain.{PlainProgram}
use Rattle.icode.specs.Program.{plain_program}
use Rattle.icode.specs.declared.program.Program.{Program}
use Rattle.generate.specs.FormulaCode.Code.{IsCodeOf}
use Rattle.spl_ast.specs.Formula.{Formula, size_of}
use Rattle.spl_ast.specs.Meaning as formulas
use Rattle.io_edge.specs.declared.feed.FeedFault.{FeedFault}
use Rattle.io_edge.specs.declared.feed.FeedFault.TheVariants as feed
use Rattle.io_edge.specs.Feed.{Fed, Feeds, limit}
use Rattle.io_edge.specs.Taken.{AppendsPrefix}
use Rattle.data_stream.specs.Parts.FeedFaults.{rest_fault}
use Rattle.data_stream.specs.declared.parts.RestFault.{RestFault}
use Rattle.data_stream.specs.declared.parts.RestFault.TheVariants as rest_fault
use Rattle.schedules.specs.Schedule.{Plan}
use Rattle.schedules.specs.Turns.{named, turns_of}
use Rattle.spiral_words.specs.declared.Order.TheVariants as order
use Rattle.spiral_words.specs.declared.statuses.status.Status.{Status}
use Rattle.spiral_words.specs.declared.statuses.status.Status.TheVariants.{Success, Turn, ReadFault, WriteFault}
use Rattle.spiral_words.specs.declared.statuses.status.Status.TheVariants.{TooLong}
use Rattle.spiral_words.specs.Statuses.Fault.{status_of_text}
use Rattle.runs.specs.Texts.{run_text}
use Rattle.runs.specs.Stream.{lines, texts, vectors_of, HasNoStranger}
use Rattle.commands.specs.Equations.Apply.{apply_outcomes, apply_work}
use Rattle.commands.specs.Equations.Compile.{compile_outcomes, compile_work}
use Rattle.commands.specs.Equations.Formulas.{formed, written}
use Rattle.commands.specs.Equations.Front.{Work, is_line_end, line, by_front}
use Rattle.commands.specs.Equations.Works.{all, mapping}
use Rattle.commands.specs.Formulas.Compiled.{GivesText, IsCompiledText, IsFormedProgram}
use Rattle.commands.specs.Prepared.{stream_work}
use Rattle.commands.specs.Input.Commands.{admitted, first_stranger}
use Rattle.commands.specs.Input.Line.{IsWhole}
use Rattle.commands.specs.Input.Outcomes.{Outcomes, SourceMeets}
use Rattle.commands.specs.Input.Stage.{Stage}
use Rattle.commands.proofs.Inputs.DataLemmas.{lines_equal, turns_below}
use Rattle.commands.proofs.Inputs.FrontLemmas.{asks_read_fault, asks_too_long, front_refused, text_told}
use Rattle.commands.proofs.Inputs.LineLemmas.{line_is_front}
use Rattle.commands.proofs.Inputs.Within.{told_within}
use Rattle.commands.proofs.Inputs.OutcomeLemmas.{all_few, answered_meets, cut_meets, none_few, told_nothing}
use Rattle.commands.proofs.Inputs.OutcomeLemmas.{unread_meets}
use Rattle.commands.proofs.StreamLemmas.{mapping_within}

-- The line

-- a fault after a part of the line
pub text_failed : (text : List ℕ) (start before after : Coming) (old new : Fed) (fault : FeedFault)
    → Consumes start before text → old.taken ≡ length text → length text ≤ 65536 → list_any is_line_end text ≡ false
    → Feeds old new before after (Err fault)
    → (read : List ℕ) × Consumes start after read × GivesText read (IsOver after) new.taken (Err (rest_fault fault))
text_failed text start before after old new feed.ReadFault consumed taken short unended fed =
    (text, Consumes-kept start before after text consumed fed.1, record { unended = unended; short = short })
text_failed text start before after old new feed.TooLong consumed taken short unended fed = absurd (omega (arith, fed.0, taken, short))

-- The formula

-- the schedule names a second processor
pub unformed : (names text : List ℕ) (formula : Formula) (q : ℕ) → written text (Ok formula) →
    first_stranger names 1 ≡ Some q → formed names text (Err (Turn q 1))
unformed names text formula q spelt found = inr (record { value = formula; before = spelt; behind = sym (ap (λ o. admitted o 1 formula) found) })

pub forms : (names text : List ℕ) (formula : Formula) → written text (Ok formula) → first_stranger names 1 ≡ None →
    formed names text (Ok formula)
forms names text formula spelt none = record { value = formula; before = spelt; behind = sym (ap (λ o. admitted o 1 formula) none) }

-- Without a formula

module _ (orders : List ℕ → Stage Formula) (work : Formula → Work) where
  abbrev by_line : Outcomes
  by_line = by_front (line 65536) orders work

  -- the line is not read
  pub line_unread : (before after : Coming) (out : Option (List ℕ)) (taken : ℕ) (read : List ℕ) (fault : RestFault)
      → Consumes before after read → GivesText read (IsOver after) taken (Err fault)
      → SourceMeets by_line before after out out (status_of_text fault)
  line_unread before after out taken read rest_fault.TooLong consumed given =
      front_refused (line 65536) orders work before after out taken (TooLong 65536)
      (asks_too_long (line 65536) orders before after taken read consumed (omega (arith, given.0)) given.1) (λ e. cc)
  line_unread before after out taken read rest_fault.ReadFault consumed given =
      front_refused (line 65536) orders work before after out taken ReadFault
      (asks_read_fault (line 65536) orders before after taken read consumed
      (let short : length read ≤ 65536 = given.short in omega (arith, short)) given) (λ e. cc)
  line_unread before after out taken read rest_fault.NoMemory consumed given =
      let few : length read ≤ limit + 1 = omega (arith, given) in
      told_nothing by_line before after out read consumed few

-- The listing

-- it is written
pub compile_told : (m : ℕ) (before after : Coming) (out out' : Option (List ℕ)) (taken : ℕ) (read text listing : List ℕ)
    → Consumes before after read → length read ≤ limit → taken ≡ length read
    → IsWhole (line 65536) read (IsOver after) text → length text ≤ 65536
    → IsCompiledText m text listing → Appends out out' listing
    → SourceMeets (compile_outcomes m) before after out out' Success
compile_told m before after out out' taken read text listing consumed few count whole short made wrote =
    let work = compile_work m made.0 (limit - taken) in
    text_told (line 65536) written (compile_work m) (line_is_front 65536) before after after out out' taken read text
    made.0 Success consumed few count whole short made.1 (none_few (limit - taken))
    (unread_meets work after out out' Success (λ bytes.
    answered_meets work bytes bytes after.told.ended out out' Success (λ d. (listing, (refl, made.2), wrote))
    (λ e. cc) (λ e. cc)))

-- a front of it is written
pub compile_cut : (m : ℕ) (before after : Coming) (out out' : Option (List ℕ)) (taken : ℕ) (read text listing : List ℕ)
    → Consumes before after read → length read ≤ limit → taken ≡ length read
    → IsWhole (line 65536) read (IsOver after) text → length text ≤ 65536
    → IsCompiledText m text listing → AppendsPrefix out out' listing
    → SourceMeets (compile_outcomes m) before after out out' WriteFault
compile_cut m before after out out' taken read text listing consumed few count whole short made wrote =
    let work = compile_work m made.0 (limit - taken) in
    text_told (line 65536) written (compile_work m) (line_is_front 65536) before after after out out' taken read text
    made.0 WriteFault consumed few count whole short made.1 (none_few (limit - taken))
    (unread_meets work after out out' WriteFault (λ bytes.
    cut_meets work [] bytes after.told.ended listing out out' wrote (refl, made.2)))

-- The formula's matrix times the vectors

-- the machine's lines are those of the matrix
formula_lines : (m : ℕ) (formula : Formula) (own : PlainProgram) (turns : List ℕ) → IsCodeOf m formula own →
    All (λ q. q < 1) turns
    → (ts : List (List ℕ)) → lines (λ x. results (plain_code own) x turns) (vectors_of (size_of formula) m ts)
    ≡ lines (formulas.apply m formula) (vectors_of (size_of formula) m ts)
formula_lines m formula own turns is there ts =
    let some : 0 < m = omega (arith, is.limits.header.of_modulus.0, is.header.modulus) in
    let f : List ℕ → List ℕ = λ x. results (plain_code own) x turns in
    let same : (x : List ℕ) → length x ≡ size_of formula → All (λ v. v < m) x → f x ≡ formulas.apply m formula x =
    λ x full below. is.product x turns (record { size = full; residues = below }) there in
    lines_equal (size_of formula) m f (formulas.apply m formula) same some (length ts / size_of formula) ts (div-mul-le_self (length ts) (size_of formula))

pub apply_told : (m : ℕ) (schedule : Plan) (program : Program) (front : Vec ℕ Global)
    (before mid left : Coming) (out out' : Option (List ℕ)) (taken : ℕ) (read text : List ℕ) (status : Status)
    → Consumes before mid read → length read ≤ limit → taken ≡ length read
    → IsWhole (line 65536) read (IsOver mid) text → length text ≤ 65536
    → IsFormedProgram m (named schedule) text program → HasNoStranger schedule program.procs → front.items ≡ []
    → SourceMeets (stream_work (record { program = program; front = front; lines = false }) (order.Turns schedule) (limit - taken)) mid left out out' status
    → SourceMeets (apply_outcomes m schedule) before left out out' status
apply_told m schedule program front before mid left out out' taken read text status consumed few count whole short made none alone p =
    let own : PlainProgram = plain_program program in
    let formula : Formula = made.0 in
    let is : IsCodeOf m formula own = made.2 in
    let turns = turns_of schedule program.procs in
    let room = limit - taken in
    let there = turns_below schedule program.procs 1 is.header.procs (omega arith)
    (subst (HasNoStranger schedule) is.header.procs none) in
    let Writes : List (List ℕ) → List ℕ → Type 0 = λ vectors t. t ≡ front.items ++ texts (run_text false (plain_code own) turns) vectors in
    let Wanted : List (List ℕ) → List ℕ → Type 0 = λ vectors t. t ≡ lines (formulas.apply m formula) vectors in
    let sized : SourceMeets (mapping all (size_of formula) m Writes room) mid left out out' status =
    subst (λ n. SourceMeets (mapping all (size_of formula) n Writes room) mid left out out' status) is.header.modulus
    (subst (λ n. SourceMeets (mapping all n own.modulus Writes room) mid left out out' status) is.header.size p) in
    text_told (line 65536) (formed (named schedule)) (apply_work m) (line_is_front 65536) before mid left out out' taken
    read text formula status consumed few count whole short made.1 (all_few room)
    (told_within (mapping all (size_of formula) m Writes room) (apply_work m formula room) mid left out out' status
    (mapping_within (size_of formula) m Writes Wanted room (omega (arith, program.header.of_size.0, is.header.size))
    (λ ts t written.
    written ∙ ap (λ l. l ++ texts (run_text false (plain_code own) turns) (vectors_of (size_of formula) m ts)) alone
    ∙ formula_lines m formula own turns is there ts)) sized)
