-- What `check` comes to after the first line.
use Rattle.std.proofs.Common.{◌≡◌, ◌<◌, ◌≤◌, ◌+◌, ℕ, List, [], ◌++◌, Ok, Err, Vec, Global, length, refl, sym, ap}
use Rattle.std.proofs.Common.{Bool, subst, ◌∙◌, arith, append-nil, length-append, inl, inr}
use Rattle.std.proofs.KnownBytes.{Appends-nil}
use Rattle.std.specs.declared.option.Option.{Option}
use Rattle.std.specs.Io.KnownBytes.{Appends}
use Rattle.io_edge.specs.Told.{Coming, Consumes, IsOver}
use Rattle.data_stream.specs.Parts.Rest.{GivesRest}
use Rattle.data_stream.specs.declared.parts.RestFault.{RestFault}
use Rattle.data_stream.specs.declared.parts.RestFault.TheVariants as rest_fault
use Rattle.generate.specs.Planned.{IsAdmitted, IsBarred}
use Rattle.io_edge.specs.Taken.{AppendsPrefix}
use Rattle.matrix_meaning.specs.declared.Request.{Request}
use Rattle.plan_cert.specs.Verdict.{IsVerdict}
use Rattle.plan_cert.specs.declared.verdict.Verdict.{Verdict}
use Rattle.plan_cert.specs.declared.verdict.Verdict.TheVariants as verdict
use Rattle.generate_faults.specs.declared.generate_fault.GenerateFault.{GenerateFault}
use Rattle.spiral_words.specs.Statuses.Fault.{status_of_generate, status_of_rest}
use Rattle.spiral_words.specs.declared.statuses.status.Status.TheVariants.{WriteFault}
use Rattle.commands.specs.Checked.{certificate_limit, status_of_verdict, least_line, verdict_text}
use Rattle.commands.specs.Equations.Check.{fitting}
use Rattle.commands.specs.Equations.Front.{Work, staged}
use Rattle.commands.specs.Equations.Works.{judging}
use Rattle.commands.specs.Input.Outcomes.{Meets, SourceMeets}
use Rattle.commands.proofs.DocumentLemmas.{generate_refusal}
use Rattle.commands.proofs.Inputs.StageLemmas.{stage_refused, stage_told}
use Rattle.io_edge.proofs.ToldLemmas.{over_left}
use Rattle.commands.proofs.Inputs.OutcomeLemmas.{answered_meets, broken_meets, cut_meets, meets_nothing}
use Rattle.commands.proofs.Inputs.OutcomeLemmas.{all_few, told_nothing}

abbrev pub judges : Request → Work
judges request = judging (IsVerdict request)

-- what is right for `check` after the line of this request
abbrev pub checking : Request → Work
checking request = staged (fitting request) judges

pub check_barred : (request : Request) (room : ℕ) (before : Coming) (out : Option (List ℕ)) (fault : GenerateFault)
    → IsBarred request fault → SourceMeets (checking request room) before before out out (status_of_generate fault)
check_barred request room before out fault barred =
    stage_refused (fitting request) judges room before out (status_of_generate fault) (λ _. (fault, barred, refl)) (generate_refusal fault)

-- the rest can't be judged
unread_told : (request : Request) (room : ℕ) (before after : Coming) (out : Option (List ℕ)) (read : List ℕ)
    (fault : RestFault)
    → certificate_limit ≤ room → Consumes before after read
    → GivesRest certificate_limit read (IsOver after) (Err fault)
    → SourceMeets (judges request room) before after out out (status_of_rest fault)
unread_told request room before after out read rest_fault.TooLong fits consumed given = record {
  read = read;
  consumed = consumed;
  few = let few : length read ≤ room + 1 = omega (arith, fits, given) in few;
  meets = λ rest tells.
      let count : length (read ++ rest) ≡ length read + length rest = length-append read rest in
      let long : certificate_limit < length (read ++ rest) = omega (arith, count, given) in
      meets_nothing (judges request room) (read ++ rest) rest after.told.ended out (status_of_rest rest_fault.TooLong)
      (λ d. inl (long, refl, refl)) (λ e. cc) (λ e. cc);
}
unread_told request room before after out read rest_fault.ReadFault fits consumed given = record {
  read = read;
  consumed = consumed;
  few = let few : length read ≤ room + 1 = omega (arith, fits, given) in few;
  meets = λ rest tells.
      broken_meets (judges request room) (read ++ rest) rest after.told.ended out out
      (read, [], refl, (given, refl), Appends-nil out);
}
unread_told request room before after out read rest_fault.NoMemory fits consumed given =
    let few : length read ≤ room + 1 = omega (arith, fits, given) in
    told_nothing (judges request room) before after out read consumed few

pub check_unread : (request : Request) (room : ℕ) (before after : Coming) (out : Option (List ℕ)) (read : List ℕ)
    (fault : RestFault)
    → certificate_limit ≤ room → IsAdmitted request → Consumes before after read
    → GivesRest certificate_limit read (IsOver after) (Err fault)
    → SourceMeets (checking request room) before after out out (status_of_rest fault)
check_unread request room before after out read fault fits there consumed given =
    stage_told (fitting request) judges room request before after out out (status_of_rest fault) (refl, there)
    (all_few room) (unread_told request room before after out read fault fits consumed given)

-- the rest of the input is a text with this verdict
pub record IsFound (request : Request) (before after : Coming) (found : Verdict) : Type 0 where
  pub read : List ℕ
  pub consumed : Consumes before after read
  pub end : IsOver after
  pub short : length read ≤ certificate_limit
  pub judged : IsVerdict request read found

-- as it was read and found
pub found_of : (request context : Request) (before after : Coming) (text : Vec ℕ Global) (seen : List ℕ)
    (found other : Verdict)
    → (read : List ℕ) × Consumes before after read × GivesRest certificate_limit read (IsOver after) (Ok text)
    → context ≡ request → seen ≡ text.items → other ≡ found → IsVerdict context seen other
    → IsFound request before after found
found_of request context before after text seen found other (read, consumed, (same, end, short)) c q e judged = record {
  read = read;
  consumed = consumed;
  end = end;
  short = short;
  judged =
      subst (λ (l : List ℕ). IsVerdict request l found) (q ∙ same)
      (subst (λ (v : Verdict). IsVerdict request seen v) e (subst (λ (r : Request). IsVerdict r seen other) c judged));
}

judged_meets : (request : Request) (room : ℕ) (bytes left : List ℕ) (ended : Bool) (out out' : Option (List ℕ))
    (found : Verdict)
    → length bytes ≤ certificate_limit → IsVerdict request bytes found → Appends out out' (verdict_text found)
    → Meets (judges request room) bytes left ended out out' (status_of_verdict found)
judged_meets request room bytes left ended out out' verdict.Unread few judged w =
    answered_meets (judges request room) bytes left ended out out' (status_of_verdict verdict.Unread)
    (λ d. ([], inr (few, (verdict.Unread, judged, refl, refl)), w)) (λ e. cc) (λ e. cc)
judged_meets request room bytes left ended out out' found few judged w =
    answered_meets (judges request room) bytes left ended out out' (status_of_verdict found)
    (λ d. (verdict_text found, inr (few, (found, judged, refl, refl)), w)) (λ e. cc) (λ e. cc)

-- a rest that was judged
pub check_judged : (request : Request) (room : ℕ) (before after : Coming) (out out' : Option (List ℕ)) (found : Verdict)
    → certificate_limit ≤ room → IsAdmitted request → IsFound request before after found
    → Appends out out' (verdict_text found)
    → SourceMeets (checking request room) before after out out' (status_of_verdict found)
check_judged request room before after out out' found fits there f w =
    stage_told (fitting request) judges room request before after out out' (status_of_verdict found) (refl, there)
    (all_few room) (record {
      read = f.read;
      consumed = f.consumed;
      few = let few : length f.read ≤ room + 1 = omega (arith, fits, f.short) in few;
      meets = λ rest tells.
          let whole : f.read ++ rest ≡ f.read =
          ap (λ l. f.read ++ l) (over_left after rest tells f.end) ∙ append-nil f.read in
          judged_meets request room (f.read ++ rest) rest after.told.ended out out' found
          (subst (λ (l : List ℕ). length l ≤ certificate_limit) (sym whole) f.short)
          (subst (λ (l : List ℕ). IsVerdict request l found) (sym whole) f.judged) w;
    })

-- a rest that was judged right, and the line that says so was not written whole
pub check_cut : (request : Request) (room : ℕ) (before after : Coming) (out out' : Option (List ℕ)) (cost : ℕ)
    → certificate_limit ≤ room → IsAdmitted request → IsFound request before after (verdict.Least cost)
    → AppendsPrefix out out' (least_line cost) → SourceMeets (checking request room) before after out out' WriteFault
check_cut request room before after out out' cost fits there f w =
    stage_told (fitting request) judges room request before after out out' WriteFault (refl, there)
    (all_few room) (record {
      read = f.read;
      consumed = f.consumed;
      few = let few : length f.read ≤ room + 1 = omega (arith, fits, f.short) in few;
      meets = λ rest tells.
          cut_meets (judges request room) f.read rest after.told.ended (least_line cost) out out' w
          (over_left after rest tells f.end, f.short, (verdict.Least cost, f.judged, refl, refl));
    })
