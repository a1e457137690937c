-- A line is right exactly where it orders what it is right for.
use Rattle.std.proofs.Common.{◌≡◌, ◌≤◌, ℕ, Bool, true, false, List, None, Ok, Err, Result, length, nat_le, cond}
use Rattle.std.proofs.Common.{refl, sym, subst, arith}
use Rattle.std.proofs.lemmas.Grind.{common_steps}
use Rattle.commands.proofs.Inputs.Stages.{admitted_same, done, done_ended, done_same}
use Rattle.commands.specs.Convolutions.ConvPlanned.{IsConvPlanned}
use Rattle.commands.specs.Equations.Convolutions.{conv_planned, conv_spelt}
use Rattle.commands.specs.Equations.Formulas.{written}
use Rattle.commands.specs.Equations.Front.{Front, line, ordered, taken_from}
use Rattle.commands.specs.Equations.Orders.{Planned, planned, turned}
use Rattle.commands.specs.Planned.{IsPlanned}
use Rattle.commands.specs.Input.Asking.{spelt}
use Rattle.commands.specs.Input.Commands.{first_stranger}
use Rattle.commands.specs.Input.Stage.{Stage, ◌>>=◌}
use Rattle.matrix_meaning.specs.Valid.{IsInRange}
use Rattle.matrix_meaning.specs.declared.Request.{Request}
use Rattle.request_text.proofs.Judged.{passed_in_range}
use Rattle.spiral_words.specs.declared.statuses.status.Status.{Status}
use Rattle.spiral_words.specs.declared.statuses.status.Status.TheVariants.{TooLong}
use Rattle.spl_ast.specs.Formula.{Formula}
use Rattle.spiral_main.specs.RightFront.{IsRightConvLine, IsRightFormulaLine, IsRightLine}

-- ---- the front

-- a front that is taken is not too long
taken_short : (front : Front) (bytes text : List ℕ) → done text ≡ taken_from front bytes
    → (length (front.first bytes) ≤ front.most) × (text ≡ front.first bytes)
taken_short front bytes text is = at (nat_le (length (front.first bytes)) front.most) refl is
  where
    at : (test : Bool) → nat_le (length (front.first bytes)) front.most ≡ test
        → done text ≡ cond {A = Result (List ℕ) Status} test (Ok (front.first bytes)) (Err (TooLong front.most))
        → (length (front.first bytes) ≤ front.most) × (text ≡ front.first bytes)
    at true fits same = (grind (arith, common_steps), done_same text (front.first bytes) same)
    at false long same = absurd (done_ended text (TooLong front.most) same)

front_taken : {A : Type 0} (front : Front) (orders : List ℕ → Stage A) (value : A) (bytes : List ℕ)
    → ordered front orders bytes (Ok value)
    → (length (front.first bytes) ≤ front.most) × orders (front.first bytes) (Ok value)
front_taken front orders value bytes gives =
    let taken = taken_short front bytes gives.value gives.before in
    (taken.0, subst (λ text. orders text (Ok value)) taken.1 gives.behind)

-- ---- the request

-- the request that a line spells, if it has the processors
pub turned_spelt : (spells : List ℕ → Stage Request) (names text : List ℕ) (request : Request)
    → (spells text >>= turned names) (Ok request)
    → spells text (Ok request) × (first_stranger names request.procs ≡ None)
turned_spelt spells names text request p =
    let own = p.value in
    let same = admitted_same (first_stranger names own.procs) own.procs own request p.behind in (
      subst (λ (r : Request). spells text (Ok r)) same.0 p.before,
      subst (λ (r : Request). first_stranger names r.procs ≡ None) same.0 same.1,
    )

pub spelt_in_range : (text : List ℕ) (request : Request) → spelt text (Ok request) → IsInRange request
spelt_in_range text request spells = passed_in_range text request spells.0 spells.1

-- the request is in range, and the tree is the one that is planned for it
pub plan_of : (names text : List ℕ) (plan : Planned) → planned names text (Ok plan)
    → IsInRange plan.request × IsPlanned plan.request (Ok plan.tree)
plan_of names text plan p =
    let spelling = turned_spelt spelt names text p.value p.before in (
      subst IsInRange (sym p.behind.0) (spelt_in_range text p.value spelling.0),
      subst (λ (r : Request). IsPlanned r (Ok plan.tree)) (sym p.behind.0) p.behind.1,
    )

-- ---- lines

pub ordered_line : (names bytes : List ℕ) (plan : Planned) → ordered (line 256) (planned names) bytes (Ok plan)
    → IsRightLine names bytes plan
ordered_line names bytes plan gives =
    let taken = front_taken (line 256) (planned names) plan bytes gives in
    let p = taken.1 in
    let spelling = turned_spelt spelt names ((line 256).first bytes) p.value p.before in
    record {
      short = taken.0;
      spells = subst (λ (r : Request). spelt ((line 256).first bytes) (Ok r)) (sym p.behind.0) spelling.0;
      turns = subst (λ (r : Request). first_stranger names r.procs ≡ None) (sym p.behind.0) spelling.1;
      planned = subst (λ (r : Request). IsPlanned r (Ok plan.tree)) (sym p.behind.0) p.behind.1;
    }

pub ordered_conv_line : (names bytes : List ℕ) (plan : Planned)
    → ordered (line 256) (conv_planned names) bytes (Ok plan) → IsRightConvLine names bytes plan
ordered_conv_line names bytes plan gives =
    let taken = front_taken (line 256) (conv_planned names) plan bytes gives in
    let p = taken.1 in
    let spelling = turned_spelt conv_spelt names ((line 256).first bytes) p.value p.before in
    record {
      short = taken.0;
      spells = subst (λ (r : Request). conv_spelt ((line 256).first bytes) (Ok r)) (sym p.behind.0) spelling.0;
      turns = subst (λ (r : Request). first_stranger names r.procs ≡ None) (sym p.behind.0) spelling.1;
      planned = subst (λ (r : Request). IsConvPlanned r (Ok plan.tree)) (sym p.behind.0) p.behind.1;
    }

pub ordered_formula_line : (bytes : List ℕ) (formula : Formula) → ordered (line 65536) written bytes (Ok formula)
    → IsRightFormulaLine bytes formula
ordered_formula_line bytes formula gives =
    let taken = front_taken (line 65536) written formula bytes gives in record { short = taken.0; spells = taken.1 }
