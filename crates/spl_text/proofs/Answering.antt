-- What reading gives is the answer: the formula that the text spells, or its first fault; and the answer is one.
use Rattle.std.proofs.Common.{min, ◌≡◌, ◌≢◌, ℕ, ◌-◌, ◌≤◌, inl, inr, Bool, true, false, cond, eqb, List, [], ◌∷◌, ◌++◌}
use Rattle.std.proofs.Common.{length, take, codes, Result, Ok, Err, refl, sym, ap, subst, ◌∙◌, append_assoc, arith}
use Rattle.std.proofs.lemmas.Bool.{eqb-true}
use Rattle.std.proofs.lemmas.List.{append-nil, length-append, take_at}
use Rattle.grammar.specs.Grammar.{Begins, optional, word}
use Rattle.grammar.specs.Reading.{Place, start, ended, given_up, placed, word_in, word_at, optional_at, pure_at}
use Rattle.grammar.specs.Stops.{Stop, Lost, Fault, and_go_on, spelling_only}
use Rattle.spl_ast.specs.Formula.{Formula}
use Rattle.spl_ast.specs.Nesting.{nesting_of}
use Rattle.spl_text.specs.declared.reading.Halt.{Halt}
use Rattle.spl_text.specs.declared.reading.Halt.TheVariants as halts
use Rattle.spl_text.specs.declared.reading.SplFault.{SplFault}
use Rattle.spl_text.specs.declared.reading.SplFault.TheVariants as faults
use Rattle.spl_text.specs.Answer.{opened, closed, IsShallow, IsFineBefore, IsWritten, Answers}
use Rattle.spl_text.specs.Fault.{TextFault, TooDeep, Shape}
use Rattle.spl_text.specs.Reader.{SaysAll, fault_of, IsLeft, IsRead}
use Rattle.spl_text.specs.Reading.{plain, formula_at, ended_formula, all_of, whole_line}
use Rattle.spl_text.specs.Spelling.{spells, spells_line, spelling, HasSpelling}
use Rattle.spl_text.proofs.FirstFault.{line_begins, fine_before, faultless, first_once}
use Rattle.spl_text.proofs.Fitted.{IsFitted, Fits, fitted_more, spelling_fitted}
use Rattle.spl_text.proofs.Nested.{text_has, formula_nesting, read_is_printable}
use Rattle.spl_text.proofs.Once.{once}
use Rattle.spl_text.proofs.Parentheses.{spelling_balanced, shallow_by_count, shallow_both, within_shallow}
use Rattle.spl_text.proofs.PartStops.{formula_stops}
use Rattle.spl_text.proofs.Passing.{IsFlat, formula_keeps}
use Rattle.spl_text.proofs.Stopping.{Stops, formula_took}
use Rattle.spl_text.proofs.Whole.{text_answers, within}

-- ---- a formula and what may stand behind it

-- no part of what stands behind a formula opens or closes a parenthesis
behind_shallow : (f : Formula) (xs : List ℕ) → HasSpelling f → nesting_of f ≤ 128 → opened xs ≡ 0 → IsShallow 128
    (spelling f ++ xs)
behind_shallow f xs spelt low none =
    shallow_both 0 0 128 (spelling f) xs (spelling_balanced f spelt) (within_shallow 128 f low spelt)
    (shallow_by_count 0 xs (omega (arith, none))) (omega arith)

behind_fitted : (f : Formula) (xs : List ℕ) → HasSpelling f → Fits f → closed xs ≡ 0 → IsFitted (spelling f ++ xs)
behind_fitted f xs spelt fits none = fitted_more (spelling f) xs (spelling_fitted f spelt fits) none

same_stop : (s t : Stop TextFault) → (let r : Result Formula (Stop TextFault) = Err s in r ≡ Err t) → s ≡ t
same_stop s t e = cc

lost_at_end : (f : Formula) (rest : List ℕ) (far : ℕ) (stop : Stop TextFault) → ended_formula (ended f rest far)
    ≡ Err stop →
    (left : ℕ) × (Lost left ≡ stop) × (left ≡ min far (length rest))
lost_at_end f [] far stop e = absurd cc
lost_at_end f (y ∷ rest) far stop e = (
  min far (length (y ∷ rest)),
  same_stop
      (Lost (min far (length (y ∷ rest)))) stop e,
  refl,
)

-- what stands behind the formula, up to where reading is lost
tail : (f : Formula) (rest : List ℕ) (far : ℕ) (stop : Stop TextFault) → length rest ≤ far →
    all_of (and_go_on (plain (optional_at tt (word_at (codes "\n"))) (record { rest = rest; far = far }))
    (λ _. plain (pure_at f))) ≡ Err stop
    → (left : ℕ) × (Lost left ≡ stop) × IsFlat rest left
tail f [] far stop le e = absurd cc
tail f (b ∷ rest) far stop le e = by_test (eqb 10 b) refl e
  where
    by_test : (t : Bool) → eqb 10 b ≡ t
        → all_of (and_go_on (spelling_only (given_up tt (b ∷ rest)
        (placed far (cond t (word_in [] rest) (Err (length (b ∷ rest))))))) (λ _. plain (pure_at f))) ≡ Err stop
        → (left : ℕ) × (Lost left ≡ stop) × IsFlat (b ∷ rest) left
    by_test true t e =
        let l = lost_at_end f rest far stop e in (
          l.0,
          l.1,
          record {
            good = b ∷ [];
            bad = rest;
            whole = refl;
            long = omega (arith, l.2, le);
            opens = subst (λ z. opened (z ∷ []) ≡ 0) (eqb-true 10 b t) refl;
            closes = subst (λ z. closed (z ∷ []) ≡ 0) (eqb-true 10 b t) refl;
          },
        )
    by_test false t e =
        let l = lost_at_end f (b ∷ rest) (min far (length (b ∷ rest))) stop e in (
          l.0,
          l.1,
          record {
            good = [];
            bad = b ∷ rest;
            whole = refl;
            long = omega (arith, l.2, le);
            opens =
                refl;
            closes = refl;
          },
        )

text_stops : (text : List ℕ) (stop : Stop TextFault) → whole_line text ≡ Err stop → Stops 128 text stop
text_stops text stop e = by_formula (formula_at 128 (start text)) refl e
  where
    by_formula : (r : Result (Formula × Place ℕ) (Stop TextFault)) → formula_at 128 (start text) ≡ r
        → all_of (and_go_on r (λ f place. and_go_on (plain (optional_at tt (word_at (codes "\n"))) place)
        (λ _. plain (pure_at f)))) ≡ Err stop
        → Stops 128 text stop
    by_formula (Err s) is e = subst (Stops 128 text) (same_stop s stop e)
        (formula_stops 128 (start text) s (omega arith) is)
    by_formula (Ok x) is e =
        let took = formula_took 128 (start text) x is in
        let keeps = formula_keeps 128 (start text) x is in
        let l = tail x.0 x.1.rest x.1.far stop (keeps.1 (omega arith)) e in
        subst (Stops 128 text) l.1 record {
          met = spelling x.0 ++ l.2.good;
          after = l.2.bad;
          whole = took.1 ∙ ap (λ z. spelling x.0 ++ z) l.2.whole ∙ sym (append_assoc (spelling x.0) l.2.good l.2.bad);
          shallow = behind_shallow x.0 l.2.good took.0 (formula_nesting 128 (start text) x is) l.2.opens;
          fitted = behind_fitted x.0 l.2.good took.0 keeps.0 l.2.closes;
          shown = l.2.long;
        }

-- ---- what reading gives is an answer

shorter : (xs ys : List ℕ) → Begins spells (xs ++ ys) → Begins spells xs
shorter xs ys b = (ys ++ b.0, b.1, subst (λ z. spells z b.1) (append_assoc xs ys b.0) b.2)

fine_at : (text met after : List ℕ) (place : ℕ) → text ≡ met ++ after → place ≡ length met → Begins spells met →
    IsShallow 128 met →
    IsFitted met → IsFineBefore text place
fine_at text met after place whole same begins shallow fitted =
    subst (IsFineBefore text) (sym same) (fine_before text met after whole (line_begins met begins) shallow fitted)

pub answer_fault : (text : List ℕ) (halt : Halt) → SaysAll (Err halt) (whole_line text) →
    Answers text (Err (fault_of (length text) halt))
answer_fault text halts.NoMemory e = λ some. absurd (some refl)
answer_fault text (halts.Syntax left) e = λ some.
    let s = text_stops text (Lost left) e in
    let stuck = (text_answers text (Err (Lost left)) e).1 in
    let same : length text - left ≡ length s.met = omega
    (arith, s.shown, ap length s.whole, length-append s.met s.after) in
    let here : take (length text - left) text ≡ s.met =
    ap (λ n. take n text) same ∙ ap (take (length s.met)) s.whole ∙ take_at s.met s.after (length s.met) refl in
    let fine : IsFineBefore text (length text - left) = subst (IsFineBefore text) (sym same)
    (fine_before text s.met s.after s.whole
    (subst (λ z. Begins spells_line z) here stuck.place.begins) s.shallow s.fitted) in
    (length text - left, (stuck, refl), fine)
answer_fault text (halts.TooDeep left) e = λ some.
    let s = text_stops text (Fault (TooDeep left)) e in
    let d = s.shown in
    let same : length text - left ≡ length s.met = omega
    (arith, d.long, ap length s.whole, length-append s.met s.after) in (
      length text - left,
      (
        record {
          before = s.met;
          after = d.more;
          whole = s.whole ∙ ap (λ z. s.met ++ z) d.next;
          place = sym same;
          opens = d.level;
          shallow = s.shallow;
          begins = d.begins;
        },
        refl,
      ),
      fine_at text s.met s.after (length text - left) s.whole same
          (shorter s.met (codes "(") d.begins) s.shallow s.fitted,
    )
answer_fault text (halts.Shape left first second) e = λ some.
    let s = text_stops text (Fault (Shape left first second)) e in
    let d = s.shown in
    let whole : text ≡ d.before ++ (d.part ++ d.more) =
    s.whole ∙ ap (λ z. s.met ++ z) d.next ∙ sym (append_assoc s.met (codes ")") d.more) ∙ ap (λ z. z ++ d.more) d.whole
    ∙ append_assoc d.before d.part d.more in (
      length s.met,
      record {
        before = d.before;
        part = d.part;
        after = d.more;
        value = d.value;
        whole = whole;
        starts = omega (arith, d.long, ap length whole, length-append d.before (d.part ++ d.more));
        ends = sym (ap length d.whole) ∙ length-append s.met (codes ")");
        behind = d.behind;
        begins = subst (λ z. Begins spells z) d.whole d.begins;
        spelt = d.spelt;
        refused = d.refused;
      },
      fine_at text s.met s.after (length s.met) s.whole refl (shorter s.met (codes ")") d.begins) s.shallow s.fitted,
    )

line_end_flat : (u : List ℕ) (x : Unit {0}) → optional tt (word (codes "\n")) u x → (opened u ≡ 0) × (closed u ≡ 0)
line_end_flat u x (inl l) = (ap opened l.0, ap closed l.0)
line_end_flat u x (inr l) = (ap opened l, ap closed l)

line_is : (text : List ℕ) (f : Formula) → spells_line text f →
    (rest : List ℕ) × HasSpelling f × (text ≡ spelling f ++ rest) × (opened rest ≡ 0) × (closed rest ≡ 0)
unfolding spells
line_is text f l =
    let end = l.ends in
    let rest : l.rest ≡ end.front = end.whole ∙ ap (λ z. end.front ++ z) end.ends.0 ∙ append-nil end.front in
    let flat = line_end_flat end.front end.spelt end.begins in
    let same : l.spelt ≡ f = sym end.ends.1 in (
      l.rest,
      subst HasSpelling same l.begins.0,
      l.whole ∙ ap (λ z. z ++ l.rest) (l.begins.1 ∙ ap spelling same),
      ap opened rest ∙ flat.0,
      ap closed rest ∙ flat.1,
    )

pub answer_formula : (text : List ℕ) (f : Formula) → whole_line text ≡ Ok f → IsWritten text f
answer_formula text f e =
    let spelt = text_answers text (Ok f) e in
    let printable = read_is_printable text f spelt e in
    let l = line_is text f spelt in
    let fits : Fits f = text_has Fits text f (λ y is. (formula_keeps 128 (start text) y is).0) e in
    record {
      spelt = spelt;
      printable = printable;
      faultless = faultless text f spelt (subst (IsShallow 128) (sym l.2)
          (behind_shallow f l.0 l.1 printable.shallow l.3))
          (subst IsFitted (sym l.2) (behind_fitted f l.0 l.1 fits l.4));
    }

-- ---- one answer

pub record IsFound (text : List ℕ) (answer : Result Formula SplFault) : Type 0 where
  pub some : answer ≢ Err faults.NoMemory
  pub read : IsRead text answer
  pub answers : Answers text answer

placed_left : (text : List ℕ) (left : ℕ) → left ≤ length text → IsLeft text (length text - left) left
placed_left text left h = record { within = omega arith; left_is = omega arith }

pub found : (text : List ℕ) → (answer : Result Formula SplFault) × IsFound text answer
found text = by_reading (whole_line text) refl
  where
    by_reading : (read : Result Formula (Stop TextFault)) → whole_line text ≡ read →
        (answer : Result Formula SplFault) × IsFound text answer
    by_reading (Ok f) is = (Ok f, record { some = λ e. cc; read = is; answers = answer_formula text f is })
    by_reading (Err (Lost left)) is = (
      Err (faults.Syntax (length text - left)),
      record {
        some = λ e. cc;
        read = (left, placed_left text left (within text (halts.Syntax left) is), is);
        answers = answer_fault text (halts.Syntax left) is;
      },
    )
    by_reading (Err (Fault (TooDeep left))) is = (
      Err (faults.TooDeep (length text - left)),
      record {
        some = λ e. cc;
        read = (left, placed_left text left (within text (halts.TooDeep left) is), is);
        answers = answer_fault text (halts.TooDeep left) is;
      },
    )
    by_reading (Err (Fault (Shape left first second))) is = (
      Err (faults.Shape (length text - left) first second),
      record {
        some = λ e. cc;
        read = (left, placed_left text left (within text (halts.Shape left first second) is), is);
        answers = answer_fault text (halts.Shape left first second) is;
      },
    )

pub line_once : (text : List ℕ) (f g : Formula) → spells_line text f → spells_line text g → f ≡ g
line_once text f g h k =
    let l = line_is text f h in let m = line_is text g k in (once f g l.0 m.0 l.1 m.1 (sym l.2 ∙ m.2)).0

pub not_memory : (fault : SplFault) → (let r : Result Formula SplFault = Err fault in r ≢ Err faults.NoMemory) →
    fault ≢ faults.NoMemory
not_memory fault some e = some (ap (λ f. Err f) e)

pub one_answer : (text : List ℕ) (a b : Result Formula SplFault) → a ≢ Err faults.NoMemory → b ≢ Err faults.NoMemory →
    Answers text a
    → Answers text b → a ≡ b
one_answer text (Ok f) (Ok g) m n p q = ap (λ h. Ok h) (line_once text f g p.spelt q.spelt)
one_answer text (Ok f) (Err fault) m n p q =
    let first = q (not_memory fault n) in absurd (p.faultless fault first.0 first.1)
one_answer text (Err fault) (Ok g) m n p q =
    let first = p (not_memory fault m) in absurd (q.faultless fault first.0 first.1)
one_answer text (Err a) (Err b) m n p q =
    ap (λ h. Err h) (first_once text a b (p (not_memory a m)) (q (not_memory b n)))

pub some_answer : (text : List ℕ) → (answer : Result Formula SplFault) × (answer ≢ Err faults.NoMemory)
    × Answers text answer
some_answer text = let f = found text in (f.0, f.1.some, f.1.answers)

-- an answer is what reading gives
read_of : (text : List ℕ) (answer : Result Formula SplFault) → answer ≢ Err faults.NoMemory → Answers text answer →
    IsRead text answer
read_of text answer some h =
    let f = found text in subst (IsRead text) (one_answer text f.0 answer f.1.some some f.1.answers h) f.1.read

pub answer_is_read : (text : List ℕ) (answer : Result Formula SplFault) → Answers text answer → IsRead text answer
answer_is_read text (Ok f) h = read_of text (Ok f) (λ e. cc) h
answer_is_read text (Err faults.NoMemory) h = tt
answer_is_read text (Err (faults.Syntax at)) h = read_of text (Err (faults.Syntax at)) (λ e. cc) h
answer_is_read text (Err (faults.TooDeep at)) h = read_of text (Err (faults.TooDeep at)) (λ e. cc) h
answer_is_read text (Err (faults.Shape at first second)) h = read_of text (Err (faults.Shape at first second))
    (λ e. cc) h

from_left : (text : List ℕ) (at left : ℕ) → IsLeft text at left → length text - left ≡ at
from_left text at left p = omega (arith, p.within, p.left_is)

pub read_is_answer : (text : List ℕ) (answer : Result Formula SplFault) → IsRead text answer → Answers text answer
read_is_answer text (Ok f) h = answer_formula text f h
read_is_answer text (Err faults.NoMemory) h = λ some. absurd (some refl)
read_is_answer text (Err (faults.Syntax at)) h =
    subst (λ n. Answers text (Err (faults.Syntax n))) (from_left text at h.0 h.1)
    (answer_fault text (halts.Syntax h.0) h.2)
read_is_answer text (Err (faults.TooDeep at)) h =
    subst (λ n. Answers text (Err (faults.TooDeep n))) (from_left text at h.0 h.1)
    (answer_fault text (halts.TooDeep h.0) h.2)
read_is_answer text (Err (faults.Shape at first second)) h =
    subst (λ n. Answers text (Err (faults.Shape n first second))) (from_left text at h.0 h.1)
    (answer_fault text (halts.Shape h.0 first second) h.2)
