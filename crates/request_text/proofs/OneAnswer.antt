-- What a text spells, and what is answered for it, is one.
use Rattle.std.proofs.Common.{◌≡◌, ℕ, ◌-◌, ◌≤◌, List, length, Result, Ok, Err, refl, sym, ap, ◌∙◌, arith}
use Rattle.matrix_meaning.specs.declared.Request.{Request}
use Rattle.grammar.specs.Grammar.{IsStuck, Judges}
use Rattle.grammar.specs.Reading.{whole}
use Rattle.request_text.specs.Answer.{Answers, AnswersBy, ConvAnswers, HasFault}
use Rattle.request_text.specs.ConvLine.{conv_line}
use Rattle.request_text.specs.ConvReading.{conv_at}
use Rattle.request_text.specs.declared.fault.RequestFault.{RequestFault}
use Rattle.request_text.specs.declared.fault.RequestFault.TheVariants.{Syntax, Range, Shape, LanesLine, NotUnit}
use Rattle.request_text.specs.Laws.{SpellsOnce}
use Rattle.request_text.specs.Limits.{judged, judged_conv}
use Rattle.request_text.specs.Line.{request_line}
use Rattle.request_text.specs.Reading.{request_at}
use Rattle.request_text.proofs.ConvLine.{conv_line_judges}
use Rattle.request_text.proofs.Judged.{judged_answers, conv_judged_answers}
use Rattle.request_text.proofs.Line.{line_judges}

abbrev Answer : Type 0
Answer = Result Request RequestFault

-- ---- of any grammar

-- a text spells one value
pub judged_once : {S A : Type 0} (L : List S → A → Type 0) (text : List S) (r : Result A ℕ) (a b : A) → Judges L text r
    → L text a → L text b → a ≡ b
judged_once L text (Ok value) a b j p q = j.1 a p ∙ sym (j.1 b q)
judged_once L text (Err left) a b j p q = absurd (j.1.nothing a p)

-- and is stuck at one place
stuck_once : {S A : Type 0} (L : List S → A → Type 0) (text : List S) (a b : ℕ) → IsStuck L text a → IsStuck L text b
    → a ≡ b
stuck_once L text a b p q =
    let one : b ≤ a = p.place.longest b q.place.within q.place.begins in
    let other : a ≤ b = q.place.longest a p.place.within p.place.begins in
    omega (arith, one, other)

-- where the text is stuck, or what is said of the request that it spells
data Outcome (spells : List ℕ → Request → Type 0) (judge : Request → Answer) (text : List ℕ) (a : Answer) : Type 0 where
  Stuck : (at : ℕ) → a ≡ Err (Syntax at) → IsStuck spells text at → Outcome spells judge text a
  Judged : (r : Request) → spells text r → a ≡ judge r → Outcome spells judge text a

faulty : (spells : List ℕ → Request → Type 0) (judge : Request → Answer) (text : List ℕ) (fault : RequestFault)
    → HasFault spells judge text fault → Outcome spells judge text (Err fault)
faulty spells judge text fault p = Judged p.0 p.1 (sym p.2)

outcome_of : (spells : List ℕ → Request → Type 0) (judge : Request → Answer) (text : List ℕ) (a : Answer)
    → AnswersBy spells judge text a → Outcome spells judge text a
outcome_of spells judge text (Ok r) p = Judged r p.0 (sym p.1)
outcome_of spells judge text (Err (Syntax at)) p = Stuck at refl p
outcome_of spells judge text (Err (Range field value)) p = faulty spells judge text (Range field value) p
outcome_of spells judge text (Err (Shape size)) p = faulty spells judge text (Shape size) p
outcome_of spells judge text (Err (LanesLine lanes line)) p = faulty spells judge text (LanesLine lanes line) p
outcome_of spells judge text (Err (NotUnit gcd)) p = faulty spells judge text (NotUnit gcd) p

outcome_once : (spells : List ℕ → Request → Type 0) (judge : Request → Answer) → SpellsOnce spells
    → (text : List ℕ) (a b : Answer) → Outcome spells judge text a → Outcome spells judge text b → a ≡ b
outcome_once spells judge once text a b (Stuck at e p) (Stuck at' f q) =
    e ∙ ap (λ n. Err (Syntax n)) (stuck_once spells text at at' p q) ∙ sym f
outcome_once spells judge once text a b (Stuck at e p) (Judged s m f) = absurd (p.nothing s m)
outcome_once spells judge once text a b (Judged r l e) (Stuck at f q) = absurd (q.nothing r l)
outcome_once spells judge once text a b (Judged r l e) (Judged s m f) = e ∙ ap judge (once text r s l m) ∙ sym f

-- ---- of request lines

pub spelt_once : (text : List ℕ) (r s : Request) → request_line text r → request_line text s → r ≡ s
spelt_once text r s p q = judged_once request_line text (whole request_at text) r s
    (line_judges text (whole request_at text) refl) p q

-- any two answers for a text agree
pub one_answer : (text : List ℕ) (a b : Answer) → Answers text a → Answers text b → a ≡ b
one_answer text a b p q =
    outcome_once request_line judged spelt_once text a b
    (outcome_of request_line judged text a p) (outcome_of request_line judged text b q)

answered : (text : List ℕ) (read : Result Request ℕ) → Judges request_line text read
    → (answer : Answer) × Answers text answer
answered text (Ok r) judges = (judged r, judged_answers text r (judged r) judges.0 refl)
answered text (Err left) judges = (Err (Syntax (length text - left)), judges.1)

-- each text has an answer
pub line_answered : (text : List ℕ) → (answer : Answer) × Answers text answer
line_answered text = answered text (whole request_at text) (line_judges text (whole request_at text) refl)

-- ---- of lines of convolutions

pub conv_spelt_once : (text : List ℕ) (r s : Request) → conv_line text r → conv_line text s → r ≡ s
conv_spelt_once text r s p q = judged_once conv_line text (whole conv_at text) r s
    (conv_line_judges text (whole conv_at text) refl) p q

pub one_conv_answer : (text : List ℕ) (a b : Answer) → ConvAnswers text a → ConvAnswers text b → a ≡ b
one_conv_answer text a b p q =
    outcome_once conv_line judged_conv conv_spelt_once text a b
    (outcome_of conv_line judged_conv text a p) (outcome_of conv_line judged_conv text b q)

conv_read : (text : List ℕ) (read : Result Request ℕ) → Judges conv_line text read
    → (answer : Answer) × ConvAnswers text answer
conv_read text (Ok r) judges = (judged_conv r, conv_judged_answers text r (judged_conv r) judges.0 refl)
conv_read text (Err left) judges = (Err (Syntax (length text - left)), judges.1)

pub conv_line_answered : (text : List ℕ) → (answer : Answer) × ConvAnswers text answer
conv_line_answered text = conv_read text (whole conv_at text) (conv_line_judges text (whole conv_at text) refl)
