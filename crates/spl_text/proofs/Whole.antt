-- The reader of a whole text.
use Rattle.std.proofs.Common.{◌≡◌, ℕ, ◌+◌, ◌-◌, ◌≤◌, List, ◌∷◌, ◌++◌, length, Option, Some, None, Result, Ok, Err, refl}
use Rattle.std.proofs.Common.{sym, ap, subst, ◌∙◌, arith}
use Rattle.std.specs.Option.{option_map}
use Rattle.std.proofs.lemmas.List.{length-append}
use Rattle.grammar.specs.Grammar.{Judges, IsStuck}
use Rattle.grammar.specs.Reading.{Place, start, ended}
use Rattle.grammar.specs.Stops.{Stop, Lost, Fault}
use Rattle.grammar.proofs.Whole.{judged}
use Rattle.grammar.proofs.Parts.{Nothing}
use Rattle.grammar.proofs.Stops.{Answers}
use Rattle.spl_ast.specs.Formula.{Formula}
use Rattle.spl_text.specs.declared.reading.Halt.{Halt}
use Rattle.spl_text.specs.declared.reading.Halt.TheVariants as halts
use Rattle.spl_text.specs.Reader.{SaysAll, IsWithin}
use Rattle.spl_text.specs.Fault.{TextFault, TooDeep, Shape, refusal}
use Rattle.spl_text.specs.Reading.{line_at, ended_formula, all_of, whole_line}
use Rattle.spl_text.specs.Spelling.{spells_line}
use Rattle.spl_text.proofs.Readers.{Exposes, line_reader}

abbrev pub TextAnswers : List ℕ → Result Formula (Stop TextFault) → Type 0
TextAnswers text (Ok f) = spells_line text f
TextAnswers text (Err (Lost left)) = (left ≤ length text) × IsStuck spells_line text (length text - left)
TextAnswers text (Err (Fault fault)) = Exposes fault text

at_end : (text : List ℕ) (r : Result Formula ℕ) → Judges spells_line text r → TextAnswers text (ended_formula r)
at_end text (Ok f) j = j.0
at_end text (Err left) j = j

all_answers : (text : List ℕ) (r : Result (Formula × Place ℕ) (Stop TextFault)) →
    Answers Exposes Nothing spells_line (start text) r → TextAnswers text (all_of r)
all_answers text (Ok x) p = at_end text (ended x.0 x.1.rest x.1.far) (judged Nothing spells_line refl text (Ok x) p)
all_answers text (Err (Lost left)) p = judged {A = Formula} Nothing spells_line refl text (Err left) p
all_answers text (Err (Fault fault)) p = p

pub text_answers : (text : List ℕ) (r : Result Formula (Stop TextFault)) → whole_line text ≡ r → TextAnswers text r
text_answers text r e = subst (TextAnswers text) e (all_answers text (line_at (start text)) (line_reader.each (start text)))

shape_is : (o : Option (ℕ × ℕ)) (n left a b : ℕ) → option_map (λ p. Shape n p.0 p.1) o ≡ Some (Shape left a b) →
    (left ≡ n) × (o ≡ Some (a, b))
shape_is None n left a b e = absurd cc
shape_is (Some p) n left a b e =
    let same : n ≡ left = cc in
    let first : p.0 ≡ a = cc in
    let second : p.1 ≡ b = cc in
    (sym same, ap (λ x. Some (x, p.1)) first ∙ ap (λ y. Some (a, y)) second)

pub within : (text : List ℕ) (halt : Halt) → SaysAll (Err halt) (whole_line text) → IsWithin halt (length text)
within text halts.NoMemory e = tt
within text (halts.Syntax left) e = (text_answers text (Err (Lost left)) e).0
within text (halts.TooDeep left) e =
    let h = text_answers text (Err (Fault (TooDeep left))) e in
    let long : length text ≡ length h.0 + length (40 ∷ h.1) = ap length h.2 ∙ length-append h.0 (40 ∷ h.1) in omega (arith, long, h.3)
within text (halts.Shape left first second) e =
    let h = text_answers text (Err (Fault (Shape left first second))) e in
    let long : length text ≡ length h.0 + length (h.1 ++ h.2) = ap length h.4 ∙ length-append h.0 (h.1 ++ h.2) in
    omega (arith, long, (shape_is (refusal h.3) (length (h.1 ++ h.2)) left first second h.6).0)
