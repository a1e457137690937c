-- The words and the bytes of a call determine its status and its text.
use Rattle.std.proofs.Common.{◌≡◌, ℕ, zero, suc, ◌-◌, ◌<◌, ◌≤◌, Bool, true, false, cond, eqb, List, [], ◌∷◌, ◌++◌, Some}
use Rattle.std.proofs.Common.{None, Ok, Err, Result, inl, inr, refl, sym, ap, subst, ◌∙◌, append_assoc, arith}
use Rattle.icode.specs.Plain.{PlainProgram}
use Rattle.code_check.specs.Refusals.{PassesCheck, IsCause, action_limit}
use Rattle.code_check.proofs.Causes.{one_cause, none_if_passed}
use Rattle.grammar.specs.Grammar.{IsLost, first_lines}
use Rattle.listing_text.specs.Lines.{read_lines}
use Rattle.listing_text.specs.Listing.{listing_wording}
use Rattle.listing_text.specs.ListingGrammar.{listing_grammar}
use Rattle.listing_text.specs.Progress.{finish, step}
use Rattle.listing_text.specs.Texts.{is_listing}
use Rattle.listing_text.proofs.ListingReads.{listing_judges}
use Rattle.fast_main.specs.declared.status.Status.{Status}
use Rattle.fast_main.specs.declared.status.Status.TheVariants.{InputWritten, ListingSyntax, WideModulus}
use Rattle.fast_main.specs.Outcome.{IsUnsound, IsTooWide, IsTranslated, IsRefused, IsAnswer, IsOutcomeOfListing}
use Rattle.fast_main.specs.Outcome.{IsOutcome}
use Rattle.fast_main.specs.Words.{bits_of}
use Rattle.fast_main.specs.Status.{status_of_check}
use Rattle.fast_main.specs.Outcome.{TextsAreOfOneProgram}
use Rattle.fast_main.specs.Translation.{IsWritten, KeepsInput, ending_of, written_text, takes_leftovers, wanted_words}
use Rattle.fast_main.specs.FirstLine.{without_comment}
use Rattle.fast_text.specs.WordTexts.{IsReadAs}
use Rattle.fast_text.proofs.TextBack.{read_once as text_read_once}
use Rattle.fast_main.specs.Options.Asked.{Asked, asked}
use Rattle.data_stream.specs.Parts.Part.{first_part}
use Rattle.word_code.specs.declared.laziness.WordSize.{WordSize}
use Rattle.word_code.specs.Laziness.{allows, size_for}

-- The first lines of a text are a front of more of them

fewer : (test : Bool) (a b : ℕ) → a ≤ b → cond test a (suc a) ≤ cond test b (suc b)
fewer true a b le = le
fewer false a b le = omega (arith, le)

front_lines : (text : List ℕ) (a b : ℕ) → a ≤ b → (more : List ℕ) × (first_lines b text ≡ first_lines a text ++ more)
front_lines text zero b le = (first_lines b text, refl)
front_lines text (suc a) zero le = absurd (omega (arith, le))
front_lines [] (suc a) (suc b) le = ([], refl)
front_lines (x ∷ text) (suc a) (suc b) le =
    let rest = front_lines text _ _ (fewer (eqb x 10) a b (omega (arith, le))) in (rest.0, ap (λ l. x ∷ l) rest.1)

not_before : {A : Type 0} (spells : List ℕ → A → Type 0) (text : List ℕ) (a b : ℕ) → IsLost spells text a →
    IsLost spells text b → a < b → ⊥
not_before spells text a b p q lt =
    let front = front_lines text a (b - 1) (omega (arith, lt)) in
    let whole = ap (λ l. l ++ q.before.0) front.1 ∙ append_assoc (first_lines a text) front.0 q.before.0 in
    p.here (omega (arith, q.counted.1, lt))
    (front.0 ++ q.before.0, q.before.1, subst (λ l. spells l q.before.1) whole q.before.2)

-- a text is lost in one line
lost_once : {A : Type 0} (spells : List ℕ → A → Type 0) (text : List ℕ) (a b : ℕ) → IsLost spells text a →
    IsLost spells text b → a ≡ b
lost_once spells text a b p q = by_order (not_before spells text a b p q) (not_before spells text b a q p)
  where
    by_order : (a < b → ⊥) → (b < a → ⊥) → a ≡ b
    by_order f g = grind (arith, f, g)

-- The program of a listing

read_once : (bytes : List ℕ) (r : Result PlainProgram ℕ) →
    read_lines (step listing_wording listing_grammar) finish None [] bytes ≡ r →
    (p q : PlainProgram) → is_listing bytes p → is_listing bytes q → p ≡ q
read_once bytes (Ok read) e p q a b = let judged = listing_judges bytes (Ok read) e in judged.1 p a ∙ sym (judged.1 q b)
read_once bytes (Err lines) e p q a b = absurd ((listing_judges bytes (Err lines) e).nothing p a)

one_program : (bytes : List ℕ) (p q : PlainProgram) → is_listing bytes p → is_listing bytes q → p ≡ q
one_program bytes p q a b =
    read_once bytes (read_lines (step listing_wording listing_grammar) finish None [] bytes) refl p q a b

-- Answers

same_cause : (bytes : List ℕ) (a b : Status) → IsUnsound bytes a → IsUnsound bytes b → a ≡ b
same_cause bytes a b p q =
    let same = one_program bytes q.program p.program q.listing p.listing in
    let cause = subst (λ x. IsCause action_limit x q.fault) same q.cause in
    p.says ∙ ap status_of_check (one_cause action_limit p.program p.fault q.fault p.told q.told p.cause cause) ∙ sym q.says

-- no program both passes the check and does not
passes_or_not : (bytes : List ℕ) (a : Status) (program : PlainProgram) → IsUnsound bytes a → is_listing bytes program →
    PassesCheck action_limit program → ⊥
passes_or_not bytes a program p listing passes =
    let same = one_program bytes program p.program listing p.listing in
    none_if_passed action_limit p.program p.fault p.told (subst (λ x. PassesCheck action_limit x) same passes) p.cause

-- no program's modulus is both taken and not
allowed_or_not : (wanted : Asked) (bytes : List ℕ) (a : Status) (program : PlainProgram) → IsTooWide wanted bytes a →
    is_listing bytes program → allows (size_for wanted.size program) program.modulus ≡ true → ⊥
allowed_or_not wanted bytes a program p listing allowed =
    let same = one_program bytes program p.program listing p.listing in
    let yes = ap (λ (x : PlainProgram). allows (size_for wanted.size x) x.modulus) same in
    let no = p.wide in
    absurd (cc)

-- nor does one both store into the input and not, or first in two phases
written_once : (wanted : Asked) (p : PlainProgram) (a b : Status) → IsWritten wanted p a → IsWritten wanted p b → a ≡ b
written_once wanted p a b (phase, writes, says) (phase', writes', says') =
    let same : phase ≡ phase' = (let e = sym writes ∙ writes' in cc) in says ∙ ap (λ n. InputWritten n) same ∙ sym says'

kept_or_not : (wanted : Asked) (p : PlainProgram) (a : Status) → IsWritten wanted p a → KeepsInput wanted p → ⊥
kept_or_not wanted p a (phase, writes, says) keeps = let e = sym writes ∙ keeps in absurd (cc)

refused_once : (wanted : Asked) (bytes : List ℕ) (a b : Status) → IsRefused wanted bytes a → IsRefused wanted bytes b →
    a ≡ b
refused_once wanted bytes a b (inl p) (inl q) = p.says ∙ ap (λ n. ListingSyntax n) (lost_once is_listing bytes p.line q.line p.lost q.lost) ∙ sym q.says
refused_once wanted bytes a b (inl p) (inr (inl q)) = absurd (p.lost.nothing q.program q.listing)
refused_once wanted bytes a b (inl p) (inr (inr (inl q))) = absurd (p.lost.nothing q.program q.listing)
refused_once wanted bytes a b (inl p) (inr (inr (inr q))) = absurd (p.lost.nothing q.program q.listing)
refused_once wanted bytes a b (inr (inl p)) (inl q) = absurd (q.lost.nothing p.program p.listing)
refused_once wanted bytes a b (inr (inl p)) (inr (inl q)) = same_cause bytes a b p q
refused_once wanted bytes a b (inr (inl p)) (inr (inr (inl q))) =
    absurd (passes_or_not bytes a q.program p q.listing q.passes)
refused_once wanted bytes a b (inr (inl p)) (inr (inr (inr q))) =
    absurd (passes_or_not bytes a q.program p q.listing q.passes)
refused_once wanted bytes a b (inr (inr (inl p))) (inl q) = absurd (q.lost.nothing p.program p.listing)
refused_once wanted bytes a b (inr (inr (inl p))) (inr (inl q)) =
    absurd (passes_or_not bytes b p.program q p.listing p.passes)
refused_once wanted bytes a b (inr (inr (inl p))) (inr (inr (inl q))) =
    let same = one_program bytes p.program q.program p.listing q.listing in
    p.says ∙ ap (λ (x : PlainProgram). WideModulus (bits_of (size_for wanted.size x))) same ∙ sym q.says
refused_once wanted bytes a b (inr (inr (inl p))) (inr (inr (inr q))) =
    absurd (allowed_or_not wanted bytes a q.program p q.listing q.allowed)
refused_once wanted bytes a b (inr (inr (inr p))) (inl q) = absurd (q.lost.nothing p.program p.listing)
refused_once wanted bytes a b (inr (inr (inr p))) (inr (inl q)) =
    absurd (passes_or_not bytes b p.program q p.listing p.passes)
refused_once wanted bytes a b (inr (inr (inr p))) (inr (inr (inl q))) =
    absurd (allowed_or_not wanted bytes b p.program q p.listing p.allowed)
refused_once wanted bytes a b (inr (inr (inr p))) (inr (inr (inr q))) =
    let same = one_program bytes q.program p.program q.listing p.listing in
    written_once wanted p.program a b p.written (subst (λ x. IsWritten wanted x b) same q.written)

refused_or_translated : (wanted : Asked) (bytes text : List ℕ) (a : Status) → IsRefused wanted bytes a →
    IsTranslated wanted bytes text → ⊥
refused_or_translated wanted bytes text a (inl p) q = p.lost.nothing q.program q.listing
refused_or_translated wanted bytes text a (inr (inl p)) q = passes_or_not bytes a q.program p q.listing q.passes
refused_or_translated wanted bytes text a (inr (inr (inl p))) q =
    allowed_or_not wanted bytes a q.program p q.listing q.allowed
refused_or_translated wanted bytes text a (inr (inr (inr p))) q =
    let same = one_program bytes q.program p.program q.listing p.listing in
    kept_or_not wanted p.program a p.written (subst (λ x. KeepsInput wanted x) same q.keeps)

translated_once : (wanted : Asked) (bytes s t : List ℕ) → IsTranslated wanted bytes s → IsTranslated wanted bytes t →
    s ≡ t
translated_once wanted bytes s t p q = p.says ∙ ap (written_text wanted) (one_program bytes p.program q.program p.listing q.listing) ∙ sym q.says

-- Texts

-- what they say of leftovers
abbrev told_of : Asked → PlainProgram → Bool
told_of wanted p = takes_leftovers (size_for wanted.size p) wanted.lanes p

pub one_program_spelt : TextsAreOfOneProgram
one_program_spelt a b bytes others text has same p q =
    (text_read_once a.form has (without_comment text) (told_of a p.program) (told_of b q.program) (wanted_words a p.program)
    (wanted_words b q.program) p.read_back
    (subst (λ form. IsReadAs form (told_of b q.program) (without_comment text) (wanted_words b q.program)) (sym same) q.read_back)).1

abbrev Same : Status → Status → List ℕ → List ℕ → Type 0
Same a b s t = (a ≡ b) × (s ≡ t)

answer_once : (wanted : Asked) (bytes : List ℕ) (a b : Status) (s t : List ℕ) → IsAnswer wanted bytes a s →
    IsAnswer wanted bytes b t → Same a b s t
answer_once wanted bytes a b s t (inl p) (inl q) = (refused_once wanted bytes a b p.0 q.0, p.1 ∙ sym q.1)
answer_once wanted bytes a b s t (inl p) (inr q) = absurd (refused_or_translated wanted bytes t a p.0 q.0)
answer_once wanted bytes a b s t (inr p) (inl q) = absurd (refused_or_translated wanted bytes s b q.0 p.0)
answer_once wanted bytes a b s t (inr p) (inr q) =
    let same = one_program bytes p.0.program q.0.program p.0.listing q.0.listing in
    (p.1 ∙ ap (ending_of wanted.lanes) same ∙ sym q.1, translated_once wanted bytes s t p.0 q.0)

listing_once : (wanted : Asked) (bytes : List ℕ) (a b : Status) (s t : List ℕ) → IsOutcomeOfListing wanted bytes a s →
    IsOutcomeOfListing wanted bytes b t → Same a b s t
listing_once wanted bytes a b s t (inl p) (inl q) = (p.1 ∙ sym q.1, p.2 ∙ sym q.2)
listing_once wanted bytes a b s t (inl p) (inr q) = let x = p.0 in let y = q.0 in absurd (omega (arith, x, y))
listing_once wanted bytes a b s t (inr p) (inl q) = let x = p.0 in let y = q.0 in absurd (omega (arith, x, y))
listing_once wanted bytes a b s t (inr p) (inr q) = answer_once wanted bytes a b s t p.1 q.1

asked_once : (words : List (List ℕ)) (a b : Asked) → asked words ≡ Some a → asked words ≡ Some b → a ≡ b
asked_once words a b p q = let e = sym p ∙ q in cc

pub outcome_once : (words : List (List ℕ)) (bytes : List ℕ) (a b : Status) (s t : List ℕ) → IsOutcome words bytes a s →
    IsOutcome words bytes b t → (a ≡ b) × (s ≡ t)
outcome_once words bytes a b s t (inl p) (inl q) = (p.1 ∙ sym q.1, p.2 ∙ sym q.2)
outcome_once words bytes a b s t (inl p) (inr q) = let e = sym p.0 ∙ q.1 in absurd (cc)
outcome_once words bytes a b s t (inr p) (inl q) = let e = sym p.1 ∙ q.0 in absurd (cc)
outcome_once words bytes a b s t (inr p) (inr q) =
    listing_once p.0 (first_part bytes) a b s t p.2 (subst (λ wanted. IsOutcomeOfListing wanted (first_part bytes) b t) (asked_once words q.0 p.0 q.1 p.1) q.2)
