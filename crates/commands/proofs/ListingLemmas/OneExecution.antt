-- A listing orders one program to run, or is refused with one status.
use Rattle.std.proofs.Common.{◌≡◌, ◌<◌, ◌≤◌, ◌-◌, ◌==◌, ℕ, zero, suc, Bool, true, false, List, [], ◌∷◌, ◌++◌, None, Ok}
use Rattle.std.proofs.Common.{Err, Result, cond, refl, sym, ap, subst, ◌∙◌, arith, append_assoc, inl, inr}
use Rattle.std.proofs.lemmas.Bool.{cases_order}
use Rattle.icode.specs.Plain.{PlainProgram}
use Rattle.grammar.specs.Grammar.{IsLost, first_lines}
use Rattle.listing_text.specs.Lines.{Judges, read_lines}
use Rattle.listing_text.specs.Listing.{listing_wording}
use Rattle.listing_text.specs.ListingGrammar.{listing_grammar}
use Rattle.listing_text.specs.Progress.{finish, step}
use Rattle.listing_text.specs.Texts.{is_listing}
use Rattle.listing_text.proofs.ListingReads.{listing_judges}
use Rattle.code_check.proofs.Causes.{one_cause, none_if_passed}
use Rattle.schedules.specs.Schedule.{Plan}
use Rattle.spiral_words.specs.declared.statuses.status.Status.TheVariants.{ListingSyntax}
use Rattle.commands.specs.Input.Commands.{stranger, admitted}
use Rattle.spiral_words.specs.Statuses.Fault.{status_of_check}
use Rattle.code_check.specs.Refusals.{action_limit}
use Rattle.commands.specs.Listings.Listed.{listed, verified, loaded}
use Rattle.commands.proofs.Inputs.Stages.{IsDecided, done, ended, given_decided, bind_decided}

-- A text is lost in one line

fewer : (test : Bool) (a c : ℕ) → a ≤ c → cond test a (suc a) ≤ cond test c (suc c)
fewer true a c h = h
fewer false a c h = omega (arith, h)

-- the first lines of a text are a front of more of them
front_lines : (text : List ℕ) (a c : ℕ) → a ≤ c → (more : List ℕ) × (first_lines c text ≡ first_lines a text ++ more)
front_lines text zero c h = (first_lines c text, refl)
front_lines text (suc a) zero h = absurd (omega (arith, h))
front_lines [] (suc a) (suc c) h = ([], refl)
front_lines (b ∷ text) (suc a) (suc c) h =
    let rest = front_lines text (cond (b == 10) a (suc a)) (cond (b == 10) c (suc c)) (fewer (b == 10) a c (omega (arith, h))) in
    (rest.0, ap (λ l. b ∷ l) rest.1)

never_before : {A : Type 0} (spells : List ℕ → A → Type 0) (text : List ℕ) (a b : ℕ) → IsLost spells text a →
    IsLost spells text b → a < b → ⊥
never_before spells text a b p q h =
    let front = front_lines text a (b - 1) (omega (arith, h)) in
    let whole = ap (λ l. l ++ q.before.0) front.1 ∙ append_assoc (first_lines a text) front.0 q.before.0 in
    p.here (omega (arith, q.counted.1, h))
    (front.0 ++ q.before.0, q.before.1, subst (λ l. spells l q.before.1) whole q.before.2)

lost_once : {A : Type 0} (spells : List ℕ → A → Type 0) (text : List ℕ) (a b : ℕ) → IsLost spells text a →
    IsLost spells text b → a ≡ b
lost_once spells text a b p q = elim (cases_order a b) [
  | inl same ↦ same
  | inr (inl before) ↦ absurd (never_before spells text a b p q before)
  | inr (inr after) ↦ absurd (never_before spells text b a q p after)
]

-- The stages

listing_once : (text : List ℕ) (r : Result PlainProgram ℕ) (p q : PlainProgram) → Judges is_listing text r →
    is_listing text p → is_listing text q → p ≡ q
listing_once text (Ok value) p q j l m = j.1 p l ∙ sym (j.1 q m)
listing_once text (Err lines) p q j l m = absurd (j.nothing p l)

-- a text is the listing of one program
pub one_listing : (text : List ℕ) (p q : PlainProgram) → is_listing text p → is_listing text q → p ≡ q
one_listing text p q =
    let read = read_lines (step listing_wording listing_grammar) finish None [] text in
    listing_once text read p q (listing_judges text read refl)

listed_decided : (text : List ℕ) → IsDecided (listed text)
listed_decided text (Ok a) (Ok b) p q = ap done (one_listing text a b p q)
listed_decided text (Ok a) (Err t) p q = absurd (q.1.nothing a p)
listed_decided text (Err s) (Ok b) p q = absurd (p.1.nothing b q)
listed_decided text (Err s) (Err t) p q = ap ended (p.2 ∙ ap ListingSyntax (lost_once is_listing text p.0 q.0 p.1 q.1) ∙ sym q.2)

verified_decided : (program : PlainProgram) → IsDecided (verified program)
verified_decided program (Ok a) (Ok b) p q = ap done (p.1 ∙ sym q.1)
verified_decided program (Ok a) (Err t) p q = absurd (none_if_passed action_limit program q.0 q.1 p.0 q.2)
verified_decided program (Err s) (Ok b) p q = absurd (none_if_passed action_limit program p.0 p.1 q.0 p.2)
verified_decided program (Err s) (Err t) p q = ap ended (p.3 ∙ ap status_of_check (one_cause action_limit program p.0 q.0 p.1 q.1 p.2 q.2) ∙ sym q.3)

pub loaded_decided : (schedule : Plan) (text : List ℕ) → IsDecided (loaded schedule text)
loaded_decided schedule text =
    bind_decided (listed text) _ (listed_decided text) (λ program.
    bind_decided (verified program) _ (verified_decided program) (λ passed. given_decided (admitted (stranger schedule passed.procs) passed.procs passed)))
