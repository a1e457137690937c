-- Each listing orders a program to run, or is refused.
use Rattle.std.proofs.Common.{◌+◌, ℕ, List, [], None, Ok, Err, Result, refl, inl, inr}
use Rattle.icode.specs.Limits.{IsWithinLimits}
use Rattle.icode.specs.Plain.{PlainProgram}
use Rattle.listing_text.specs.Lines.{read_lines, Judges}
use Rattle.listing_text.specs.Listing.{listing_wording}
use Rattle.listing_text.specs.ListingGrammar.{listing_grammar}
use Rattle.listing_text.specs.Progress.{step, finish}
use Rattle.listing_text.specs.Texts.{is_listing}
use Rattle.listing_text.proofs.ListingReads.{listing_judges}
use Rattle.code_check.specs.Refusals.{action_limit}
use Rattle.code_check.proofs.Decided.{decided}
use Rattle.schedules.specs.Schedule.{Plan as Turns}
use Rattle.spiral_words.specs.declared.statuses.status.Status.TheVariants.{ListingSyntax}
use Rattle.spiral_words.specs.Statuses.Fault.{status_of_check}
use Rattle.commands.specs.Listings.Listed.{listed, loaded, verified}
use Rattle.commands.specs.Input.Commands.{admitted, stranger}
use Rattle.commands.proofs.Inputs.Stages.{HasAnswer, both_have, given_has}

-- ---- the text

by_reading : (text : List ℕ) (r : Result PlainProgram ℕ) → Judges is_listing text r → HasAnswer (listed text)
by_reading text (Ok program) h = (Ok program, h.0)
by_reading text (Err lines) h = (Err (ListingSyntax (lines + 1)), (lines + 1, h, refl))

listed_has : (text : List ℕ) → HasAnswer (listed text)
listed_has text =
    let r = read_lines (step listing_wording listing_grammar) finish None [] text in
    by_reading text r (listing_judges text r refl)

-- ---- the check

verified_has : (p : PlainProgram) → IsWithinLimits p → HasAnswer (verified p)
verified_has p within = elim (decided action_limit p within) [
  | inl passes ↦ (Ok p, (passes, refl))
  | inr (fault, some, cause) ↦ (Err (status_of_check fault), (fault, some, cause, refl))
]

-- ---- both

pub loaded_has : (schedule : Turns) (text : List ℕ) → HasAnswer (loaded schedule text)
loaded_has schedule text =
    both_have (listed text) _ (listed_has text)
    (λ program is. both_have (verified program) _ (verified_has program is.0)
    (λ passed h. given_has (admitted (stranger schedule passed.procs) passed.procs passed)))
