-- What the calls that read a listing answer.
use Rattle.std.proofs.Common.{◌≡◌, List, [], ℕ, None, Err, refl, sym, subst}
use Rattle.icode.specs.Plain.{PlainProgram}
use Rattle.listing_text.specs.declared.listing.ListingFault.{ListingFault}
use Rattle.listing_text.specs.declared.listing.ListingFault.TheVariants as faults
use Rattle.listing_text.specs.Lines.{read_lines}
use Rattle.listing_text.specs.Progress.{step, finish}
use Rattle.listing_text.specs.Listing.{listing_wording}
use Rattle.listing_text.specs.ListingGrammar.{listing_grammar}
use Rattle.listing_text.specs.Texts.{is_listing, TextAnswers}
use Rattle.listing_text.specs.Reads.{Reads}
use Rattle.listing_text.proofs.ListingReads.{listing_judges}

pub err_answers : (text : List ℕ) (fault : ListingFault)
    → Reads (Err fault) (read_lines (step listing_wording listing_grammar) finish None [] text)
    → TextAnswers text (Err fault)
err_answers text (faults.Syntax line) h = subst (λ n. TextAnswers text (Err (faults.Syntax n))) (sym h.1) (listing_judges text (Err h.0) h.2)
err_answers text faults.NoMemory h = tt

pub err_only : (text : List ℕ) (fault : ListingFault)
    → Reads (Err fault) (read_lines (step listing_wording listing_grammar) finish None [] text) → (p : PlainProgram)
    → is_listing text p → (fault ≡ faults.NoMemory) × Unit {0}
err_only text (faults.Syntax line) h p l = absurd ((listing_judges text (Err h.0) h.2).nothing p l)
err_only text faults.NoMemory h p l = (refl, tt)
