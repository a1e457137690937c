-- What the calls that read a C text answer.
use Rattle.std.proofs.Common.{◌≡◌, ℕ, List, [], None, Err, refl, sym, subst}
use Rattle.icode.specs.Plain.{PlainProgram}
use Rattle.listing_text.specs.declared.listing.ListingFault.{ListingFault}
use Rattle.listing_text.specs.declared.listing.ListingFault.TheVariants as listings
use Rattle.listing_text.specs.Lines.{read_lines}
use Rattle.listing_text.specs.Progress.{step, finish}
use Rattle.listing_text.specs.Reads.{Reads}
use Rattle.c_print.specs.declared.reading.CFault.TheVariants as faults
use Rattle.c_print.specs.CText.{c_wording}
use Rattle.c_print.specs.CGrammar.{c_grammar}
use Rattle.c_print.specs.CTexts.{is_c_text, CAnswers, c_fault}
use Rattle.c_print.proofs.CReads.{c_text_judges}

pub err_answers : (text : List ℕ) (fault : ListingFault)
    → Reads (Err fault) (read_lines (step c_wording c_grammar) finish None [] text)
    → CAnswers text (Err (c_fault fault))
err_answers text (listings.Syntax line) h = subst (λ n. CAnswers text (Err (faults.Syntax n))) (sym h.1)
    (c_text_judges text (Err h.0) h.2)
err_answers text listings.NoMemory h = tt

pub err_only : (text : List ℕ) (fault : ListingFault)
    → Reads (Err fault) (read_lines (step c_wording c_grammar) finish None [] text) → (p : PlainProgram)
    → is_c_text text p
    → (c_fault fault ≡ faults.NoMemory) × Unit {0}
err_only text (listings.Syntax line) h p l = absurd ((c_text_judges text (Err h.0) h.2).nothing p l)
err_only text listings.NoMemory h p l = (refl, tt)
