use Rattle.std.proofs.Common.{◌≡◌, ◌++◌, drop, codes}
use Rattle.listing_text.specs.Listing.{values_text, table_text}
use Rattle.listing_text.proofs.printing.ListingLanguage.put_table.Given as goal

abbrev pub invariant-loop-entry : goal.invariant-loop-entry
invariant-loop-entry l = l.out.items ++ (values_text (drop l.entry-index l.entries) ++ codes "\n") ≡ l.fn.out.items ++ table_text l.number l.entries
