-- What reading all lines answers.
use Rattle.std.specs.Prelude.{◌≡◌, ℕ, ◌+◌, Result, Ok, Err}
use Rattle.icode.specs.Plain.{PlainProgram, plain_tables, plain_phases}
use Rattle.listing_text.specs.declared.draft.Draft.{Draft}
use Rattle.listing_text.specs.declared.listing.ListingFault.{ListingFault}
use Rattle.listing_text.specs.declared.listing.ListingFault.TheVariants as faults
use Rattle.listing_text.specs.Wording.{program_of}

abbrev pub drafted_program : Draft → PlainProgram
drafted_program d = program_of d.header (plain_tables d.tables.items) (plain_phases d.phases.items)

-- the program that was read, or the line after those that were read
abbrev pub Reads : Result Draft ListingFault → Result PlainProgram ℕ → Type 0
Reads (Ok d) read = read ≡ Ok (drafted_program d)
Reads (Err faults.NoMemory) read = Unit {0}
Reads (Err (faults.Syntax line)) read = (lines : ℕ) × (line ≡ lines + 1) × (read ≡ Err lines)
