-- Which texts are listings, and what reading one answers.
use Rattle.std.specs.Prelude.{◌≡◌, ◌≤◌, ◌^◌, ℕ, List, length, Result, Ok, Err}
use Rattle.icode.specs.Plain.{PlainProgram}
use Rattle.icode.specs.Limits.{IsWithinLimits}
use Rattle.icode.specs.declared.program.Program.{Program}
use Rattle.grammar.specs.Grammar.{IsLost}
use Rattle.listing_text.specs.declared.listing.ListingFault.{ListingFault}
use Rattle.listing_text.specs.declared.listing.ListingFault.TheVariants as faults
use Rattle.icode.specs.Program.{plain_program}
use Rattle.listing_text.specs.Listing.{listing_of}

-- the text is the listing of a program, which stays in its limits and has no more tables than a word can count
abbrev pub is_listing : List ℕ → PlainProgram → Type 0
is_listing text p = IsWithinLimits p × (length p.tables ≤ 2 ^ 64) × (text ≡ listing_of p)

-- Ok: the text is the program's. Syntax: it is no program's, and is lost in this line.
abbrev pub TextAnswers : List ℕ → Result Program ListingFault → Type 0
TextAnswers text (Ok program) = is_listing text (plain_program program)
TextAnswers text (Err faults.NoMemory) = Unit {0}
TextAnswers text (Err (faults.Syntax line)) = IsLost is_listing text line
