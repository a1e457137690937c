-- Which texts are C texts of programs, and what reading one answers.
use Rattle.std.specs.Prelude.{◌≡◌, ℕ, ◌≤◌, ◌^◌, List, length, true, nat_lt, Result, Ok, Err}
use Rattle.std.specs.List.{list_all}
use Rattle.icode.specs.Plain.{PlainProgram}
use Rattle.icode.specs.Limits.{IsWithinLimits}
use Rattle.icode.specs.Program.{plain_program}
use Rattle.icode.specs.declared.program.Program.{Program}
use Rattle.grammar.specs.Grammar.{IsLost}
use Rattle.listing_text.specs.declared.listing.ListingFault.{ListingFault}
use Rattle.listing_text.specs.declared.listing.ListingFault.TheVariants as listings
use Rattle.c_print.specs.declared.reading.CFault.{CFault}
use Rattle.c_print.specs.declared.reading.CFault.TheVariants as faults
use Rattle.c_print.specs.CText.{c_text_of}

-- no table has more entries than a word can count
abbrev pub HasShortTables : PlainProgram → Type 0
HasShortTables p = list_all (λ entries. nat_lt (length entries) (2 ^ 64)) p.tables ≡ true

-- the text is the C text of a program, which stays in its limits and has no more tables than a word can count
abbrev pub is_c_text : List ℕ → PlainProgram → Type 0
is_c_text text p = IsWithinLimits p × (length p.tables ≤ 2 ^ 64) × HasShortTables p × (text ≡ c_text_of p)

-- Ok: the text is the program's. Syntax: it is no program's, and is lost in this line.
abbrev pub CAnswers : List ℕ → Result Program CFault → Type 0
CAnswers text (Ok program) = is_c_text text (plain_program program)
CAnswers text (Err faults.NoMemory) = Unit {0}
CAnswers text (Err (faults.Syntax line)) = IsLost is_c_text text line

-- why a text is none, from the reader of all languages
abbrev pub c_fault : ListingFault → CFault
c_fault (listings.Syntax line) = faults.Syntax line
c_fault listings.NoMemory = faults.NoMemory
