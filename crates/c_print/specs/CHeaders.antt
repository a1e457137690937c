-- Reading the first line of a C text.
use Rattle.std.specs.Prelude.{◌≡◌, ℕ, List, codes, Result}
use Rattle.icode.specs.Plain.{PlainProgram}
use Rattle.icode.specs.Limits.{IsHeaderWithin}
use Rattle.grammar.specs.Reading.{Place}
use Rattle.listing_text.specs.declared.draft.Header.{Header}
use Rattle.listing_text.specs.Drafts.{header_at}
use Rattle.listing_text.specs.Wording.{header_of}
use Rattle.c_print.specs.CText.{c_header_text}

abbrev pub c_header_at : Place ℕ → Result (Header × Place ℕ) ℕ
c_header_at = header_at (codes "/* program size ") (codes " */\n")

-- the text is the first line of the program's, whose numbers are within their limits
abbrev pub IsHeaderOf : List ℕ → PlainProgram → Type 0
IsHeaderOf text p = IsHeaderWithin p.size p.modulus p.procs p.line p.lanes p.regs × (text ≡ c_header_text (header_of p))
