-- What a call answers with: its exit code and its line on the note.
use Rattle.std.specs.Prelude.{ℕ, ◌^◌, List, codes, Ok, Err, Result}
use Rattle.code_check.specs.declared.CheckFault.{CheckFault}
use Rattle.code_check.specs.declared.CheckFault.TheVariants as check
use Rattle.fast_main.specs.declared.options.asked.Refusal.{Refusal}
use Rattle.fast_main.specs.declared.options.asked.Refusal.TheVariants as words
use Rattle.data_stream.specs.declared.parts.RestFault.{RestFault}
use Rattle.data_stream.specs.declared.parts.RestFault.TheVariants as rest
use Rattle.listing_text.specs.declared.listing.ListingFault.{ListingFault}
use Rattle.listing_text.specs.declared.listing.ListingFault.TheVariants as listing
use Rattle.io_edge.specs.Status.Rows.{line_of}
use Rattle.fast_main.specs.declared.status.Status.{Status}
use Rattle.fast_main.specs.declared.status.Status.TheVariants.{Usage, ListingSyntax, OverSteps, Address}
use Rattle.fast_main.specs.declared.status.Status.TheVariants.{Register, LineShared, ReadFault, NoMemory}
use Rattle.fast_main.specs.declared.status.Status.TheVariants.{TooLong}
use Rattle.fast_main.specs.Rows.{row_of}

abbrev pub code_of : Status → ℕ
code_of status = (row_of status).code

abbrev pub note_line : Status → List ℕ
note_line status = line_of (codes "spiral_fast: ") (row_of status).parts

-- how many bytes a listing has at most
abbrev pub listing_limit : ℕ
listing_limit = 2 ^ 26

-- of the bytes of the input
abbrev pub status_of_rest : RestFault → Status
status_of_rest rest.ReadFault = ReadFault
status_of_rest rest.TooLong = TooLong listing_limit
status_of_rest rest.NoMemory = NoMemory

-- of the words
abbrev pub status_of_words : Refusal → Status
status_of_words words.Usage = Usage
status_of_words words.NoMemory = NoMemory

abbrev pub status_of_listing : ListingFault → Status
status_of_listing (listing.Syntax line) = ListingSyntax line
status_of_listing listing.NoMemory = NoMemory

abbrev pub status_of_check : CheckFault → Status
status_of_check (check.OverSteps limit) = OverSteps limit
status_of_check (check.Address phase q i) = Address phase q i
status_of_check (check.Register phase q i) = Register phase q i
status_of_check (check.LineShared phase line a b) = LineShared phase line a b
status_of_check check.NoMemory = NoMemory

-- the status that a call ends with
abbrev pub status_of : Result Status Status → Status
status_of (Ok status) = status
status_of (Err status) = status
