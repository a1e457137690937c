-- The faults of the parts, as statuses.
use Rattle.std.specs.Prelude.{◌^◌, Ok, Err, Result}
use Rattle.io_edge.specs.declared.FeedFault.{FeedFault}
use Rattle.io_edge.specs.declared.FeedFault.TheVariants as line
use Rattle.data_stream.specs.declared.parts.RestFault.{RestFault}
use Rattle.data_stream.specs.declared.parts.RestFault.TheVariants as rest
use Rattle.request_text.specs.declared.RequestFault.{RequestFault}
use Rattle.request_text.specs.declared.RequestFault.TheVariants as request
use Rattle.listing_text.specs.declared.listing.ListingFault.{ListingFault}
use Rattle.listing_text.specs.declared.listing.ListingFault.TheVariants as listing
use Rattle.spl_text.specs.declared.reading.SplFault.{SplFault}
use Rattle.spl_text.specs.declared.reading.SplFault.TheVariants as spl
use Rattle.code_check.specs.declared.fault.CheckFault.{CheckFault}
use Rattle.code_check.specs.declared.fault.CheckFault.TheVariants as check
use Rattle.generate_faults.specs.declared.conv_fault.ConvFault.{ConvFault}
use Rattle.generate_faults.specs.declared.conv_fault.ConvFault.TheVariants as conv
use Rattle.generate_faults.specs.declared.generate_fault.GenerateFault.{GenerateFault}
use Rattle.generate_faults.specs.declared.generate_fault.GenerateFault.TheVariants as generate
use Rattle.runs.specs.declared.stream.StreamFault.{StreamFault}
use Rattle.runs.specs.declared.stream.StreamFault.TheVariants as stream
use Rattle.spiral_words.specs.declared.statuses.status.Status.{Status}
use Rattle.spiral_words.specs.declared.statuses.status.Status.TheVariants.{Success, Syntax, Range, Shape, LanesLine, NotUnit, Root, NotPrincipal, NoDivide, OverBudget, BadNumber, Truncated, ReadFault, WriteFault, NoMemory, TooLong, FormulaShape, TooDeep, ListingSyntax, Address, Register, LineShared, OverSteps}

-- of the first line
abbrev pub status_of_line : FeedFault → Status
status_of_line line.ReadFault = ReadFault
status_of_line line.TooLong = TooLong 256

abbrev pub status_of_request : RequestFault → Status
status_of_request (request.Syntax at) = Syntax at
status_of_request (request.Range field value) = Range field value
status_of_request (request.Shape size) = Shape size
status_of_request (request.LanesLine lanes line) = LanesLine lanes line
status_of_request (request.NotUnit gcd) = NotUnit gcd

abbrev pub status_of_generate : GenerateFault → Status
status_of_generate (generate.Root power) = Root power
status_of_generate generate.NoDivide = NoDivide
status_of_generate (generate.OverBudget cost budget) = OverBudget cost budget
status_of_generate generate.NoMemory = NoMemory

abbrev pub status_of_conv : ConvFault → Status
status_of_conv (conv.Root power) = Root power
status_of_conv (conv.NotPrincipal k) = NotPrincipal k
status_of_conv (conv.OverBudget cost budget) = OverBudget cost budget
status_of_conv conv.NoMemory = NoMemory

-- of the rest of the input, which is a certificate
abbrev pub status_of_rest : RestFault → Status
status_of_rest rest.ReadFault = ReadFault
status_of_rest rest.TooLong = TooLong 65536
status_of_rest rest.NoMemory = NoMemory

abbrev pub status_of_fault : StreamFault → Status
status_of_fault (stream.BadNumber token) = BadNumber token
status_of_fault (stream.Truncated have need) = Truncated have need
status_of_fault stream.TooLong = TooLong (2 ^ 30)
status_of_fault stream.ReadFault = ReadFault
status_of_fault stream.WriteFault = WriteFault

abbrev pub status_of_spl : SplFault → Status
status_of_spl (spl.Syntax at) = Syntax at
status_of_spl (spl.TooDeep at) = TooDeep at
status_of_spl (spl.Shape at left right) = FormulaShape at left right
status_of_spl spl.NoMemory = NoMemory

abbrev pub status_of_listing : ListingFault → Status
status_of_listing (listing.Syntax line) = ListingSyntax line
status_of_listing listing.NoMemory = NoMemory

abbrev pub status_of_check : CheckFault → Status
status_of_check (check.OverSteps limit) = OverSteps limit
status_of_check (check.Address phase proc action) = Address phase proc action
status_of_check (check.Register phase proc action) = Register phase proc action
status_of_check (check.LineShared phase line a b) = LineShared phase line a b
status_of_check check.NoMemory = NoMemory

-- of the part of the input that is a listing
abbrev pub status_of_part : RestFault → Status
status_of_part rest.ReadFault = ReadFault
status_of_part rest.TooLong = TooLong 1048576
status_of_part rest.NoMemory = NoMemory

-- of the line of a formula
abbrev pub status_of_text : RestFault → Status
status_of_text rest.ReadFault = ReadFault
status_of_text rest.TooLong = TooLong 65536
status_of_text rest.NoMemory = NoMemory

-- of a run over the data
abbrev pub status_of_stream : Result (Unit {0}) StreamFault → Status
status_of_stream (Ok u) = Success
status_of_stream (Err fault) = status_of_fault fault
