-- The header of a machine's program.
use Rattle.icode.specs.Headers.{header_with}
use Rattle.icode.specs.Plain.{PlainProgram}
use Rattle.par_machine.specs.declared.header.Header.{Header}

abbrev pub header_of : Header → PlainProgram
header_of header = header_with header.shape header.tables.items
