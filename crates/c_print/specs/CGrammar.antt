-- How the lines of a C text are read.
use Rattle.listing_text.specs.Progress.{Grammar}
use Rattle.c_print.specs.CHeaders.{c_header_at}
use Rattle.c_print.specs.CTables.{c_table_at}
use Rattle.c_print.specs.CLines.{c_line_at}

abbrev pub c_grammar : Grammar
c_grammar = record { header = c_header_at; table = c_table_at; act = c_line_at }
