-- How the lines of a listing are read.
use Rattle.std.specs.Prelude.{codes}
use Rattle.listing_text.specs.Acts.{act_line_at}
use Rattle.listing_text.specs.Drafts.{header_at, table_at}
use Rattle.listing_text.specs.Progress.{Grammar}

abbrev pub listing_grammar : Grammar
listing_grammar =
    record { header = header_at (codes "program size ") (codes "\n"); table = table_at; act = act_line_at }
