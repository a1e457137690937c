-- The rows of small texts, computed.
use Rattle.std.proofs.Common.{◌≡◌, true, refl}
use Rattle.std.specs.Fmt.{digits}
use Rattle.std.specs.List.{list_all}
use Rattle.c_meaning.specs.Rows as expressions
use Rattle.c_meaning.specs.Procedures as procedures
use Rattle.c_meaning.specs.Units.{unit_text}

pub expressions_hold : list_all expressions.holds expressions.rows ≡ true
unfolding digits
expressions_hold = refl

pub front_is : unit_text procedures.front ≡ procedures.front_lines
unfolding digits
front_is = refl

pub procedures_hold : list_all procedures.holds procedures.rows ≡ true
unfolding digits
procedures_hold = refl
