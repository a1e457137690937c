-- What the code's values are among the definitions.
use Rattle.std.specs.Prelude.{List, map}
use Rattle.icode.specs.declared.program.Stmt.{Stmt}
use Rattle.icode.specs.Plain.{PlainStmt, plain_stmt}
use Rattle.two_tables.specs.declared.factors.Cut.{Cut}
use Rattle.two_tables.specs.declared.split.Split.{Split}
use Rattle.two_tables.specs.Factors as plain
use Rattle.two_tables.specs.Factored as programs

abbrev pub plain_cut : Cut → plain.Cut
plain_cut cut = record { width = cut.width; across = cut.across }

abbrev pub plain_stmts : List Stmt → List PlainStmt
plain_stmts stmts = map plain_stmt stmts

abbrev pub plain_split : Split → programs.Split
plain_split split =
    record { cut = plain_cut split.cut; table = split.table; second = split.second; register = split.register }
