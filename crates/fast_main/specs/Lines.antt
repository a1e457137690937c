-- At which lines of its listing the statements of a program begin. The header is the first line; then each table has
-- one, and each phase has one before its statements and one behind them.
use Rattle.std.specs.Prelude.{ℕ, ◌+◌, ◌==◌, List, [], ◌∷◌, length, if◌then◌else◌}
use Rattle.icode.specs.Plain.{PlainStmt, PlainBody, PlainProgram, Loop, Do, NoStmts, AndStmts}

-- a loop has its beginning and its end
abbrev mutual
  pub lines_of_stmt : PlainStmt → ℕ
  lines_of_stmt (Loop count body) = lines_of_body body + 2
  lines_of_stmt (Do op) = 1

  pub lines_of_body : PlainBody → ℕ
  lines_of_body NoStmts = 0
  lines_of_body (AndStmts stmt rest) = lines_of_stmt stmt + lines_of_body rest

-- the statement of a number, where the first of these has the number `at` and begins at this line
abbrev pub line_in_body : ℕ → ℕ → ℕ → PlainBody → ℕ
line_in_body number at line NoStmts = line
line_in_body number at line (AndStmts stmt rest) =
    if at == number then line else line_in_body number (at + 1) (line + lines_of_stmt stmt) rest

-- the same in the phase of a number
abbrev pub line_in_phases : ℕ → ℕ → ℕ → ℕ → List PlainBody → ℕ
line_in_phases phase number at line [] = line
line_in_phases phase number at line (body ∷ phases) =
    if at == phase
    then line_in_body number 0 (line + 1) body
    else line_in_phases phase number (at + 1) (line + (lines_of_body body + 2)) phases

abbrev pub statement_line : PlainProgram → ℕ → ℕ → ℕ
statement_line p phase number = line_in_phases phase number 0 (length p.tables + 2) p.phases
