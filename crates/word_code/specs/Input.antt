-- Whether a program on words stores into X, its input.
use Rattle.std.specs.Prelude.{ℕ, ◌+◌, ◌||◌, Bool, true, false, List, [], ◌∷◌, Option, Some, None, if◌then◌else◌}
use Rattle.icode.specs.declared.program.Array.{Array}
use Rattle.icode.specs.declared.program.Array.TheVariants.{X, Y, A, B}
use Rattle.icode.specs.Plain.{PlainOp, Store}
use Rattle.word_code.specs.WordProgram.{WordStmt, WordBody, PlainWordProgram, Loop, Do, NoStmts, AndStmts}

abbrev pub is_input : Array → Bool
is_input X = true
is_input Y = false
is_input A = false
is_input B = false

abbrev pub op_writes_input : PlainOp → Bool
op_writes_input (Store array place register) = is_input array
op_writes_input op = false

abbrev mutual
  pub stmt_writes_input : WordStmt → Bool
  stmt_writes_input (Loop count body) = body_writes_input body
  stmt_writes_input (Do note op) = op_writes_input op

  pub body_writes_input : WordBody → Bool
  body_writes_input NoStmts = false
  body_writes_input (AndStmts stmt rest) = stmt_writes_input stmt || body_writes_input rest

-- the first of these phases that does so, where the first of them has this number
abbrev pub first_writing : ℕ → List WordBody → Option ℕ
first_writing number [] = None
first_writing number (body ∷ phases) =
    if body_writes_input body then Some number else first_writing (number + 1) phases

abbrev pub input_writer : PlainWordProgram → Option ℕ
input_writer p = first_writing 0 p.phases
