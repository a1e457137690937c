-- Programs in the words of a language, such as the listing or C.
use Rattle.std.specs.Prelude.{ℕ, ◌+◌, List, [], ◌∷◌, ◌++◌}
use Rattle.icode.specs.Plain.{PlainOp, PlainStmt, PlainBody, PlainProgram, Loop, NoStmts, AndStmts}
use Rattle.icode.specs.Plain as plain
use Rattle.listing_text.specs.declared.draft.Header.{Header}

-- a line of a phase: a loop's begin, an end, or an operation
pub data PlainAct : Type 0 where
  Open : (depth count : ℕ) → PlainAct
  Close : PlainAct
  Do : (op : PlainOp) → PlainAct

-- the text of each part of a program
pub record Wording : Type 0 where
  -- the first line
  pub header : Header → List ℕ
  -- what stands between it and the tables
  pub front : Header → List ℕ
  -- the table of a number
  pub table : ℕ → List ℕ → List ℕ
  -- what stands between the tables and the phases
  pub between : List ℕ
  -- how the phase of a number begins, in a program with `regs` registers
  pub phase : (regs number : ℕ) → List ℕ
  -- a line of a phase
  pub line : PlainAct → List ℕ

abbrev pub header_of : PlainProgram → Header
header_of p =
    record { size = p.size; modulus = p.modulus; procs = p.procs; line = p.line; lanes = p.lanes; regs = p.regs }

abbrev pub program_of : Header → List (List ℕ) → List PlainBody → PlainProgram
program_of h tables phases = record { size = h.size; modulus = h.modulus; procs = h.procs; line = h.line; lanes = h.lanes; regs = h.regs; tables = tables; phases = phases }

-- statements inside a number of loops
abbrev mutual
  pub stmt_lines : (PlainAct → List ℕ) → ℕ → PlainStmt → List ℕ
  stmt_lines line depth (Loop count body) = line (Open depth count) ++ body_lines line (depth + 1) body ++ line Close
  stmt_lines line depth (plain.Do op) = line (Do op)

  pub body_lines : (PlainAct → List ℕ) → ℕ → PlainBody → List ℕ
  body_lines line depth NoStmts = []
  body_lines line depth (AndStmts stmt rest) = stmt_lines line depth stmt ++ body_lines line depth rest

-- the tables from this number on
abbrev pub tables_text : Wording → ℕ → List (List ℕ) → List ℕ
tables_text w number [] = []
tables_text w number (entries ∷ tables) = w.table number entries ++ tables_text w (number + 1) tables

-- the phases from this number on; a phase ends as a loop does
abbrev pub phases_text : Wording → ℕ → ℕ → List PlainBody → List ℕ
phases_text w regs number [] = []
phases_text w regs number (body ∷ phases) =
    w.phase regs number ++ body_lines w.line 0 body ++ w.line Close ++ phases_text w regs (number + 1) phases

abbrev pub text_of : Wording → PlainProgram → List ℕ
text_of w p =
    w.header (header_of p) ++ w.front (header_of p) ++ tables_text w 0 p.tables
    ++ (w.between ++ phases_text w p.regs 0 p.phases)
