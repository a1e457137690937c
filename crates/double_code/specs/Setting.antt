-- What the statements of a program share, and what they are made with it.
use Rattle.std.specs.Prelude.{ℕ, ◌^◌, ◌<◌, ◌≤◌, List}
use Rattle.icode.specs.declared.program.Stmt.{Stmt}
use Rattle.icode.specs.Plain.{PlainOp, PlainBody, plain_stmt}
use Rattle.double_code.specs.declared.program.Setting.{Setting}
use Rattle.double_code.specs.DoubleProgram.{DoubleBody}
use Rattle.double_code.specs.Doubled.{Header, Settled, Noted, DoubledStmt, bound_at, settled_to, noted, doubled_stmt}
use Rattle.double_code.specs.Doubled.{doubled_phase}
use Rattle.double_code.specs.Reductions.{limit_of}

-- the modulus leaves doubles room
pub record IsSettingWithin (s : Setting) : Type 0 where
  pub some : 1 ≤ s.modulus
  pub below : s.modulus < 2 ^ 50
  pub lanes : s.lanes ≤ 16

-- no register's bound passes the limit
abbrev pub AreBoundsWithin : Setting → List ℕ → Type 0
AreBoundsWithin s bounds = (r : ℕ) → bound_at s.modulus bounds r ≤ limit_of s.modulus

abbrev pub header_in : Setting → Header
header_in s = record { modulus = s.modulus; lanes = s.lanes; regs = s.regs }

-- two registers, settled to the target
abbrev pub settled_in : Setting → ℕ → ℕ → ℕ → List ℕ → Settled
settled_in s x y target bounds = settled_to s.modulus 2 x y target bounds

-- the note of an operation, and the bounds after it
abbrev pub noted_in : Setting → PlainOp → List ℕ → Noted
noted_in s op bounds = noted s.modulus s.lanes op bounds

-- the statement on doubles, with the bounds of the registers after it
abbrev pub doubled_stmt_in : Setting → Stmt → List ℕ → DoubledStmt
doubled_stmt_in s stmt bounds = doubled_stmt (header_in s) (plain_stmt stmt) bounds

-- the statements of a phase on doubles
abbrev pub doubled_phase_in : Setting → PlainBody → DoubleBody
doubled_phase_in s = doubled_phase (header_in s)
