-- What the statements of a program share, and what they are made with it.
use Rattle.std.specs.Prelude.{ℕ, ◌*◌, ◌^◌, ◌<◌, ◌≤◌, List, []}
use Rattle.icode.specs.declared.program.Array.{Array}
use Rattle.icode.specs.declared.program.Stmt.{Stmt}
use Rattle.icode.specs.Plain.{PlainOp, PlainBody, plain_stmt}
use Rattle.word_code.specs.declared.program.Setting.{Setting}
use Rattle.word_code.specs.declared.needs.Needs.{Needs}
use Rattle.word_code.specs.Words.{base_of, quotient_of, product_bound}
use Rattle.word_code.specs.Quicken.{array_bound, Header, Settled, Noted, QuickStmt, bound_at, settled, noted, loosened}
use Rattle.word_code.specs.Quicken.{loosest, quick_stmt, quick_phase, quick_alone, quick_phases}
use Rattle.word_code.specs.Views.{lazy_of}
use Rattle.word_code.specs.WordProgram.{Note, WordBody}

-- multiples of the modulus up to the limit are words of 64 bits, and what arrays and products are below is within the
-- limit
pub record IsSettingWithin (s : Setting) : Type 0 where
  pub room : s.laziness.limit * s.modulus < 2 ^ 64
  pub small : s.laziness.limit < 2 ^ 32
  pub some : 1 ≤ s.laziness.limit
  pub half : s.laziness.half ≤ 2 ^ 32
  pub keep_a : s.laziness.keep_a ≤ s.laziness.limit
  pub keep_b : s.laziness.keep_b ≤ s.laziness.limit
  pub product : product_bound (lazy_of s.laziness).width ≤ s.laziness.limit
  pub lanes : s.lanes ≤ 16

-- no register's bound passes the limit
abbrev pub AreBoundsWithin : Setting → List ℕ → Type 0
AreBoundsWithin s bounds = (r : ℕ) → bound_at s.laziness.limit bounds r ≤ s.laziness.limit

abbrev pub header_in : Setting → Header
header_in s = record { modulus = s.modulus; lanes = s.lanes; regs = s.regs }

-- two registers, settled to the target
abbrev pub settled_in : Setting → ℕ → ℕ → ℕ → List ℕ → Settled
settled_in s x y target bounds = settled s.modulus s.laziness.limit (2 * s.laziness.limit) x y target bounds

-- the bound of the words of an array
abbrev pub bound_in : Setting → Array → ℕ
bound_in s array = array_bound (lazy_of s.laziness).kept array

-- the note with its reductions alone
abbrev pub note_after : Settled → Note
note_after settled = record { before = settled.reductions; bias = 0; quotient = 0 }

-- the note of a product by a constant factor
abbrev pub note_of_factor : Setting → ℕ → Note
note_of_factor s factor =
    record { before = []; bias = 0; quotient = quotient_of (base_of (lazy_of s.laziness).width) s.modulus factor }

-- the note of an operation, and the bounds after it
abbrev pub noted_in : Setting → PlainOp → List ℕ → Noted
noted_in s op bounds = noted (lazy_of s.laziness) s.modulus s.lanes op bounds

-- the statement on words, with the bounds of the registers after it
abbrev pub quick_stmt_in : Setting → Stmt → List ℕ → QuickStmt
quick_stmt_in s stmt bounds = quick_stmt (lazy_of s.laziness) (header_in s) (plain_stmt stmt) bounds

-- the same for a statement of the only phase of the only processor, where this is needed from it on
abbrev pub quick_needed_in : Setting → Needs → Stmt → List ℕ → QuickStmt
quick_needed_in s n stmt bounds = quick_stmt (loosened (lazy_of s.laziness) n) (header_in s) (plain_stmt stmt) bounds

-- the statements of a phase on words
abbrev pub quick_phase_in : Setting → PlainBody → WordBody
quick_phase_in s = quick_phase (lazy_of s.laziness) (header_in s)

-- the same for the only phase of the only processor
abbrev pub quick_alone_in : Setting → PlainBody → WordBody
quick_alone_in s body =
    (quick_alone (lazy_of s.laziness) (header_in s) body (loosest (lazy_of s.laziness) (header_in s))).body

-- the statements of all phases on words, given how many processors there are
abbrev pub quick_phases_in : Setting → ℕ → List PlainBody → List WordBody
quick_phases_in s procs phases = quick_phases (lazy_of s.laziness) (header_in s) procs phases
