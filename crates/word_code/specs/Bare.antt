-- Programs on words without what serves the words, and when they fit.
use Rattle.std.specs.Prelude.{◌≡◌, ℕ, ◌<◌, List, map, length, All}
use Rattle.icode.specs.Actions.{PlainFits}
use Rattle.icode.specs.Plain.{PlainStmt, PlainBody, PlainProgram}
use Rattle.icode.specs.Plain as plain
use Rattle.word_code.specs.declared.program.Reduction.{Reduction}
use Rattle.word_code.specs.Words.{Width, base_of, sums_of}
use Rattle.word_code.specs.WordMachine.{WordAction, word_acts}
use Rattle.word_code.specs.WordProgram.{WordStmt, WordBody, PlainWordProgram, Loop, Do, NoStmts, AndStmts, word_code}

-- the operations alone
abbrev mutual
  pub bare_stmt : WordStmt → PlainStmt
  bare_stmt (Loop count body) = plain.Loop count (bare_body body)
  bare_stmt (Do note op) = plain.Do op

  pub bare_body : WordBody → PlainBody
  bare_body NoStmts = plain.NoStmts
  bare_body (AndStmts stmt rest) = plain.AndStmts (bare_stmt stmt) (bare_body rest)

abbrev pub with_bodies : PlainProgram → List PlainBody → PlainProgram
with_bodies frame phases =
    record {
      size = frame.size;
      modulus = frame.modulus;
      procs = frame.procs;
      line = frame.line;
      lanes = frame.lanes;
      regs = frame.regs;
      tables = frame.tables;
      phases = phases;
    }

-- the program of these operations
abbrev pub bare : PlainWordProgram → PlainProgram
bare w = with_bodies w.frame (map bare_body w.phases)

-- a reduction's register is there, and its amount is below the base of sums
abbrev pub ReductionFits : ℕ → ℕ → Reduction → Type 0
ReductionFits sums regs r = (r.register < regs) × (r.amount < sums)

-- so are those before an action; the bias of a difference is below the base
-- of sums, too, and the quotients of factors are below that of products
pub record NumbersFit (w : Width) (regs : ℕ) (f : WordAction) : Type 0 where
  pub before : All (ReductionFits (sums_of w) regs) f.before
  pub bias : f.bias < sums_of w
  pub quotients : All (λ q. q < base_of w) f.quotients

-- its operations fit, each table of quotients is as long as its table, and its numbers are words
pub record WordsFit (w : PlainWordProgram) : Type 0 where
  pub fits : PlainFits (bare w)
  pub quotients : map (λ entries. length entries) w.quotients ≡ map (λ entries. length entries) w.frame.tables
  pub modulus : w.frame.modulus < base_of w.width
  pub numbers : (phase q : ℕ) → All (NumbersFit w.width w.frame.regs) (word_acts (word_code w) phase q)
