-- A program's header and tables, as a program without statements.
use Rattle.std.specs.Prelude.{ℕ, List, [], Vec}
use Rattle.std.proofs.Common.{Global}
use Rattle.icode.specs.declared.program.Op.{Op}
use Rattle.icode.specs.declared.shape.Shape.{Shape}
use Rattle.icode.specs.Actions.{Step, step_of}
use Rattle.icode.specs.Plain.{PlainProgram, plain_op, plain_tables}

abbrev pub header_with : Shape → List (Vec ℕ Global) → PlainProgram
header_with shape tables =
    record {
      size = shape.size;
      modulus = shape.modulus;
      procs = shape.procs;
      line = shape.line;
      lanes = shape.lanes;
      regs = shape.regs;
      tables = plain_tables tables;
      phases = [];
    }

abbrev pub without_statements : PlainProgram → PlainProgram
without_statements p =
    record {
      size = p.size;
      modulus = p.modulus;
      procs = p.procs;
      line = p.line;
      lanes = p.lanes;
      regs = p.regs;
      tables = p.tables;
      phases = [];
    }

-- an operation's step, where these are the values of the open loops, the outermost first, and this is the processor
abbrev pub step_by : Shape → List (Vec ℕ Global) → Op → List ℕ → ℕ → Step
step_by shape tables op = step_of (header_with shape tables) (plain_op op)
