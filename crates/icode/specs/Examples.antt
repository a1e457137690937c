-- Programs written out.
use Rattle.std.specs.Prelude.{ℕ, ◌-◌, ◌^◌, List, [], ◌∷◌}
use Rattle.icode.specs.declared.program.Array.TheVariants as arrays
use Rattle.icode.specs.Plain.{PlainExpr, PlainStmt, PlainBody, PlainProgram, Sum, NoParts, AndParts, Proc, Load, Store, Add, Sub, MulConst, MulTable, Loop, Do, NoStmts, AndStmts, body_of}

-- a constant place
abbrev pub at : ℕ → PlainExpr
at constant = Sum constant NoParts

-- a constant, and a multiple of the processor's number
abbrev pub at_proc : ℕ → ℕ → PlainExpr
at_proc constant factor = Sum constant (AndParts (Proc factor) NoParts)

-- the transform of size 2 with root 4, modulo 15
abbrev pub pair : PlainProgram
pair =
    record {
      size = 2;
      modulus = 15;
      procs = 1;
      line = 1;
      lanes = 1;
      regs = 5;
      tables = [];
      phases =
          body_of
          (Do (Load 0 arrays.X (at 0))
          ∷ Do (Load 1 arrays.X (at 1))
          ∷ Do (Add 2 0 1)
          ∷ Do (MulConst 3 1 4)
          ∷ Do (Add 4 0 3)
          ∷ Do (Store arrays.Y (at 0) 2)
          ∷ Do (Store arrays.Y (at 1) 4)
          ∷ [])
          ∷ [];
    }

-- the transform of size 4 with root 4, modulo 17, on two processors
abbrev pub quad : PlainProgram
quad =
    record {
      size = 4;
      modulus = 17;
      procs = 2;
      line = 1;
      lanes = 1;
      regs = 6;
      tables = (1 ∷ 1 ∷ 1 ∷ 4 ∷ []) ∷ [];
      phases =
          body_of
          (Do (Load 0 arrays.X (at_proc 0 1))
          ∷ Do (Load 1 arrays.X (at_proc 2 1))
          ∷ Do (Add 2 0 1)
          ∷ Do (Sub 3 0 1)
          ∷ Do (MulTable 4 2 0 (at_proc 0 2) 0)
          ∷ Do (Store arrays.A (at_proc 0 2) 4)
          ∷ Do (MulTable 5 3 0 (at_proc 1 2) 0)
          ∷ Do (Store arrays.A (at_proc 1 2) 5)
          ∷ [])
          ∷ body_of
          (Do (Load 0 arrays.A (at_proc 0 1))
          ∷ Do (Load 1 arrays.A (at_proc 2 1))
          ∷ Do (Add 2 0 1)
          ∷ Do (Sub 3 0 1)
          ∷ Do (Store arrays.Y (at_proc 0 1) 2)
          ∷ Do (Store arrays.Y (at_proc 2 1) 3)
          ∷ [])
          ∷ [];
    }

-- loops with the greatest counts in one another, round nothing
abbrev pub greatest_loop : PlainBody → PlainBody
greatest_loop body = AndStmts (Loop (2 ^ 32 - 1) body) NoStmts

abbrev pub idle : PlainProgram
idle =
    record {
      size = 4;
      modulus = 17;
      procs = 1;
      line = 4;
      lanes = 1;
      regs = 0;
      tables = [];
      phases = greatest_loop (greatest_loop (greatest_loop NoStmts)) ∷ [];
    }
