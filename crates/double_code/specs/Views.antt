-- Programs on doubles by their views as plain data.
use Rattle.std.specs.Prelude.{ℤ, List, [], ◌∷◌, map, Vec}
use Rattle.std.proofs.Common.{Global}
use Rattle.icode.specs.Plain.{plain_op, plain_tables}
use Rattle.double_code.specs.declared.program.Note.{Note}
use Rattle.double_code.specs.declared.program.DoubleStmt.{DoubleStmt}
use Rattle.double_code.specs.declared.program.DoubleStmt.TheOpen.{DoubleStmt-F}
use Rattle.double_code.specs.declared.program.DoubleStmt.TheFolds.{fold-DoubleStmt}
use Rattle.double_code.specs.declared.program.DoubleProgram.{DoubleProgram}
use Rattle.double_code.specs.DoubleProgram as plain

abbrev pub plain_note : Note → plain.DoubleNote
plain_note n = record { before = n.before.items; factor = n.factor }

abbrev pub double_body_of : List plain.DoubleStmt → plain.DoubleBody
double_body_of [] = plain.NoStmts
double_body_of (stmt ∷ stmts) = plain.AndStmts stmt (double_body_of stmts)

abbrev pub double_stmt_view : DoubleStmt-F plain.DoubleStmt → plain.DoubleStmt
double_stmt_view (DoubleStmt-F.Loop count body) = plain.Loop count (double_body_of body.items)
double_stmt_view (DoubleStmt-F.Do note op) = plain.Do (plain_note note) (plain_op op)

abbrev pub plain_double_stmt : DoubleStmt → plain.DoubleStmt
plain_double_stmt = fold-DoubleStmt plain.DoubleStmt double_stmt_view

abbrev pub plain_double_body : List DoubleStmt → plain.DoubleBody
plain_double_body body = double_body_of (map plain_double_stmt body)

abbrev pub plain_double_phases : List (Vec DoubleStmt Global) → List plain.DoubleBody
plain_double_phases phases = map (λ body. plain_double_body body.items) phases

abbrev pub plain_factors : List (Vec ℤ Global) → List (List ℤ)
plain_factors tables = map (λ entries. entries.items) tables

abbrev pub plain_double_program : DoubleProgram → plain.PlainDoubleProgram
plain_double_program p =
    record {
      frame = record {
        size = p.size;
        modulus = p.modulus;
        procs = p.procs;
        line = p.line;
        lanes = p.lanes;
        regs = p.regs;
        tables = plain_tables p.tables.items;
        phases = [];
      };
      factors = plain_factors p.factors.items;
      phases = plain_double_phases p.phases.items;
    }
