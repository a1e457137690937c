-- Programs on words by their views as plain data.
use Rattle.std.specs.Prelude.{List, [], ◌∷◌, map, Vec}
use Rattle.std.proofs.Common.{Global}
use Rattle.icode.specs.Plain.{plain_op, plain_tables}
use Rattle.word_code.specs.declared.program.Note as declared_note
use Rattle.word_code.specs.declared.program.Laziness.{Laziness}
use Rattle.word_code.specs.declared.program.WordStmt.{WordStmt}
use Rattle.word_code.specs.declared.program.WordStmt.TheOpen.{WordStmt-F}
use Rattle.word_code.specs.declared.program.WordStmt.TheFolds.{fold-WordStmt}
use Rattle.word_code.specs.declared.program.WordProgram.{WordProgram}
use Rattle.word_code.specs.Quicken.{PlainLaziness}
use Rattle.word_code.specs.WordProgram as plain

abbrev pub lazy_of : Laziness → PlainLaziness
lazy_of k =
    record {
      width = record { half = k.half; rough = k.rough };
      kept = record { of_a = k.keep_a; of_b = k.keep_b };
      limit = k.limit;
    }

abbrev pub plain_note : declared_note.Note → plain.Note
plain_note n = record { before = n.before.items; bias = n.bias; quotient = n.quotient }

abbrev pub word_body_of : List plain.WordStmt → plain.WordBody
word_body_of [] = plain.NoStmts
word_body_of (stmt ∷ stmts) = plain.AndStmts stmt (word_body_of stmts)

abbrev pub word_stmt_view : WordStmt-F plain.WordStmt → plain.WordStmt
word_stmt_view (WordStmt-F.Loop count body) = plain.Loop count (word_body_of body.items)
word_stmt_view (WordStmt-F.Do note op) = plain.Do (plain_note note) (plain_op op)

abbrev pub plain_word_stmt : WordStmt → plain.WordStmt
plain_word_stmt = fold-WordStmt plain.WordStmt word_stmt_view

abbrev pub plain_word_body : List WordStmt → plain.WordBody
plain_word_body body = word_body_of (map plain_word_stmt body)

abbrev pub plain_word_phases : List (Vec WordStmt Global) → List plain.WordBody
plain_word_phases phases = map (λ body. plain_word_body body.items) phases

abbrev pub plain_word_program : WordProgram → plain.PlainWordProgram
plain_word_program p =
    record {
      width = record { half = p.half; rough = p.rough };
      frame = record {
        size = p.size;
        modulus = p.modulus;
        procs = p.procs;
        line = p.line;
        lanes = p.lanes;
        regs = p.regs;
        tables = plain_tables p.tables.items;
        phases = [];
      };
      quotients = plain_tables p.quotients.items;
      phases = plain_word_phases p.phases.items;
    }
