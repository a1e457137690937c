-- What the code's values are among the definitions.
use Rattle.std.specs.Prelude.{◌≡◌, ℕ, ◌*◌, Bool, List, length, map, All, IsTrue}
use Rattle.std.proofs.Common.{Bor}
use Rattle.icode.specs.Actions.{StepFits, steps_of_stmt, steps_of_body}
use Rattle.icode.specs.Machine.{whole_lines}
use Rattle.icode.specs.Plain.{PlainStmt, PlainBody, PlainProgram}
use Rattle.word_code.specs.declared.in_place.homes.HomeTable.{HomeTable}
use Rattle.icode.specs.declared.program.Expr.{Expr}
use Rattle.icode.specs.declared.program.Op.{Op}
use Rattle.icode.specs.declared.program.Program.{Program}
use Rattle.icode.specs.declared.program.Stmt.{Stmt}
use Rattle.icode.specs.Limits.{is_op_within}
use Rattle.icode.specs.Plain.{PlainExpr, plain_expr, plain_op, plain_stmt, plain_body}
use Rattle.icode.specs.Program.{plain_program}
use Rattle.word_code.specs.declared.in_place.routes.Route.{Route}
use Rattle.word_code.specs.InPlace.Accesses.{Access, are_right, homes_after_all, accesses_of, accesses_of_stmt}
use Rattle.word_code.specs.InPlace.Accesses.{accesses_of_body, accesses_of_phase}
use Rattle.word_code.specs.InPlace.Homes.{Homes}

abbrev pub homes_of : HomeTable → Homes
homes_of t = record { homes = t.homes.items; guests = t.guests.items }

-- how many words a memory of four arrays has
abbrev pub span : PlainProgram → ℕ
span p = 4 * whole_lines p.size p.line

-- one entry for each address
pub record IsTable (words : ℕ) (t : HomeTable) : Type 0 where
  pub homes : length t.homes.items ≡ words
  pub guests : length t.guests.items ≡ words

-- all steps of a statement on the only processor fit, and of statements
abbrev pub StmtFits : PlainProgram → PlainStmt → List ℕ → Type 0
StmtFits p stmt vs = All (StepFits p) (steps_of_stmt p stmt vs 0)

abbrev pub BodyFits : PlainProgram → PlainBody → List ℕ → Type 0
BodyFits p body vs = All (StepFits p) (steps_of_body p body vs 0)

abbrev pub plain_places : List (Bor Expr) → List PlainExpr
plain_places places = map (λ e. plain_expr e.now) places

-- ---- a walk over accesses

abbrev pub op_accesses : Program → Route → Op → List ℕ → List Access
op_accesses p route op vs = accesses_of (plain_program p) route (plain_op op) vs

abbrev pub stmt_accesses : Program → Route → Stmt → List ℕ → List Access
stmt_accesses p route stmt vs = accesses_of_stmt (plain_program p) route (plain_stmt stmt) vs

abbrev pub body_accesses : Program → Route → List Stmt → List ℕ → List Access
body_accesses p route body vs = accesses_of_body (plain_program p) route (plain_body body) vs

abbrev pub phase_accesses : Program → List Route → List Stmt → List Access
phase_accesses p routes body = accesses_of_phase (plain_program p) routes (plain_body body)

-- the answer says whether all are right from this table on
abbrev pub Tells : Bool → Program → List Access → HomeTable → Type 0
Tells answer p accesses table = answer ≡ are_right p.lanes accesses (homes_of table)

-- and where they are, the table is the one after them
abbrev pub HousesIf : Bool → Program → List Access → HomeTable → HomeTable → Type 0
HousesIf answer p accesses before after =
    IsTrue answer → homes_of after ≡ homes_after_all p.lanes accesses (homes_of before)

abbrev pub IsOpWithin : Program → Op → List ℕ → Type 0
IsOpWithin p op vs = IsTrue (is_op_within p.modulus (plain_op op) (length vs))
