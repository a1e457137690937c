-- The trees of phases are those that C's grammar gives to their texts.
use Rattle.std.proofs.Common.{◌≡◌, ℕ, ◌+◌, true, ◌&&◌, refl, ap₂}
use Rattle.std.specs.Prelude.{nat_le}
use Rattle.icode.specs.Plain.{PlainExpr, PlainParts, PlainOp, PlainStmt, PlainBody, Sum, NoParts, AndParts, Load, Store, Zero, Add, Sub, Neg, MulConst, MulTable, Tile, Loop, Do, NoStmts, AndStmts}
use Rattle.c_meaning.specs.Types.{Bare}
use Rattle.c_meaning.specs.Syntax.{CExpr, Constant, Two, Plus, Tight, level, is_read_so, is_stmt_read_so, are_stmts_read_so}
use Rattle.c_meaning.specs.PlaceTrees.{place_tree, with_parts, part_tree}
use Rattle.c_meaning.specs.ProgramTrees.{op_tree, stmt_tree, body_tree}
use Rattle.c_meaning.specs.ProgramLaws.{PhasesAreRead}
use Rattle.c_meaning.proofs.PlaceTexts.{places_are_trees}

parts_level : (parts : PlainParts) (left : CExpr) → nat_le 12 (level left) ≡ true → nat_le 12 (level (with_parts left parts)) ≡ true
parts_level NoParts left h = h
parts_level (AndParts part rest) left h = parts_level rest (Two Plus Tight left (part_tree part)) refl

-- a place may be the left operand of a sum
place_level : (place : PlainExpr) → nat_le 12 (level (place_tree place)) ≡ true
place_level (Sum constant parts) = parts_level parts (Constant constant Bare) refl

place_read : (place : PlainExpr) → is_read_so (place_tree place) ≡ true
place_read place = (places_are_trees place).1

op_read : (op : PlainOp) → is_stmt_read_so (op_tree op) ≡ true
op_read (Load r array place) = ap₂ (λ a b. ((a && true) && (b && true)) && true) (place_level place) (place_read place)
op_read (Store array place r) = ap₂ (λ a b. (((a && true) && (b && true)) && true) && true) (place_level place) (place_read place)
op_read (Zero r) = refl
op_read (Add r x y) = refl
op_read (Sub r x y) = refl
op_read (Neg r x) = refl
op_read (MulConst r x factor) = refl
op_read (MulTable r x table place step) =
    ap₂ (λ a b. (((a && true) && (b && true)) && true) && true) (place_level place) (place_read place)
op_read (Tile r x) = refl

mutual
  stmt_read : (depth : ℕ) (stmt : PlainStmt) → is_stmt_read_so (stmt_tree depth stmt) ≡ true
  stmt_read depth (Loop count body) = body_read (depth + 1) body
  stmt_read depth (Do op) = op_read op

  body_read : (depth : ℕ) (body : PlainBody) → are_stmts_read_so (body_tree depth body) ≡ true
  body_read depth NoStmts = refl
  body_read depth (AndStmts stmt rest) = ap₂ (λ a b. a && b) (stmt_read depth stmt) (body_read depth rest)

pub phases_are_read : PhasesAreRead
phases_are_read regs phase body = body_read 0 body
