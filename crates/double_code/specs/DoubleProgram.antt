-- Programs on words that are doubles, as plain data, and their lists of actions.
use Rattle.std.specs.Prelude.{ℕ, ◌+◌, ◌*◌, List, [], ◌∷◌, ◌++◌, Bool, true, false, map, flat_map, slice_index_or}
use Rattle.std.specs.Prelude.{ℤ, pos}
use Rattle.std.specs.List.{range_with_len}
use Rattle.icode.specs.declared.program.Array.{Array}
use Rattle.icode.specs.declared.program.Array.TheVariants.{X, Y, A, B}
use Rattle.icode.specs.Actions.{step_of}
use Rattle.icode.specs.Expression.{sum_numbers}
use Rattle.icode.specs.Plain.{PlainOp, PlainProgram, Store, MulConst, MulTable}
use Rattle.double_code.specs.DoubleMachine.{DoubleAction, DoubleCode}

-- what an operation has beside the operation: the registers that are reduced before it, and its constant factor
pub record DoubleNote : Type 0 where
  pub before : List ℕ
  pub factor : ℤ

mutual
  pub data DoubleStmt : Type 0 where
    Loop : (count : ℕ) → (body : DoubleBody) → DoubleStmt
    Do : (note : DoubleNote) → (op : PlainOp) → DoubleStmt

  pub data DoubleBody : Type 0 where
    NoStmts : DoubleBody
    AndStmts : (stmt : DoubleStmt) → (rest : DoubleBody) → DoubleBody

-- a program on doubles: its header and the residues of its tables are those of the frame, which has no phases
pub record PlainDoubleProgram : Type 0 where
  pub frame : PlainProgram
  -- a table of factors for each table of residues
  pub factors : List (List ℤ)
  pub phases : List DoubleBody

-- the words of X and of Y are residues
abbrev pub has_residues : Array → Bool
has_residues X = true
has_residues Y = true
has_residues A = false
has_residues B = false

abbrev pub settles_at : PlainOp → Bool
settles_at (Store array place register) = has_residues array
settles_at op = false

-- the factors of all lanes
abbrev pub factors_at : PlainDoubleProgram → DoubleNote → PlainOp → List ℕ → ℕ → List ℤ
factors_at p note (MulConst register source factor) vs q =
    map (λ lane. note.factor) (range_with_len 0 p.frame.lanes)
factors_at p note (MulTable register source table place step) vs q =
    let at = sum_numbers place vs q in
    let entries = slice_index_or p.factors table [] in
    map (λ lane. slice_index_or entries (at.value + step * lane) (pos 0)) (range_with_len 0 p.frame.lanes)
factors_at p note op vs q = []

abbrev pub double_action_of : PlainDoubleProgram → DoubleNote → PlainOp → List ℕ → ℕ → DoubleAction
double_action_of p note op vs q =
    record {
      before = note.before;
      action = (step_of p.frame op vs q).action;
      factors = factors_at p note op vs q;
      settles = settles_at op;
    }

-- a loop is the actions of its body for each value, one after the other
abbrev mutual
  pub double_actions_of_stmt : PlainDoubleProgram → DoubleStmt → List ℕ → ℕ → List DoubleAction
  double_actions_of_stmt p (Loop count body) vs q =
      flat_map (λ i. double_actions_of_body p body (vs ++ i ∷ []) q) (range_with_len 0 count)
  double_actions_of_stmt p (Do note op) vs q = double_action_of p note op vs q ∷ []

  pub double_actions_of_body : PlainDoubleProgram → DoubleBody → List ℕ → ℕ → List DoubleAction
  double_actions_of_body p NoStmts vs q = []
  double_actions_of_body p (AndStmts stmt rest) vs q =
      double_actions_of_stmt p stmt vs q ++ double_actions_of_body p rest vs q

-- what a machine of doubles runs for the program
abbrev pub double_code : PlainDoubleProgram → DoubleCode
double_code p =
    record {
      size = p.frame.size;
      modulus = p.frame.modulus;
      procs = p.frame.procs;
      line = p.frame.line;
      lanes = p.frame.lanes;
      regs = p.frame.regs;
      lists = map (λ body. map (λ q. double_actions_of_body p body [] q) (range_with_len 0 p.frame.procs)) p.phases;
    }
