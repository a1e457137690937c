-- Programs on words as plain data, and their lists of actions.
use Rattle.std.specs.Prelude.{ℕ, ◌+◌, ◌*◌, List, [], ◌∷◌, ◌++◌, map, flat_map, slice_index, slice_index_or}
use Rattle.std.specs.List.{range_with_len}
use Rattle.icode.specs.Actions.{step_of, lane_factors}
use Rattle.icode.specs.Expression.{sum_numbers}
use Rattle.icode.specs.Plain.{PlainOp, PlainProgram, Load, Store, Zero, Add, Sub, Neg, MulConst, MulTable, Tile}
use Rattle.word_code.specs.Words.{Width}
use Rattle.word_code.specs.declared.program.Reduction.{Reduction}
use Rattle.word_code.specs.WordMachine.{WordAction, WordCode}

-- what an operation on words has beside the operation: the reductions before it, the bias of a difference and the
-- quotient of a constant factor
pub record Note : Type 0 where
  pub before : List Reduction
  pub bias : ℕ
  pub quotient : ℕ

mutual
  pub data WordStmt : Type 0 where
    Loop : (count : ℕ) → (body : WordBody) → WordStmt
    Do : (note : Note) → (op : PlainOp) → WordStmt

  pub data WordBody : Type 0 where
    NoStmts : WordBody
    AndStmts : (stmt : WordStmt) → (rest : WordBody) → WordBody

-- a program on words: its header and tables are those of the frame, which has no phases
pub record PlainWordProgram : Type 0 where
  pub width : Width
  pub frame : PlainProgram
  -- a table of quotients for each table of factors
  pub quotients : List (List ℕ)
  pub phases : List WordBody

-- the quotients of the factors of all lanes
abbrev pub quotients_at : PlainWordProgram → Note → PlainOp → List ℕ → ℕ → List ℕ
quotients_at p note (MulConst register source factor) vs q = lane_factors p.frame.lanes (λ lane. note.quotient)
quotients_at p note (MulTable register source table place step) vs q =
    let at = sum_numbers place vs q in
    lane_factors p.frame.lanes (λ lane. slice_index (slice_index_or p.quotients table []) (at.value + step * lane))
quotients_at p note (Load register array place) vs q = []
quotients_at p note (Store array place register) vs q = []
quotients_at p note (Zero register) vs q = []
quotients_at p note (Add register left right) vs q = []
quotients_at p note (Sub register left right) vs q = []
quotients_at p note (Neg register source) vs q = []
quotients_at p note (Tile register source) vs q = []

abbrev pub word_action_of : PlainWordProgram → Note → PlainOp → List ℕ → ℕ → WordAction
word_action_of p note op vs q =
    record {
      before = note.before;
      action = (step_of p.frame op vs q).action;
      bias = note.bias;
      quotients = quotients_at p note op vs q;
    }

-- a loop is the actions of its body for each value, one after the other
abbrev mutual
  pub word_actions_of_stmt : PlainWordProgram → WordStmt → List ℕ → ℕ → List WordAction
  word_actions_of_stmt p (Loop count body) vs q =
      flat_map (λ i. word_actions_of_body p body (vs ++ i ∷ []) q) (range_with_len 0 count)
  word_actions_of_stmt p (Do note op) vs q = word_action_of p note op vs q ∷ []

  pub word_actions_of_body : PlainWordProgram → WordBody → List ℕ → ℕ → List WordAction
  word_actions_of_body p NoStmts vs q = []
  word_actions_of_body p (AndStmts stmt rest) vs q =
      word_actions_of_stmt p stmt vs q ++ word_actions_of_body p rest vs q

-- what a machine of words runs for the program
abbrev pub word_code : PlainWordProgram → WordCode
word_code p =
    record {
      width = p.width;
      size = p.frame.size;
      modulus = p.frame.modulus;
      procs = p.frame.procs;
      line = p.frame.line;
      lanes = p.frame.lanes;
      regs = p.frame.regs;
      lists = map (λ body. map (λ q. word_actions_of_body p body [] q) (range_with_len 0 p.frame.procs)) p.phases;
    }
