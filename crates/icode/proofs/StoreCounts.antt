-- How many stores lists have.
use Rattle.std.proofs.Common.{◌≡◌, ℕ, ◌+◌, ◌*◌, ◌<◌, ◌≤◌, ◌^◌, zero, suc, zero-mul, suc-mul, List, [], ◌∷◌, ◌++◌, Vec}
use Rattle.std.proofs.Common.{Global, flat_map, get_or, length, refl, sym, ap, ◌∙◌, arith, le_refl, mul-le-mul_left}
use Rattle.std.specs.List.{range_with_len}
use Rattle.icode.specs.declared.action.Action.{Action}
use Rattle.icode.specs.declared.action.Action.TheVariants as actions
use Rattle.icode.specs.declared.program.Stmt.{Stmt}
use Rattle.icode.specs.declared.program.Stmt.TheVariants as stmts
use Rattle.icode.specs.declared.program.Program.{Program}
use Rattle.icode.specs.Actions.{Step, actions_of, step_of, steps_of_stmt, steps_of_body}
use Rattle.icode.specs.Buffers.{stores_among}
use Rattle.icode.specs.Lengths.{len_of_stmt, len_of_body, stores_of_op, stores_of_stmt, stores_of_body, stmt_stores}
use Rattle.icode.specs.Lengths.{body_stores}
use Rattle.icode.specs.Machine.{acts}
use Rattle.icode.specs.Plain.{PlainOp, PlainStmt, PlainBody, PlainProgram, Load, Store, Zero, Add, Sub, Neg, MulConst}
use Rattle.icode.specs.Plain.{MulTable, Tile, Loop, Do, NoStmts, AndStmts, plain_body}
use Rattle.icode.specs.Program.{plain_program, code_of, Fits}
use Rattle.icode.proofs.Lists.{acts_are, body_small}
use Rattle.icode.proofs.Views.{plain_stmt-Loop}

pub stmt_stores-Loop : (count : ℕ) (body : Vec Stmt Global) →
    stmt_stores (stmts.Loop count body) ≡ count * body_stores body.items
stmt_stores-Loop count body = ap stores_of_stmt (plain_stmt-Loop count body)

-- one action, and those after it
pub stores_first : (a : Action) (xs : List Action) → stores_among (a ∷ xs) ≡ stores_among (a ∷ []) + stores_among xs
stores_first (actions.Store address r) xs = omega arith
stores_first a xs = omega arith

stores-append : (xs ys : List Step) → stores_among (actions_of (xs ++ ys)) ≡ stores_among (actions_of xs)
    + stores_among (actions_of ys)
stores-append [] ys = omega arith
stores-append (s ∷ xs) ys = omega (arith, stores_first s.action (actions_of (xs ++ ys)), stores_first s.action (actions_of xs), stores-append xs ys)

times_stores : (f : ℕ → List Step) (n : ℕ) → ((i : ℕ) → stores_among (actions_of (f i)) ≡ n) → (count first : ℕ) →
    stores_among (actions_of (flat_map f (range_with_len first count))) ≡ count * n
times_stores f n each zero first = sym (zero-mul n)
times_stores f n each (suc count) first = omega (arith, stores-append (f first) (flat_map f (range_with_len (first + 1) count)), each first, times_stores f n each count (first + 1), suc-mul count n)

op_stores : (p : PlainProgram) (op : PlainOp) (vs : List ℕ) (q : ℕ) →
    stores_among ((step_of p op vs q).action ∷ []) ≡ stores_of_op op
op_stores p (Load r array place) vs q = refl
op_stores p (Store array place r) vs q = refl
op_stores p (Zero r) vs q = refl
op_stores p (Add r x y) vs q = refl
op_stores p (Sub r x y) vs q = refl
op_stores p (Neg r x) vs q = refl
op_stores p (MulConst r x factor) vs q = refl
op_stores p (MulTable r x table place step) vs q = refl
op_stores p (Tile r x) vs q = refl

-- A statement has as many stores whatever the loops' values and the processor.
mutual
  stmt_count : (p : PlainProgram) (s : PlainStmt) (vs : List ℕ) (q : ℕ) →
      stores_among (actions_of (steps_of_stmt p s vs q)) ≡ stores_of_stmt s
  stmt_count p (Loop count body) vs q =
      times_stores (λ i. steps_of_body p body (vs ++ i ∷ []) q) (stores_of_body body) (λ i. body_count p body (vs ++ i ∷ []) q) count 0
  stmt_count p (Do op) vs q = op_stores p op vs q

  body_count : (p : PlainProgram) (body : PlainBody) (vs : List ℕ) (q : ℕ) →
      stores_among (actions_of (steps_of_body p body vs q)) ≡ stores_of_body body
  body_count p NoStmts vs q = refl
  body_count p (AndStmts s body) vs q = omega (arith, stores-append (steps_of_stmt p s vs q) (steps_of_body p body vs q), stmt_count p s vs q, body_count p body vs q)

op_few : (op : PlainOp) → stores_of_op op ≤ 1
op_few (Store array place r) = omega arith
op_few op = omega arith

-- no more than there are actions
mutual
  stmt_few : (s : PlainStmt) → stores_of_stmt s ≤ len_of_stmt s
  stmt_few (Loop count body) = mul-le-mul_left count (body_few body)
  stmt_few (Do op) = op_few op

  body_few : (body : PlainBody) → stores_of_body body ≤ len_of_body body
  body_few NoStmts = le_refl 0
  body_few (AndStmts s body) = omega (arith, stmt_few s, body_few body)

pub stores_are : (p : Program) (phase q : ℕ) (body : Vec Stmt Global) → phase < length p.phases.items → q < p.procs →
    body ≡ get_or p.phases.items phase body → stores_among (acts (code_of p) phase q) ≡ body_stores body.items
stores_are p phase q body lt small e =
    ap stores_among (acts_are p phase q body lt small e) ∙ body_count (plain_program p) (plain_body body.items) [] q

pub stores_small : (p : Program) → Fits p → (phase : ℕ) (body : Vec Stmt Global) → phase < length p.phases.items →
    body ≡ get_or p.phases.items phase body → body_stores body.items < 2 ^ 59
stores_small p fits phase body lt e =
    omega (arith, body_few (plain_body body.items), body_small p fits phase 0 body lt (omega (arith, p.header.of_procs.0)) e)
