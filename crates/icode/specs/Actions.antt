-- What a program as plain data stands for: its lists of actions.
use Rattle.std.specs.Prelude.{ℕ, ◌+◌, ◌-◌, ◌*◌, ◌^◌, ◌<◌, ◌≤◌, ◌⊎◌, List, [], ◌∷◌, ◌++◌, map, length, replicate, flat_map, slice_index, slice_index_or, All}
use Rattle.std.specs.List.{range_with_len}
use Rattle.operators.specs.Sum.{sum_below, list_below}
use Rattle.icode.specs.declared.action.Action.{Action}
use Rattle.icode.specs.declared.action.Action.TheVariants as actions
use Rattle.icode.specs.declared.program.Array.{Array}
use Rattle.icode.specs.declared.program.Array.TheVariants.{X, Y, A, B}
use Rattle.icode.specs.Expression.{sum_numbers}
use Rattle.icode.specs.Machine.{Code, whole_lines}
use Rattle.icode.specs.Plain.{PlainOp, PlainStmt, PlainBody, PlainProgram, Load, Store, Zero, Add, Sub, Neg, MulConst, MulTable, Tile, Loop, Do, NoStmts, AndStmts}

-- where an array of n words begins
abbrev pub array_start : ℕ → Array → ℕ
array_start n X = 0
array_start n Y = n
array_start n A = 2 * n
array_start n B = 3 * n

-- the factor of each lane, and 0 for the lanes that there are not
abbrev pub lane_factors : ℕ → (ℕ → ℕ) → List ℕ
lane_factors lanes factor = list_below lanes factor ++ replicate (16 - lanes) 0

-- an action, with what its place is: the greatest number on the way to it, the place after the last
-- that the action uses, and how many places there are
pub record Step : Type 0 where
  pub action : Action
  pub peak : ℕ
  pub reach : ℕ
  pub room : ℕ

-- an action with no place
abbrev pub plain : Action → Step
plain action = record { action = action; peak = 0; reach = 0; room = 0 }

-- steps depend on the values of the open loops, the outermost first, and on the processor
abbrev pub Steps : Type 0
Steps = List ℕ → ℕ → List Step

abbrev pub step_of : PlainProgram → PlainOp → List ℕ → ℕ → Step
step_of p (Load register array place) vs q =
    let at = sum_numbers place vs q in
    let words = whole_lines p.size p.line in
    let action = actions.Load register (array_start words array + at.value) in
    record { action = action; peak = at.peak; reach = at.value + p.lanes; room = words }
step_of p (Store array place register) vs q =
    let at = sum_numbers place vs q in
    let words = whole_lines p.size p.line in
    let action = actions.Store (array_start words array + at.value) register in
    record { action = action; peak = at.peak; reach = at.value + p.lanes; room = words }
step_of p (Zero register) vs q = plain (actions.Zero register)
step_of p (Add register left right) vs q = plain (actions.Add register left right)
step_of p (Sub register left right) vs q = plain (actions.Sub register left right)
step_of p (Neg register source) vs q = plain (actions.Neg register source)
step_of p (MulConst register source factor) vs q =
    plain (actions.Mul register source (lane_factors p.lanes (λ lane. factor)))
step_of p (MulTable register source table place step) vs q =
    let at = sum_numbers place vs q in
    let entries = slice_index_or p.tables table [] in
    let factors = lane_factors p.lanes (λ lane. slice_index entries (at.value + step * lane)) in
    let reach = at.value + step * (p.lanes - 1) + 1 in
    record { action = actions.Mul register source factors; peak = at.peak; reach = reach; room = length entries }
step_of p (Tile register source) vs q = plain (actions.Tile register source)

-- a loop is the steps of its body for each value, one after the other
abbrev mutual
  pub steps_of_stmt : PlainProgram → PlainStmt → Steps
  steps_of_stmt p (Loop count body) vs q = flat_map (λ i. steps_of_body p body (vs ++ i ∷ []) q) (range_with_len 0 count)
  steps_of_stmt p (Do op) vs q = step_of p op vs q ∷ []

  pub steps_of_body : PlainProgram → PlainBody → Steps
  steps_of_body p NoStmts vs q = []
  steps_of_body p (AndStmts stmt rest) vs q = steps_of_stmt p stmt vs q ++ steps_of_body p rest vs q

abbrev pub actions_of : List Step → List Action
actions_of steps = map (λ (s : Step). s.action) steps

-- the steps of a phase and a processor
abbrev pub steps_of_phase : PlainProgram → ℕ → ℕ → List Step
steps_of_phase p phase q = steps_of_body p (slice_index_or p.phases phase NoStmts) [] q

-- what a machine runs for the program
abbrev pub plain_code : PlainProgram → Code
plain_code p =
    record {
      size = p.size;
      modulus = p.modulus;
      procs = p.procs;
      line = p.line;
      lanes = p.lanes;
      regs = p.regs;
      lists = map (λ body. map (λ q. actions_of (steps_of_body p body [] q)) (range_with_len 0 p.procs)) p.phases;
    }

-- What fits

-- each register is there
abbrev pub RegistersFit : ℕ → ℕ → Action → Type 0
RegistersFit regs lanes (actions.Load r address) = r < regs
RegistersFit regs lanes (actions.Store address r) = r < regs
RegistersFit regs lanes (actions.Zero r) = r < regs
RegistersFit regs lanes (actions.Add r x y) = (r < regs) × (x < regs) × (y < regs)
RegistersFit regs lanes (actions.Sub r x y) = (r < regs) × (x < regs) × (y < regs)
RegistersFit regs lanes (actions.Neg r x) = (r < regs) × (x < regs)
RegistersFit regs lanes (actions.Mul r x factors) = (r < regs) × (x < regs)
RegistersFit regs lanes (actions.Tile r x) =
    (r + lanes ≤ regs) × (x + lanes ≤ regs) × ((r + lanes ≤ x) ⊎ (x + lanes ≤ r))

abbrev pub FactorsFit : ℕ → Action → Type 0
FactorsFit modulus (actions.Mul r x factors) = All (λ c. c < modulus) factors
FactorsFit modulus _ = Unit {0}

pub record StepFits (p : PlainProgram) (s : Step) : Type 0 where
  pub numbers : s.peak < 2 ^ 64
  pub place : s.reach ≤ s.room
  pub registers : RegistersFit p.regs p.lanes s.action
  pub factors : FactorsFit p.modulus s.action

-- all lists together are short, and each step fits
pub record PlainFits (p : PlainProgram) : Type 0 where
  pub few : sum_below (length p.phases) (λ phase. sum_below p.procs (λ q. length (steps_of_phase p phase q))) < 2 ^ 59
  pub each : (phase q : ℕ) → q < p.procs → All (StepFits p) (steps_of_phase p phase q)
