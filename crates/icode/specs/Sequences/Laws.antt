-- The statements of the laws.
use Rattle.std.specs.Prelude.{◌≡◌, ℕ, ◌*◌, ◌<◌, ◌≤◌, List, length, ◌++◌}
use Rattle.icode.specs.declared.action.Action.{Action}
use Rattle.icode.specs.Machine.{Local, effects, counts_of, weighted}
use Rattle.icode.specs.Sequences.Lanes.{lane_of, lane_effects, AreArithmetic, operations, muls, weighted_operations}

-- Arithmetic leaves the memory, and in each lane it does what it does in that lane alone
abbrev pub ArithmeticIsByLane : Type 0
ArithmeticIsByLane =
    (m lanes regs : ℕ) (actions : List Action) (s : Local) → AreArithmetic lanes regs actions → regs * lanes ≤ length s.registers →
    ((effects m lanes actions s).memory ≡ s.memory)
    × ((lane : ℕ) → lane < lanes → lane_of lanes (effects m lanes actions s).registers lane ≡ lane_effects m lane actions (lane_of lanes s.registers lane))

-- One list of actions after another
abbrev pub ListsFollow : Type 0
ListsFollow =
    (m lanes : ℕ) (first second : List Action) (s : Local) → effects m lanes (first ++ second) s ≡ effects m lanes second (effects m lanes first s)

-- Operations are counted once for each lane
abbrev pub OperationsAreByLane : Type 0
OperationsAreByLane = (lanes : ℕ) (actions : List Action) → (counts_of lanes actions).operations ≡ lanes * operations actions

-- So are the multiplications among them
abbrev pub MulsAreByLane : Type 0
MulsAreByLane = (lanes : ℕ) (actions : List Action) → (counts_of lanes actions).muls ≡ lanes * muls actions

-- and so are the operations where a multiplication counts as several of them
abbrev pub WeightedIsByLane : Type 0
WeightedIsByLane =
    (weight lanes : ℕ) (actions : List Action) → 0 < weight → weighted weight (counts_of lanes actions) ≡ lanes * weighted_operations weight actions
