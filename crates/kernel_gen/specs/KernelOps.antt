-- What operations of kernels stand for: operations of a program, and actions of the machine.
use Rattle.std.specs.Prelude.{ℕ, ◌<◌, List, [], ◌∷◌, map}
use Rattle.icode.specs.Sequences.Lanes.{Registers, lane_effects, weighted_operations}
use Rattle.icode.specs.declared.action.Action.{Action}
use Rattle.icode.specs.Actions.{step_of}
use Rattle.icode.specs.Plain.{PlainOp, PlainProgram, Add, Sub, Neg, MulConst}
use Rattle.kernel_gen.specs.declared.straight.KernelOp.{KernelOp}
use Rattle.kernel_gen.specs.declared.straight.KernelOp.TheVariants as instructions

abbrev pub op_of : KernelOp → PlainOp
op_of (instructions.Add r x y) = Add r x y
op_of (instructions.Sub r x y) = Sub r x y
op_of (instructions.Neg r x) = Neg r x
op_of (instructions.Mul r x c) = MulConst r x c

-- a program on these lanes that does nothing
abbrev pub nothing_on : ℕ → PlainProgram
nothing_on lanes = record { size = 0; modulus = 0; procs = 0; line = 0; lanes = lanes; regs = 0; tables = []; phases = [] }

-- the action of an operation on these lanes, and those of code: of a program, such operations see the lanes alone
abbrev pub action_by : ℕ → KernelOp → Action
action_by lanes i = (step_of (nothing_on lanes) (op_of i) [] 0).action

abbrev pub actions_by : ℕ → List KernelOp → List Action
actions_by lanes code = map (action_by lanes) code

-- what code does to the registers of a lane, modulo m
abbrev pub code_effect : ℕ → List KernelOp → Registers → Registers
code_effect m code = lane_effects m 0 (actions_by 1 code)

-- how many operations it has in a lane, where a multiplication counts as `weight` of them
abbrev pub code_cost : ℕ → List KernelOp → ℕ
code_cost weight code = weighted_operations weight (actions_by 1 code)

-- it has registers below a bound alone, and its factors are residues modulo m
abbrev pub IsWithin : ℕ → ℕ → KernelOp → Type 0
IsWithin m bound (instructions.Add r x y) = (r < bound) × (x < bound) × (y < bound)
IsWithin m bound (instructions.Sub r x y) = (r < bound) × (x < bound) × (y < bound)
IsWithin m bound (instructions.Neg r x) = (r < bound) × (x < bound)
IsWithin m bound (instructions.Mul r x c) = (r < bound) × (x < bound) × (c < m)

abbrev pub AreWithin : ℕ → ℕ → List KernelOp → Type 0
AreWithin m bound [] = Unit {0}
AreWithin m bound (i ∷ code) = IsWithin m bound i × AreWithin m bound code
