-- What arithmetic does, lane by lane. No lane depends on another.
use Rattle.std.specs.Prelude.{ℕ, ◌+◌, ◌*◌, ◌<◌, ◌≤◌, List, [], ◌∷◌, length, slice_index, ◌==◌, if◌then◌else◌}
use Rattle.ring_mod.specs.Residue.{sum_mod, difference_mod, negation_mod, product_mod}
use Rattle.icode.specs.declared.action.Action.{Action}
use Rattle.icode.specs.declared.action.Action.TheVariants.{Load, Store, Zero, Add, Sub, Neg, Mul, Tile}

-- the registers in one lane, by their numbers
abbrev pub Registers : Type 0
Registers = ℕ → ℕ

-- one lane of the words of a processor's registers
abbrev pub lane_of : ℕ → List ℕ → ℕ → Registers
lane_of lanes words lane r = slice_index words (r * lanes + lane)

-- the registers with v in register r
abbrev pub with_register : Registers → ℕ → ℕ → Registers
with_register g r v q = if q == r then v else g q

-- what an action does to the registers of a lane, modulo m. Loads, stores and tiles aren't arithmetic
abbrev pub lane_effect : ℕ → ℕ → Action → Registers → Registers
lane_effect m lane (Load r address) g = g
lane_effect m lane (Store address r) g = g
lane_effect m lane (Zero r) g = with_register g r 0
lane_effect m lane (Add r x y) g = with_register g r (sum_mod m (g x) (g y))
lane_effect m lane (Sub r x y) g = with_register g r (difference_mod m (g x) (g y))
lane_effect m lane (Neg r x) g = with_register g r (negation_mod m (g x))
lane_effect m lane (Mul r x factors) g = with_register g r (product_mod m (g x) (slice_index factors lane))
lane_effect m lane (Tile r x) g = g

-- what a list of actions does to them
abbrev pub lane_effects : ℕ → ℕ → List Action → Registers → Registers
lane_effects m lane [] g = g
lane_effects m lane (action ∷ actions) g = lane_effects m lane actions (lane_effect m lane action g)

-- arithmetic on the registers below a bound, with a factor for each lane
abbrev pub IsArithmetic : ℕ → ℕ → Action → Type 0
IsArithmetic lanes bound (Load r address) = ⊥
IsArithmetic lanes bound (Store address r) = ⊥
IsArithmetic lanes bound (Zero r) = r < bound
IsArithmetic lanes bound (Add r x y) = (r < bound) × (x < bound) × (y < bound)
IsArithmetic lanes bound (Sub r x y) = (r < bound) × (x < bound) × (y < bound)
IsArithmetic lanes bound (Neg r x) = (r < bound) × (x < bound)
IsArithmetic lanes bound (Mul r x factors) = (r < bound) × (x < bound) × (lanes ≤ length factors)
IsArithmetic lanes bound (Tile r x) = ⊥

abbrev pub AreArithmetic : ℕ → ℕ → List Action → Type 0
AreArithmetic lanes bound [] = Unit {0}
AreArithmetic lanes bound (action ∷ actions) = IsArithmetic lanes bound action × AreArithmetic lanes bound actions

-- the counted operations of an action in one lane, and of a list of actions
abbrev pub operations_of : Action → ℕ
operations_of (Load r address) = 0
operations_of (Store address r) = 0
operations_of (Zero r) = 0
operations_of (Add r x y) = 1
operations_of (Sub r x y) = 1
operations_of (Neg r x) = 1
operations_of (Mul r x factors) = 1
operations_of (Tile r x) = 0

abbrev pub operations : List Action → ℕ
operations [] = 0
operations (action ∷ actions) = operations_of action + operations actions

-- the multiplications among them
abbrev pub muls_of : Action → ℕ
muls_of (Mul r x factors) = 1
muls_of _ = 0

abbrev pub muls : List Action → ℕ
muls [] = 0
muls (action ∷ actions) = muls_of action + muls actions

-- the operations in one lane, where a multiplication counts as `weight` of them
abbrev pub weighted_of : ℕ → Action → ℕ
weighted_of weight (Mul r x factors) = weight
weighted_of weight action = operations_of action

abbrev pub weighted_operations : ℕ → List Action → ℕ
weighted_operations weight [] = 0
weighted_operations weight (action ∷ actions) = weighted_of weight action + weighted_operations weight actions
