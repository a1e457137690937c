-- Actions of rounds: what they put and read, load and store, and what they make of a memory.
use Rattle.std.proofs.Common.{◌≡◌, ℕ, ◌+◌, ◌<◌, ◌≤◌, List, [], ◌∷◌, length, Contains}
use Rattle.std.specs.Prelude.{flat_map}
use Rattle.std.specs.List.{range_with_len}
use Rattle.icode.specs.declared.action.Action.{Action}
use Rattle.icode.specs.declared.action.Action.TheVariants.{Load, Store, Zero, Add, Sub, Neg, Mul, Tile}
use Rattle.icode.specs.Machine.{effects, stored_words}

-- the action puts the next register, or those from it on, and reads registers before it
abbrev pub IsFresh : ℕ → ℕ → Action → Type 0
IsFresh lanes next (Load r address) = r ≡ next
IsFresh lanes next (Store address r) = r < next
IsFresh lanes next (Zero r) = r ≡ next
IsFresh lanes next (Add r x y) = (r ≡ next) × (x < next) × (y < next)
IsFresh lanes next (Sub r x y) = (r ≡ next) × (x < next) × (y < next)
IsFresh lanes next (Neg r x) = (r ≡ next) × (x < next)
IsFresh lanes next (Mul r x factors) = (r ≡ next) × (x < next)
IsFresh lanes next (Tile r x) = (r ≡ next) × (x + lanes ≤ next)

-- how many registers have been put after it
abbrev pub next_after : ℕ → ℕ → Action → ℕ
next_after lanes next (Store address r) = next
next_after lanes next (Tile r x) = next + lanes
next_after lanes next _ = next + 1

abbrev pub AreFresh : ℕ → ℕ → List Action → Type 0
AreFresh lanes next [] = Unit {0}
AreFresh lanes next (f ∷ fs) = IsFresh lanes next f × AreFresh lanes (next_after lanes next f) fs

-- a multiplication has a factor for each lane
abbrev pub IsWide : ℕ → Action → Type 0
IsWide lanes (Mul r x factors) = lanes ≤ length factors
IsWide lanes _ = Unit {0}

abbrev pub AreWide : ℕ → List Action → Type 0
AreWide lanes [] = Unit {0}
AreWide lanes (f ∷ fs) = IsWide lanes f × AreWide lanes fs

-- actions that read no register that they have not put
abbrev pub IsRound : ℕ → List Action → Type 0
IsRound lanes fs = AreFresh lanes 0 fs × AreWide lanes fs

abbrev pub loaded_words : ℕ → Action → List ℕ
loaded_words lanes (Load r address) = range_with_len address lanes
loaded_words lanes _ = []

-- the words that the actions load from, and those that they store into
abbrev pub Loads : ℕ → List Action → ℕ → Type 0
Loads lanes fs k = Contains (flat_map (loaded_words lanes) fs) k

abbrev pub Stores : ℕ → List Action → ℕ → Type 0
Stores lanes fs k = Contains (flat_map (stored_words lanes) fs) k

-- neither stores where the other loads or stores
pub record AreApart (lanes : ℕ) (fs gs : List Action) : Type 0 where
  pub into : (k : ℕ) → Stores lanes fs k → Loads lanes gs k → ⊥
  pub from : (k : ℕ) → Loads lanes fs k → Stores lanes gs k → ⊥
  pub words : (k : ℕ) → Stores lanes fs k → Stores lanes gs k → ⊥

-- the memory and the registers that actions leave
abbrev pub memory_by : ℕ → ℕ → List Action → List ℕ → List ℕ → List ℕ
memory_by m lanes fs registers memory = (effects m lanes fs (record { memory = memory; registers = registers })).memory

abbrev pub registers_by : ℕ → ℕ → List Action → List ℕ → List ℕ → List ℕ
registers_by m lanes fs registers memory =
    (effects m lanes fs (record { memory = memory; registers = registers })).registers

-- two lists of actions leave the same memory, whatever stands in the registers
abbrev pub DoTheSame : ℕ → ℕ → List Action → List Action → Type 0
DoTheSame m lanes fs gs =
    (r s memory : List ℕ) → length r ≡ length s → memory_by m lanes fs r memory ≡ memory_by m lanes gs s memory
