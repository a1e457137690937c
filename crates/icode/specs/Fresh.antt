-- Codes that read nothing that is left over: what each action reads, the program has put there.
use Rattle.std.specs.Prelude.{◌≡◌, ℕ, ◌+◌, ◌<◌, ◌≤◌, ◌⊎◌, List, [], ◌∷◌, Contains, Some, flat_map, length, slice_get, take}
use Rattle.std.specs.List.{range_with_len}
use Rattle.icode.specs.declared.action.Action.{Action}
use Rattle.icode.specs.declared.action.Action.TheVariants.{Load, Store, Zero, Add, Sub, Neg, Mul, Tile}
use Rattle.icode.specs.Actions.{plain_code}
use Rattle.icode.specs.Leftovers.{AreLeftovers, Leftovers, results_among}
use Rattle.icode.specs.Machine.{Code, IsCode, acts, padded, results, stored_words}
use Rattle.icode.specs.Plain.{PlainProgram}

-- the words that the action loads
abbrev pub loaded_words : ℕ → Action → List ℕ
loaded_words lanes (Load r address) = range_with_len address lanes
loaded_words lanes (Store address r) = []
loaded_words lanes (Zero r) = []
loaded_words lanes (Add r x y) = []
loaded_words lanes (Sub r x y) = []
loaded_words lanes (Neg r x) = []
loaded_words lanes (Mul r x factors) = []
loaded_words lanes (Tile r x) = []

-- the registers that it reads, and those that it puts
abbrev pub read_registers : ℕ → Action → List ℕ
read_registers lanes (Load r address) = []
read_registers lanes (Store address r) = r ∷ []
read_registers lanes (Zero r) = []
read_registers lanes (Add r x y) = x ∷ y ∷ []
read_registers lanes (Sub r x y) = x ∷ y ∷ []
read_registers lanes (Neg r x) = x ∷ []
read_registers lanes (Mul r x factors) = x ∷ []
read_registers lanes (Tile r x) = range_with_len x lanes

abbrev pub put_registers : ℕ → Action → List ℕ
put_registers lanes (Load r address) = r ∷ []
put_registers lanes (Store address r) = []
put_registers lanes (Zero r) = r ∷ []
put_registers lanes (Add r x y) = r ∷ []
put_registers lanes (Sub r x y) = r ∷ []
put_registers lanes (Neg r x) = r ∷ []
put_registers lanes (Mul r x factors) = r ∷ []
put_registers lanes (Tile r x) = range_with_len r lanes

-- one of the actions stores into the word; one of them puts the register
abbrev pub HaveStored : ℕ → List Action → ℕ → Type 0
HaveStored lanes actions k = Contains (flat_map (stored_words lanes) actions) k

abbrev pub HavePut : ℕ → List Action → ℕ → Type 0
HavePut lanes actions r = Contains (flat_map (put_registers lanes) actions) r

-- some processor stores into the word in an earlier phase
abbrev pub IsStoredBefore : Code → ℕ → ℕ → Type 0
IsStoredBefore code phase k = (earlier : ℕ) × (q : ℕ) × (earlier < phase) × HaveStored code.lanes (acts code earlier q) k

-- The word is of the input, or the program has stored it: in an earlier phase, or processor q by the n actions that it
-- has done in this one
abbrev pub IsKnown : Code → ℕ → ℕ → ℕ → ℕ → Type 0
IsKnown code phase q n k =
    (k < code.size) ⊎ (IsStoredBefore code phase k ⊎ HaveStored code.lanes (take n (acts code phase q)) k)

-- Each action loads known words, and reads registers that its processor has put in this phase; and each word of the
-- result is stored
pub record IsFresh (code : Code) : Type 0 where
  pub loads : (phase q n : ℕ) (a : Action) → slice_get (acts code phase q) n ≡ Some a →
      (k : ℕ) → Contains (loaded_words code.lanes a) k → IsKnown code phase q n k
  pub reads : (phase q n : ℕ) (a : Action) → slice_get (acts code phase q) n ≡ Some a →
      (r : ℕ) → Contains (read_registers code.lanes a) r → HavePut code.lanes (take n (acts code phase q)) r
  pub result : (k : ℕ) → k < code.size →
      (phase : ℕ) × (q : ℕ) × HaveStored code.lanes (acts code phase q) (padded code + k)

-- a product has a factor for each lane
abbrev pub HasFactors : ℕ → Action → Type 0
HasFactors lanes (Load r address) = Unit {0}
HasFactors lanes (Store address r) = Unit {0}
HasFactors lanes (Zero r) = Unit {0}
HasFactors lanes (Add r x y) = Unit {0}
HasFactors lanes (Sub r x y) = Unit {0}
HasFactors lanes (Neg r x) = Unit {0}
HasFactors lanes (Mul r x factors) = lanes ≤ length factors
HasFactors lanes (Tile r x) = Unit {0}

-- each product of the code has
abbrev pub HaveFactors : Code → Type 0
HaveFactors code =
    (phase q n : ℕ) (a : Action) → slice_get (acts code phase q) n ≡ Some a → HasFactors code.lanes a

-- The laws

-- Where a code is fresh, a run among any leftovers leaves what a run from the start leaves
abbrev pub FreshIgnoresLeftovers : Type 0
FreshIgnoresLeftovers =
    (code : Code) (left : Leftovers) → IsCode code → HaveFactors code → IsFresh code → AreLeftovers code left →
    (x turns : List ℕ) → length x ≡ code.size → results_among code left x turns ≡ results code x turns

-- the codes of programs have factors
abbrev pub ProgramsHaveFactors : Type 0
ProgramsHaveFactors = (p : PlainProgram) → HaveFactors (plain_code p)
