-- What stands at a place that a pass stores to.
use Rattle.std.specs.Prelude.{◌≡◌, ℕ, ◌%◌, ◌<◌, List, [], ◌∷◌, slice_index, ◌⊎◌}
use Rattle.sigma_spl.specs.Copies.{loops_of, Copies, taken, pass_on, AreInside, StoreOnce}
use Rattle.operators.specs.Paths.Tensors.{AreInRange}

-- one of the loops
abbrev pub IsAmong : List Copies → Copies → Type 0
IsAmong [] c = ⊥
IsAmong (d ∷ ds) c = (c ≡ d) ⊎ IsAmong ds c

-- Where each word is stored once, the item that a copy stores stands at its place
abbrev pub PassStores : Type 0
PassStores =
    (m n : ℕ) (cs : List Copies) (c : Copies) (vs : List ℕ) (k : ℕ) (x : List ℕ) → IsAmong cs c → AreInside n cs →
    StoreOnce n cs → AreInRange (loops_of c.counts) vs → k < c.size →
    slice_index (pass_on m n cs x) (c.to vs k) ≡ slice_index (c.does vs (taken c vs x)) k % m
