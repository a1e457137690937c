-- Numbers below a modulus.
use Rattle.std.proofs.Common.{ℕ, zero, suc, ◌<◌, List, [], ◌∷◌, replicate}
use Rattle.std.specs.Prelude.{slice_index, slice_set}

-- each word is, and so is what is read past the end
abbrev pub AreBelow : ℕ → List ℕ → Type 0
AreBelow m xs = (k : ℕ) → slice_index xs k < m

pub below-zeros : (m n : ℕ) → 0 < m → AreBelow m (replicate n 0)
below-zeros m zero pos k = pos
below-zeros m (suc n) pos zero = pos
below-zeros m (suc n) pos (suc k) = below-zeros m n pos k

pub below-tail : (m x : ℕ) (xs : List ℕ) → AreBelow m (x ∷ xs) → AreBelow m xs
below-tail m x xs h k = h (suc k)

pub below-set : (m : ℕ) (xs : List ℕ) (i v : ℕ) → AreBelow m xs → v < m → AreBelow m (slice_set xs i v)
below-set m [] i v h lt k = h k
below-set m (x ∷ xs) zero v h lt zero = lt
below-set m (x ∷ xs) zero v h lt (suc k) = h (suc k)
below-set m (x ∷ xs) (suc i) v h lt zero = h 0
below-set m (x ∷ xs) (suc i) v h lt (suc k) = below-set m xs i v (below-tail m x xs h) lt k
