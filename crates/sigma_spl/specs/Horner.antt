-- Horner's rule for a row of a transform.
use Rattle.std.specs.Prelude.{◌≡◌, ℕ, zero, suc, ◌+◌, ◌-◌, ◌*◌, ◌%◌, ◌<◌, List, slice_index}
use Rattle.matrix_meaning.specs.declared.Kind.TheVariants.{Dft}
use Rattle.matrix_meaning.specs.Kind.{transform}
use Rattle.ring_mod.specs.Residue.{power_mod}

-- what stands after a number of turns: each takes the item before
-- the one that the turn before took, the first takes the last
abbrev pub horner_sum : ℕ → ℕ → ℕ → (ℕ → ℕ) → ℕ → ℕ
horner_sum m power d x zero = 0
horner_sum m power d x (suc t) = ((horner_sum m power d x t * power) % m + x (d - 1 - t)) % m

-- after all turns by the power w ^ k it is the row k of the transform, for any root
abbrev pub HornerRow : Type 0
HornerRow =
    (m d w k : ℕ) (x : List ℕ) → 0 < m → k < d →
    horner_sum m (power_mod m w k) d (slice_index x) d ≡ slice_index (transform Dft m d w x) k
