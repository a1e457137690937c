-- The entries of transforms are residues.
use Rattle.std.proofs.Common.{ℕ, ◌-◌, ◌%◌, ◌<◌, ◌≤◌, Bool, true, false, arith, mod-lt, if◌then◌else◌}
use Rattle.std.specs.Prelude.{◌==◌, bit_and, count_ones}
use Rattle.matrix_meaning.specs.declared.Kind.{Kind}
use Rattle.matrix_meaning.specs.declared.Kind.TheVariants.{Dft, Wht, Idft}
use Rattle.matrix_meaning.specs.Kind.{entry_of}
use Rattle.matrix_meaning.proofs.Requests.{power_below}

sign_pick : (b : Bool) (m : ℕ) → 2 ≤ m → (if b then 1 else m - 1) < m
sign_pick true m large = omega arith
sign_pick false m large = omega arith

pub entry_below : (kind : Kind) (m n w k l : ℕ) → 2 ≤ m → entry_of kind m n w k l < m
entry_below Dft m n w k l large = power_below m w _ (omega arith)
entry_below Wht m n w k l large = sign_pick (count_ones (bit_and k l) % 2 == 0) m large
entry_below Idft m n w k l large = mod-lt _ (omega arith)
