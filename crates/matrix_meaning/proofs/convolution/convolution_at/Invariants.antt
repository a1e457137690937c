use Rattle.std.proofs.Common.{◌≡◌, ◌*◌, ◌%◌, ◌<◌, slice_index, length}
use Rattle.ring_mod.specs.Residue.{difference_mod}
use Rattle.operators.specs.Sum.{sum_below}
use Rattle.matrix_meaning.proofs.convolution.convolution_at.Given as goal

abbrev pub invariant-loop-l : goal.invariant-loop-l
invariant-loop-l l =
    (l.sum ≡ sum_below l.l (λ j. slice_index l.h j * slice_index l.x (difference_mod (length l.x) l.k j)) % l.modulus) × (l.sum < l.modulus)
