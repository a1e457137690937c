use Rattle.std.proofs.Common.{◌≡◌, ◌*◌, ◌%◌, ◌<◌, slice_index}
use Rattle.matrix_meaning.specs.Dimensions.{entry_in}
use Rattle.operators.specs.Sum.{sum_below}
use Rattle.matrix_meaning.proofs.plain.row_times.Given as goal

abbrev pub invariant-loop-l : goal.invariant-loop-l
invariant-loop-l l =
    (l.sum
    ≡ sum_below l.l (λ j. entry_in l.fn.kind l.fn.m l.fn.sizes l.fn.roots l.fn.k j * slice_index l.fn.x j) % l.fn.m)
    × (l.sum < l.fn.m)
