use Rattle.std.specs.Prelude.{◌+◌, length}
use Rattle.loop_nests.proofs.beside.+sides_of.Given as goal

abbrev pub decreases-sides_of : goal.decreases-sides_of
decreases-sides_of l = length l.first.now.items + length l.second.now.items
