use Rattle.std.proofs.Common.{◌≡◌, ◌++◌, drop, flat_map}
use Rattle.fast_text.specs.WordText.{reduction_text}
use Rattle.fast_text.proofs.operations.put_reductions.Given as goal

abbrev pub invariant-loop-reduction : goal.invariant-loop-reduction
invariant-loop-reduction l = l.out.items ++ flat_map reduction_text (drop l.reduction-index l.before) ≡ l.fn.out.items ++ flat_map reduction_text l.before
