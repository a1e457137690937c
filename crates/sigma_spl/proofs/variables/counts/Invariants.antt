use Rattle.std.specs.Prelude.{◌≡◌, map, take}
use Rattle.operators.specs.Paths.Tensors.{count_of}
use Rattle.sigma_spl.proofs.variables.counts.Given as goal

abbrev pub invariant-loop-tensor : goal.invariant-loop-tensor
invariant-loop-tensor l = l.counts.items ≡ map count_of (take l.tensor-index l.path)
