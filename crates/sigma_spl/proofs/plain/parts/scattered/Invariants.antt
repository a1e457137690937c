use Rattle.std.proofs.Common.{◌≡◌}
use Rattle.index_fn.specs.Index.{mapping_of}
use Rattle.index_fn.specs.Mapping.{at}
use Rattle.sigma_spl.specs.Plain.Copies.{scatter_mod}
use Rattle.sigma_spl.proofs.plain.parts.scattered.Given as goal

-- the items so far are stored
abbrev pub invariant-loop-i : goal.invariant-loop-i
invariant-loop-i l = l.stored.items ≡ scatter_mod l.m l.n l.i (at (mapping_of l.f)) l.x
