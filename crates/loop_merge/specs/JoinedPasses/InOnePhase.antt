-- Passes, a diagonal of listed values after the last of them, and then other passes.
use Rattle.std.specs.Prelude.{ℕ, List, [], ◌∷◌, ◌++◌}
use Rattle.loop_merge.specs.MultipliedPasses.Multiplied.{multiplied_last}
use Rattle.sigma_spl.specs.Shared.Owners.{all_passes}
use Rattle.sigma_spl.specs.Merged.{PlainMerged}
use Rattle.sigma_spl.specs.Nest.{values}

-- all in one phase: each item is multiplied by the value of the place where it is stored
abbrev pub joined : PlainMerged → List ℕ → PlainMerged → PlainMerged
joined g ds k = record {
  size = g.size;
  procs = g.procs;
  lanes = g.lanes;
  phases = (multiplied_last (values ds) (all_passes g.phases) ++ all_passes k.phases) ∷ [];
}
