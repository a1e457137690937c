-- What a processor does in a pass: its operations, loads and stores, counted from its own loops.
use Rattle.std.specs.Prelude.{◌≡◌, ℕ, ◌+◌, ◌*◌, List, [], ◌∷◌}
use Rattle.operators.specs.declared.target.Target.{Target}
use Rattle.sigma_spl.specs.Counts.{copies_in, multiplier_cost}
use Rattle.sigma_spl.specs.Nest.{PlainNest}
use Rattle.sigma_spl.specs.Shared.Costs.{pass_cost, pass_loads, work_cost, work_loads}
use Rattle.sigma_spl.specs.Shared.Machine.{loop_counts}
use Rattle.sigma_spl.specs.Work.{PlainWork, tile, work_size}

pub record Share : Type 0 where
  pub operations : ℕ
  pub loads : ℕ
  pub stores : ℕ

-- how many lanes have a copy of their own
abbrev pub lanes_round : Target → PlainWork → ℕ
lanes_round h (tile v) = 1
lanes_round h w = h.lanes

-- a processor's copies of a nest: those of its loops, on each lane
abbrev pub own_copies : Target → PlainNest → ℕ
own_copies h z = copies_in (loop_counts h z) * lanes_round h z.work

-- what a processor does in a pass, where a product counts as several
abbrev pub share_of : Target → ℕ → List PlainNest → Share
share_of h weight [] = record { operations = 0; loads = 0; stores = 0 }
share_of h weight (z ∷ zs) = let own = own_copies h z in let rest = share_of h weight zs in record {
  operations = own * (work_cost weight h.modulus z.work + multiplier_cost weight z.multiplier z.work) + rest.operations;
  loads = own * work_loads z.work + rest.loads;
  stores = own * work_size z.work + rest.stores;
}

-- all processors do the same: together they do what the pass counts
pub record HasShares (h : Target) (weight : ℕ) (zs : List PlainNest) : Type 0 where
  pub operations : h.procs * (share_of h weight zs).operations ≡ pass_cost weight h.modulus zs
  pub loads : h.procs * (share_of h weight zs).loads ≡ pass_loads zs
  pub stores : h.procs * (share_of h weight zs).stores ≡ h.size
