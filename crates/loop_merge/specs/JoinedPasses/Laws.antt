-- What joined passes do and count, and that a program can be made of them.
use Rattle.std.specs.Prelude.{◌≡◌, ℕ, ◌+◌, ◌*◌, ◌^◌, ◌<◌, List, ◌++◌, length, map, slice_index, All}
use Rattle.operators.specs.Operator.{scale}
use Rattle.operators.specs.declared.target.Target.{Target}
use Rattle.sigma_spl.specs.Lists.{LastIs, on_last}
use Rattle.sigma_spl.specs.Merged.{PlainMerged, merged_on}
use Rattle.sigma_spl.specs.Nest.{values}
use Rattle.sigma_spl.specs.Shared.Costs.{pass_cost, pass_loads, stored_in_pass}
use Rattle.sigma_spl.specs.Shared.Owners.{all_passes, most_actions}
use Rattle.sigma_spl.specs.Shared.Ready.{IsReady, passes_tables}
use Rattle.sigma_spl.specs.Trees.{IsFree}
use Rattle.loop_merge.specs.MultipliedPasses.Multiplied.{multiplied_last}

-- ---- what they do

-- all is g, then a product with the value of each place, and then k, modulo any number
abbrev pub AreInTurn : PlainMerged → List ℕ → PlainMerged → PlainMerged → Type 0
AreInTurn g ds k all =
    LastIs IsFree (all_passes g.phases) → k.size ≡ g.size →
    (m : ℕ) (x : List ℕ) → 0 < m →
    merged_on m all x ≡ merged_on m k (scale m g.size (slice_index ds) (merged_on m g x))

-- ---- programs of them

-- passes for one processor and one lane, between which this diagonal can stand
pub record CanJoin (h : Target) (g : PlainMerged) (ds : List ℕ) (k : PlainMerged) : Type 0 where
  pub procs : h.procs ≡ 1
  pub lanes : h.lanes ≡ 1
  pub first : IsReady h g
  pub second : IsReady h k
  pub free : LastIs IsFree (all_passes g.phases)
  pub size : length ds ≡ h.size
  pub residues : All (λ d. d < h.modulus) ds
  pub actions : most_actions h (all_passes g.phases) + h.size + most_actions h (all_passes k.phases) < 2 ^ 59
  pub tables :
      passes_tables (multiplied_last (values ds) (all_passes g.phases)) + passes_tables (all_passes k.phases) < 2 ^ 32

-- a program can be made of all where they can be joined
abbrev pub IsReadyJoined : PlainMerged → List ℕ → PlainMerged → PlainMerged → Type 0
IsReadyJoined g ds k all = (h : Target) → CanJoin h g ds k → IsReady h all

-- ---- what they count

-- the last number grown by a number
abbrev pub more_last : ℕ → List ℕ → List ℕ
more_last more cs = on_last (λ c. c + more) cs

-- pass by pass all counts what g and k count, and a product for each word between them
pub record CountsJoined (h : Target) (g k all : PlainMerged) : Type 0 where
  pub costs : (weight : ℕ) →
      map (pass_cost weight h.modulus) (all_passes all.phases)
      ≡ more_last (weight * h.size) (map (pass_cost weight h.modulus) (all_passes g.phases))
      ++ map (pass_cost weight h.modulus) (all_passes k.phases)
  pub loads :
      map pass_loads (all_passes all.phases)
      ≡ map pass_loads (all_passes g.phases) ++ map pass_loads (all_passes k.phases)
  pub stores :
      map stored_in_pass (all_passes all.phases)
      ≡ map stored_in_pass (all_passes g.phases) ++ map stored_in_pass (all_passes k.phases)

-- so on each machine for which a program can be made of g
abbrev pub CountBoth : PlainMerged → PlainMerged → PlainMerged → Type 0
CountBoth g k all = (h : Target) → IsReady h g → LastIs IsFree (all_passes g.phases) → CountsJoined h g k all
