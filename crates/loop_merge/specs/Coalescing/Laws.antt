-- Passes whose copies are coalesced do the same, at the same counts, and a program can be made of them.
use Rattle.std.specs.Prelude.{◌≡◌, ℕ, List, map}
use Rattle.loop_merge.specs.Coalescing.Copies.{all_coalesced}
use Rattle.sigma_spl.specs.Shared.Costs.{pass_loads}
use Rattle.sigma_spl.specs.Counts.{passes_cost, CopiesAreFree}
use Rattle.sigma_spl.specs.Nest.{PlainNest, passes_on}
use Rattle.sigma_spl.specs.Work.{PlainWork}
use Rattle.sigma_spl.specs.PlainPasses.{ArePlainPasses}

-- modulo any number, on lists of any length
abbrev pub CoalescedMean : Type 0
CoalescedMean = (m n : ℕ) (ps : List (List PlainNest)) (x : List ℕ) → passes_on m n (all_coalesced ps) x ≡ passes_on m n ps x

-- whatever a product counts
abbrev pub CoalescedCost : Type 0
CoalescedCost =
    (weight : ℕ) (cost : PlainWork → ℕ) (ps : List (List PlainNest)) → CopiesAreFree cost →
    passes_cost weight cost (all_coalesced ps) ≡ passes_cost weight cost ps

abbrev pub CoalescedArePlain : Type 0
CoalescedArePlain = (n m : ℕ) (ps : List (List PlainNest)) → ArePlainPasses n m ps → ArePlainPasses n m (all_coalesced ps)
