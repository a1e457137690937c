-- Which requests for a convolution are refused, and the tree of the others.
use Rattle.std.specs.Prelude.{◌≡◌, ℕ, ◌+◌, ◌*◌, ◌<◌, ◌≤◌, Result, Ok, Err, Some}
use Rattle.matrix_meaning.specs.Convolution.{IsPrincipal, IsFirstBadPower}
use Rattle.generate.specs.Planned.{IsRooted}
use Rattle.matrix_meaning.specs.declared.Request.{Request}
use Rattle.matrix_meaning.specs.Parts.{bad_power}
use Rattle.tree_model.specs.Breakdown.{Breakdown}
use Rattle.tree_model.specs.Chosen.{IsWholeChosen, IsWholeLeast, whole_cost}
use Rattle.tree_model.specs.Cost.{mul_cost_of}
use Rattle.generate_faults.specs.declared.conv_fault.ConvFault.{ConvFault}
use Rattle.generate_faults.specs.declared.conv_fault.ConvFault.TheVariants.{Root, NotPrincipal, OverBudget, NoMemory}

-- each power sum of the root but that for 0 is 0
abbrev pub HasPrincipalRoot : Request → Type 0
HasPrincipalRoot r = IsPrincipal r.modulus r.size r.root

-- two transforms of this cost, and a multiplication for each item between them
abbrev pub both_halves : Request → ℕ → ℕ
both_halves r cost = 2 * cost + mul_cost_of r * r.size

-- what a convolution costs whose transforms go by the tree
abbrev pub conv_cost : Request → Breakdown → ℕ
conv_cost r t = both_halves r (whole_cost r t)

-- The tree of both transforms, which is the first of the cheapest and within the budget; or the first cause to refuse
-- the request: the root is none of the size, a power sum is not 0, or the least cost is over the budget
abbrev pub IsConvPlanned : Request → Result Breakdown ConvFault → Type 0
IsConvPlanned r (Ok t) = IsRooted r × HasPrincipalRoot r × IsWholeChosen r t × (conv_cost r t ≤ r.budget)
IsConvPlanned r (Err (Root power)) = bad_power r ≡ Some power
IsConvPlanned r (Err (NotPrincipal k)) = IsRooted r × IsFirstBadPower r.modulus r.size r.root k
IsConvPlanned r (Err (OverBudget cost budget)) =
    IsRooted r × HasPrincipalRoot r × ((least : ℕ) × IsWholeLeast r least × (cost ≡ both_halves r least))
    × (budget ≡ r.budget) × (budget < cost)
IsConvPlanned r (Err NoMemory) = ⊥
