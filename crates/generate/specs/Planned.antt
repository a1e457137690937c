-- Which requests are refused, and the tree of the others.
use Rattle.std.specs.Prelude.{◌≡◌, ◌<◌, ◌≤◌, Result, Ok, Err, None, Some}
use Rattle.matrix_meaning.specs.declared.Request.{Request}
use Rattle.matrix_meaning.specs.Parts.{bad_power}
use Rattle.generate_faults.specs.declared.generate_fault.GenerateFault.{GenerateFault}
use Rattle.generate_faults.specs.declared.generate_fault.GenerateFault.TheVariants.{Root, NoDivide, OverBudget, NoMemory}
use Rattle.tree_model.specs.Breakdown.{Breakdown}
use Rattle.tree_model.specs.Chosen.{CanDivideWhole, IsWholeChosen, IsWholeLeast, whole_cost}

-- each root to the power of its size is 1
abbrev pub IsRooted : Request → Type 0
IsRooted r = bad_power r ≡ None

-- the first cause to refuse the request: a wrong root, no tree, or a least cost over the budget
abbrev pub HasNoPlan : Request → GenerateFault → Type 0
HasNoPlan r (Root power) = bad_power r ≡ Some power
HasNoPlan r NoDivide = IsRooted r × (CanDivideWhole r → ⊥)
HasNoPlan r (OverBudget cost budget) = IsRooted r × IsWholeLeast r cost × (budget ≡ r.budget) × (budget < cost)
HasNoPlan r NoMemory = ⊥

-- The tree of the request, which is the first of the cheapest, and by which the request is within the budget; or the
-- first cause to refuse the request
abbrev pub IsPlanned : Request → Result Breakdown GenerateFault → Type 0
IsPlanned r (Ok t) = IsRooted r × IsWholeChosen r t × (whole_cost r t ≤ r.budget)
IsPlanned r (Err fault) = HasNoPlan r fault

-- the roots are right, and some tree fits
abbrev pub IsAdmitted : Request → Type 0
IsAdmitted r = IsRooted r × CanDivideWhole r

-- the first cause to refuse the request whatever its budget
abbrev pub IsBarred : Request → GenerateFault → Type 0
IsBarred r (Root power) = bad_power r ≡ Some power
IsBarred r NoDivide = IsRooted r × (CanDivideWhole r → ⊥)
IsBarred r _ = ⊥
