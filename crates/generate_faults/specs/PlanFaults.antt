-- The faults of the planner, as those of the generator.
use Rattle.plan_search.specs.declared.plan.PlanError.{PlanError}
use Rattle.plan_search.specs.declared.plan.PlanError.TheVariants as plan
use Rattle.generate_faults.specs.declared.generate_fault.GenerateFault.{GenerateFault}
use Rattle.generate_faults.specs.declared.generate_fault.GenerateFault.TheVariants.{NoDivide, OverBudget, NoMemory}

abbrev pub fault_of : PlanError → GenerateFault
fault_of plan.NoDivide = NoDivide
fault_of (plan.OverBudget cost budget) = OverBudget cost budget
fault_of plan.NoMemory = NoMemory
