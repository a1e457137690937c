pub mod PlanFaults
