-- What is right for `plan`.
use Rattle.std.specs.Prelude.{◌≡◌, ℕ, List, []}
use Rattle.commands.specs.PlanText.{plan_text}
use Rattle.commands.specs.Input.Outcomes.{Outcomes}
use Rattle.commands.specs.Equations.Front.{Answer, line, answered, by_front}
use Rattle.commands.specs.Equations.Works.{printed, writing}
use Rattle.commands.specs.Equations.Orders.{Planned, planned}

-- the tree, its cost, the phases and each processor's operations
abbrev pub IsPlanText : Planned → List ℕ → Type 0
IsPlanText plan text = text ≡ plan_text plan.request plan.tree

abbrev pub plan_answer : Answer
plan_answer = answered (line 256) (planned []) (λ (plan : Planned). printed (IsPlanText plan))

abbrev pub plan_outcomes : Outcomes
plan_outcomes = by_front (line 256) (planned []) (λ (plan : Planned). writing (IsPlanText plan))
