-- What is right for `c`.
use Rattle.std.specs.Prelude.{◌≡◌, ℕ, List, []}
use Rattle.c_print.specs.CText.{c_text_of}
use Rattle.generate.specs.Emission.Whole.{emission}
use Rattle.commands.specs.Input.Outcomes.{Outcomes}
use Rattle.commands.specs.Equations.Front.{Answer, line, answered, by_front}
use Rattle.commands.specs.Equations.Works.{printed, writing}
use Rattle.commands.specs.Equations.Orders.{Planned, planned}

-- the C text of the tree's program
abbrev pub IsCText : Planned → List ℕ → Type 0
IsCText plan text = text ≡ c_text_of (emission plan.request plan.tree)

abbrev pub c_answer : Answer
c_answer = answered (line 256) (planned []) (λ (plan : Planned). printed (IsCText plan))

abbrev pub c_outcomes : Outcomes
c_outcomes = by_front (line 256) (planned []) (λ (plan : Planned). writing (IsCText plan))
