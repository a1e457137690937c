-- What is right for `formula`.
use Rattle.std.specs.Prelude.{◌≡◌, [], ◌∷◌, ◌++◌, List, ℕ}
use Rattle.spl_text.specs.Spelling.{spelling}
use Rattle.breakdown.specs.Expansion.{formula_of}
use Rattle.commands.specs.Input.Outcomes.{Outcomes}
use Rattle.commands.specs.Equations.Front.{Answer, line, answered, by_front}
use Rattle.commands.specs.Equations.Works.{printed, writing}
use Rattle.commands.specs.Equations.Orders.{Planned, planned}

-- the formula of the tree, and a line end
abbrev pub formula_text : Planned → List ℕ
formula_text plan = spelling (formula_of plan.request plan.tree) ++ 10 ∷ []

abbrev pub IsFormulaText : Planned → List ℕ → Type 0
IsFormulaText plan text = text ≡ formula_text plan

abbrev pub formula_answer : Answer
formula_answer = answered (line 256) (planned []) (λ (plan : Planned). printed (IsFormulaText plan))

abbrev pub formula_outcomes : Outcomes
formula_outcomes = by_front (line 256) (planned []) (λ (plan : Planned). writing (IsFormulaText plan))
