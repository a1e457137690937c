-- What is right for `sample`.
use Rattle.std.specs.Prelude.{◌≡◌, ℕ, List}
use Rattle.schedules.specs.Schedule.{Plan as Turns}
use Rattle.schedules.specs.Turns.{named}
use Rattle.tree_model.specs.WholePasses.{whole_loads, whole_stores}
use Rattle.matrix_meaning.specs.Asked.{asked_of}
use Rattle.tree_model.specs.Chosen.{whole_cost}
use Rattle.commands.specs.Sample.{sample_vector, weighted_sum, sample_text}
use Rattle.commands.specs.Input.Outcomes.{Outcomes}
use Rattle.commands.specs.Equations.Front.{Answer, line, answered, by_front}
use Rattle.commands.specs.Equations.Works.{printed, writing}
use Rattle.commands.specs.Equations.Orders.{Planned, planned}

-- the weighted sum of the matrix times the seed's vector
abbrev pub sum_for : Planned → ℕ → ℕ
sum_for plan seed = let m = plan.request.modulus in
    weighted_sum m (asked_of plan.request (sample_vector m plan.request.size seed))

-- that sum, and what the tree costs, loads and stores
abbrev pub sample_lines : Planned → ℕ → List ℕ
sample_lines plan seed = sample_text (sum_for plan seed)
    (whole_cost plan.request plan.tree) (whole_loads plan.request plan.tree) (whole_stores plan.request plan.tree)

abbrev pub IsSampleText : ℕ → Planned → List ℕ → Type 0
IsSampleText seed plan text = text ≡ sample_lines plan seed

abbrev pub sample_answer : ℕ → Turns → Answer
sample_answer seed schedule = answered (line 256) (planned (named schedule))
    (λ (plan : Planned). printed (IsSampleText seed plan))

abbrev pub sample_outcomes : ℕ → Turns → Outcomes
sample_outcomes seed schedule = by_front (line 256) (planned (named schedule))
    (λ (plan : Planned). writing (IsSampleText seed plan))
