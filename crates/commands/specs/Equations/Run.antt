-- What is right for `run`.
use Rattle.std.specs.Prelude.{◌≡◌, ◌≤◌, ℕ, List, Ok, Err}
use Rattle.generate.specs.Planned.{HasNoPlan, IsRooted}
use Rattle.matrix_meaning.specs.Asked.{asked_of}
use Rattle.matrix_meaning.specs.declared.Request.{Request}
use Rattle.generate_faults.specs.declared.generate_fault.GenerateFault.{GenerateFault}
use Rattle.spiral_words.specs.Statuses.Fault.{status_of_generate}
use Rattle.spiral_words.specs.declared.Order.{Order}
use Rattle.runs.specs.Stream.{lines}
use Rattle.commands.specs.Input.Orders.{procs_in}
use Rattle.commands.specs.Input.Outcomes.{Outcomes}
use Rattle.commands.specs.Input.Stage.{Stage, ◌>>=◌}
use Rattle.commands.specs.Equations.Front.{Answer, Work, line, answered, by_front}
use Rattle.commands.specs.Equations.Works.{all, mapped, mapping}
use Rattle.commands.specs.Equations.Orders.{Planned, planned, spelt_for}
use Rattle.tree_model.specs.Chosen.{IsWholeLeast}

-- the request, if its roots are right and the least cost of its trees is within the budget, or the first cause to
-- refuse it
abbrev pub affordable : Request → Stage Request
affordable request (Ok same) =
    (same ≡ request) × IsRooted request × ((cost : ℕ) × IsWholeLeast request cost × (cost ≤ request.budget))
affordable request (Err status) =
    (fault : GenerateFault) × HasNoPlan request fault × (status ≡ status_of_generate fault)

-- a line for each vector, of the request's matrix times it
abbrev pub IsRunText : Request → List (List ℕ) → List ℕ → Type 0
IsRunText request vectors text = text ≡ lines (asked_of request) vectors

-- no tree bears on it but by its cost
abbrev pub run_answer : Order → Answer
run_answer order = answered (line 256) (λ text. spelt_for (procs_in order) text >>= affordable)
    (λ (request : Request). mapped request.size request.modulus (IsRunText request))

abbrev pub run_work : Planned → Work
run_work plan = mapping all plan.request.size plan.request.modulus (IsRunText plan.request)

abbrev pub run_outcomes : Order → Outcomes
run_outcomes order = by_front (line 256) (planned (procs_in order)) run_work
