-- What is right for `trace`.
use Rattle.std.specs.Prelude.{◌≡◌, ◌++◌, true, List, ℕ}
use Rattle.icode.specs.Actions.{plain_code}
use Rattle.listing_text.specs.Listing.{listing_of}
use Rattle.generate.specs.Emission.Whole.{emission}
use Rattle.spiral_words.specs.declared.Order.{Order}
use Rattle.runs.specs.Stream.{texts}
use Rattle.commands.specs.OrderText.{order_text}
use Rattle.commands.specs.Input.Orders.{procs_in}
use Rattle.commands.specs.Input.Outcomes.{Outcomes}
use Rattle.commands.specs.Equations.Front.{Answer, Work, line, answered, by_front}
use Rattle.commands.specs.Equations.Works.{all, mapped, mapping}
use Rattle.commands.specs.Equations.Orders.{Planned, planned}

-- the lines of each vector's run in the order, and of its results
abbrev pub run_lines : Order → Planned → List (List ℕ) → List ℕ
run_lines order plan vectors =
    texts (order_text true order plan.request.procs (plain_code (emission plan.request plan.tree))) vectors

-- the listing of the tree's program, and the lines of its runs
abbrev pub IsTraceText : Order → Planned → List (List ℕ) → List ℕ → Type 0
IsTraceText order plan vectors text =
    text ≡ listing_of (emission plan.request plan.tree) ++ run_lines order plan vectors

abbrev pub trace_answer : Order → Answer
trace_answer order = answered (line 256) (planned (procs_in order))
    (λ (plan : Planned). mapped plan.request.size plan.request.modulus (IsTraceText order plan))

abbrev pub trace_work : Order → Planned → Work
trace_work order plan = mapping all plan.request.size plan.request.modulus (IsTraceText order plan)

abbrev pub trace_outcomes : Order → Outcomes
trace_outcomes order = by_front (line 256) (planned (procs_in order)) (trace_work order)
