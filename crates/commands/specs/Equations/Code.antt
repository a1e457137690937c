-- What is right for `code`.
use Rattle.std.specs.Prelude.{◌≡◌, ℕ, List, []}
use Rattle.listing_text.specs.Listing.{listing_of}
use Rattle.generate.specs.Emission.Whole.{emission}
use Rattle.commands.specs.Input.Outcomes.{Outcomes}
use Rattle.commands.specs.Equations.Front.{Answer, line, answered, by_front}
use Rattle.commands.specs.Equations.Works.{printed, writing}
use Rattle.commands.specs.Equations.Orders.{Planned, planned}

-- the listing of the tree's program
abbrev pub IsCodeText : Planned → List ℕ → Type 0
IsCodeText plan text = text ≡ listing_of (emission plan.request plan.tree)

abbrev pub code_answer : Answer
code_answer = answered (line 256) (planned []) (λ (plan : Planned). printed (IsCodeText plan))

abbrev pub code_outcomes : Outcomes
code_outcomes = by_front (line 256) (planned []) (λ (plan : Planned). writing (IsCodeText plan))
