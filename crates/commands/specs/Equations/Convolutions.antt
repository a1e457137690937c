-- What the line of a request for convolutions orders: the request, and the tree of its transforms.
use Rattle.std.specs.Prelude.{◌≡◌, ℕ, List, Ok, Err}
use Rattle.generate.specs.ConvPlanned.{IsConvPlanned}
use Rattle.matrix_meaning.specs.declared.Request.{Request}
use Rattle.generate_faults.specs.declared.conv_fault.ConvFault.{ConvFault}
use Rattle.request_text.specs.Answer.{ConvAnswers}
use Rattle.request_text.specs.declared.RequestFault.{RequestFault}
use Rattle.spiral_words.specs.Statuses.Fault.{status_of_conv, status_of_request}
use Rattle.commands.specs.Input.Stage.{Stage, ◌>>=◌}
use Rattle.commands.specs.Equations.Orders.{Planned, turned}

-- the request that the line spells, if it is in range and its size has an inverse
abbrev pub conv_spelt : List ℕ → Stage Request
conv_spelt line (Ok request) = ConvAnswers line (Ok request)
conv_spelt line (Err status) = (fault : RequestFault) × ConvAnswers line (Err fault)
    × (status ≡ status_of_request fault)

-- the same for a command whose words name these processors
abbrev pub conv_spelt_for : List ℕ → List ℕ → Stage Request
conv_spelt_for names text = conv_spelt text >>= turned names

-- the request with the tree chosen for it, or the first cause to refuse it
abbrev pub conv_chosen : Request → Stage Planned
conv_chosen request (Ok plan) = (plan.request ≡ request) × IsConvPlanned request (Ok plan.tree)
conv_chosen request (Err status) =
    (fault : ConvFault) × IsConvPlanned request (Err fault) × (status ≡ status_of_conv fault)

abbrev pub conv_planned : List ℕ → List ℕ → Stage Planned
conv_planned names text = conv_spelt_for names text >>= conv_chosen
