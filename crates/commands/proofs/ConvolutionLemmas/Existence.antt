-- Each line of a convolution has an answer, and each of its requests too.
use Rattle.std.proofs.Common.{ℕ, List, Result, Ok, Err, refl, subst}
use Rattle.generate.proofs.ConvExistence.{conv_plan_exists}
use Rattle.generate.specs.ConvPlanned.{IsConvPlanned}
use Rattle.matrix_meaning.specs.Convolving.{IsConvRequest}
use Rattle.matrix_meaning.specs.declared.Request.{Request}
use Rattle.generate_faults.specs.declared.conv_fault.ConvFault.{ConvFault}
use Rattle.request_text.specs.Answer.{ConvAnswers}
use Rattle.request_text.specs.declared.RequestFault.{RequestFault}
use Rattle.request_text.proofs.Judged.{conv_in_range}
use Rattle.request_text.proofs.OneAnswer.{conv_line_answered}
use Rattle.spiral_words.specs.Statuses.Fault.{status_of_conv, status_of_request}
use Rattle.tree_model.specs.Breakdown.{Breakdown}
use Rattle.commands.specs.Equations.Convolutions.{conv_spelt, conv_chosen, conv_planned}
use Rattle.commands.specs.Equations.Orders.{turned}
use Rattle.commands.specs.Input.Commands.{admitted, first_stranger}
use Rattle.commands.specs.Input.Stage.{◌>>=◌}
use Rattle.commands.proofs.Inputs.Stages.{HasAnswer, admitted_same, both_have, given_has}

by_answer : (line : List ℕ) (answer : Result Request RequestFault) → ConvAnswers line answer →
    HasAnswer (conv_spelt line)
by_answer line (Ok request) h = (Ok request, h)
by_answer line (Err fault) h = (Err (status_of_request fault), (fault, h, refl))

conv_spelt_has : (line : List ℕ) → HasAnswer (conv_spelt line)
conv_spelt_has line = let a = conv_line_answered line in by_answer line a.0 a.1

by_plan : (r : Request) (answer : Result Breakdown ConvFault) → IsConvPlanned r answer → HasAnswer (conv_chosen r)
by_plan r (Ok t) planned = (Ok (record { request = r; tree = t }), (refl, planned))
by_plan r (Err fault) planned = (Err (status_of_conv fault), (fault, planned, refl))

-- the request that goes on is the one of the line
conv_request : (line : List ℕ) (names : List ℕ) (own : Request) → (conv_spelt line >>= turned names) (Ok own) →
    IsConvRequest own
conv_request line names own p =
    subst IsConvRequest (admitted_same (first_stranger names p.value.procs) p.value.procs p.value own p.behind).0
    (conv_in_range line p.value p.before.0 p.before.1)

pub conv_planned_has : (names text : List ℕ) → HasAnswer (conv_planned names text)
conv_planned_has names text =
    both_have (conv_spelt text >>= turned names) conv_chosen
    (both_have (conv_spelt text) (turned names) (conv_spelt_has text)
    (λ r h. given_has (admitted (first_stranger names r.procs) r.procs r)))
    (λ r h. let plan = conv_plan_exists r (conv_request text names r h) in by_plan r plan.0 plan.1)
