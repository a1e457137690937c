-- What is right for `cert`.
use Rattle.std.specs.Prelude.{[]}
use Rattle.plan_cert.specs.Table.{IsTableText}
use Rattle.commands.specs.Input.Outcomes.{Outcomes}
use Rattle.commands.specs.Equations.Front.{Answer, line, answered, by_front}
use Rattle.commands.specs.Equations.Works.{printed, writing}
use Rattle.commands.specs.Equations.Orders.{Planned, planned}

-- the certificate of the request
abbrev pub cert_answer : Answer
cert_answer = answered (line 256) (planned []) (λ (plan : Planned). printed (IsTableText plan.request))

abbrev pub cert_outcomes : Outcomes
cert_outcomes = by_front (line 256) (planned []) (λ (plan : Planned). writing (IsTableText plan.request))
