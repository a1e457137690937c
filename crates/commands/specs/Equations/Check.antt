-- What is right for `check`.
use Rattle.std.specs.Prelude.{◌≡◌, Ok, Err}
use Rattle.generate_faults.specs.declared.generate_fault.GenerateFault.{GenerateFault}
use Rattle.plan_cert.specs.Verdict.{IsVerdict}
use Rattle.generate.specs.Planned.{IsAdmitted, IsBarred}
use Rattle.matrix_meaning.specs.declared.Request.{Request}
use Rattle.spiral_words.specs.Statuses.Fault.{status_of_generate}
use Rattle.commands.specs.Input.Asking.{spelt}
use Rattle.commands.specs.Input.Outcomes.{Outcomes}
use Rattle.commands.specs.Input.Stage.{Stage, ◌>>=◌}
use Rattle.commands.specs.Equations.Front.{Answer, line, answered, by_front}
use Rattle.commands.specs.Equations.Works.{judged_by, judging}

-- the request, if its roots are right and some tree fits, whatever it costs
abbrev pub fitting : Request → Stage Request
fitting request (Ok same) = (same ≡ request) × IsAdmitted request
fitting request (Err status) = (fault : GenerateFault) × IsBarred request fault × (status ≡ status_of_generate fault)

-- the verdict on the certificate
abbrev pub check_answer : Answer
check_answer = answered (line 256) (λ text. spelt text >>= fitting)
    (λ (request : Request). judged_by (IsVerdict request))

abbrev pub check_outcomes : Outcomes
check_outcomes = by_front (line 256) (λ text. spelt text >>= fitting)
    (λ (request : Request). judging (IsVerdict request))
