use Rattle.std.proofs.Common.{inr, refl, codes}
use Rattle.matrix_meaning.specs.declared.Request.{Request}
use Rattle.plan_cert.specs.Verdict.{IsVerdict}
use Rattle.plan_cert.specs.declared.verdict.Verdict.TheVariants.{Least}
use Rattle.spiral_words.specs.declared.Command.TheVariants as command
use Rattle.spiral_words.specs.declared.RequestCommand.TheVariants as request
use Rattle.spiral_words.specs.declared.statuses.status.Status.TheVariants.{Success}
use Rattle.commands.specs.Checked.{least_line}
use Rattle.commands.specs.Equations.Check.{fitting}
use Rattle.commands.specs.Equations.Front.{line}
use Rattle.commands.specs.Equations.Works.{judging}
use Rattle.commands.specs.Input.Asking.{spelt}
use Rattle.commands.specs.Input.Stage.{◌>>=◌}
use Rattle.spiral_main.proofs.RightFront.{front_answer}
use Rattle.spiral_main.proofs.rights.check_is_right.Goals as goal

pub returns : goal.returns
returns c = λ words options bytes r cost found short spells admitted few judged.
    inr (
      command.ByRequest request.Judges,
      (codes "check", options, found, refl),
      front_answer (line 256) (λ text. spelt text >>= fitting) (λ (q : Request). judging (IsVerdict q)) r bytes Success
          (least_line cost) short (record { value = r; before = spells; behind = (refl, admitted) })
          (inr (few, (Least cost, judged, refl, refl))),
    )
