use Rattle.std.proofs.Common.{inr, refl, false, codes}
use Rattle.matrix_meaning.specs.Convolution.{convolution}
use Rattle.runs.specs.Stream.{lines}
use Rattle.spiral_words.specs.declared.Command.TheVariants as command
use Rattle.spiral_main.proofs.RightFront.{convolved_is_right}
use Rattle.spiral_main.proofs.rights.convolve_is_right.Goals as goal

pub returns : goal.returns
returns c = λ words options bytes schedule plan h later found scheduled unlisted right whole same.
    inr (
      command.ByList schedule false,
      (codes "convolve", options, found, (refl, scheduled, unlisted)),
      convolved_is_right schedule bytes plan h later
          (lines (convolution plan.request.modulus plan.request.size h) later) right whole same refl,
    )
