use Rattle.std.proofs.Common.{inr, refl, codes}
use Rattle.spiral_words.specs.declared.Command.TheVariants as command
use Rattle.spiral_main.proofs.RightFront.{executed_is_right}
use Rattle.spiral_main.proofs.rights.exec_is_right.Goals as goal

pub returns : goal.returns
returns c = λ words options bytes schedule program found scheduled short gives vectors.
    inr (
      command.ByListing schedule,
      (codes "exec", options, found, (refl, scheduled)),
      executed_is_right schedule bytes program short gives vectors,
    )
