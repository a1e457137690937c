use Rattle.std.proofs.Common.{inr, refl, codes}
use Rattle.spiral_words.specs.declared.Command.TheVariants as command
use Rattle.spiral_words.specs.declared.FormulaCommand.TheVariants as formula_command
use Rattle.spiral_main.proofs.RightFront.{applied_is_right}
use Rattle.spiral_main.proofs.rights.apply_is_right.Goals as goal

pub returns : goal.returns
returns c = λ words options bytes m schedule formula found modulus scheduled short gives vectors.
    inr (
      command.ByFormula m (formula_command.Apply schedule),
      (codes "apply", options, found, (refl, modulus, scheduled)),
      applied_is_right m schedule bytes formula short gives vectors,
    )
