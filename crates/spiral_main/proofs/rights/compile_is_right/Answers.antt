use Rattle.std.proofs.Common.{inr, refl, codes}
use Rattle.spiral_words.specs.declared.Command.TheVariants as command
use Rattle.spiral_words.specs.declared.FormulaCommand.TheVariants as formula_command
use Rattle.spiral_main.proofs.RightFront.{listing_is_right}
use Rattle.spiral_main.proofs.rights.compile_is_right.Goals as goal

pub returns : goal.returns
returns c = λ words options bytes m formula found modulus right.
    inr (
      command.ByFormula m formula_command.Compile,
      (codes "compile", options, found, (refl, modulus)),
      listing_is_right m bytes formula right.short right.spells,
    )
