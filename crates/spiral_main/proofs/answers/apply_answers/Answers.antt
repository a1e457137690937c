use Rattle.std.proofs.Common.{refl, codes}
use Rattle.spiral_words.specs.declared.Command.TheVariants as command
use Rattle.spiral_words.specs.declared.FormulaCommand.TheVariants as formula_command
use Rattle.spiral_main.proofs.Calls.{outcome_of}
use Rattle.spiral_main.proofs.answers.apply_answers.Goals as goal

pub returns : goal.returns
returns c = λ m schedule words options bytes status text found modulus scheduled p.
    outcome_of words bytes (command.ByFormula m (formula_command.Apply schedule)) status text
    (codes "apply", options, found, (refl, modulus, scheduled)) p
