use Rattle.std.proofs.Common.{refl, codes}
use Rattle.spiral_words.specs.declared.Command.TheVariants as command
use Rattle.spiral_words.specs.declared.FormulaCommand.TheVariants as formula_command
use Rattle.spiral_main.proofs.Calls.{outcome_of}
use Rattle.spiral_main.proofs.letters.compile_letters.Goals as goal

pub returns : goal.returns
returns c = λ m words options bytes status text found modulus p.
    outcome_of words bytes (command.ByFormula m formula_command.Compile) status text
    (codes "compile", options, found, (refl, modulus)) p
