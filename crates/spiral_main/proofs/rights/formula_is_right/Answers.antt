use Rattle.std.proofs.Common.{[], inr, refl, codes}
use Rattle.commands.specs.Equations.Formula.{formula_text}
use Rattle.spiral_words.specs.declared.Command.TheVariants as command
use Rattle.spiral_words.specs.declared.Document.TheVariants as document
use Rattle.spiral_words.specs.declared.RequestCommand.TheVariants as request
use Rattle.spiral_main.proofs.RightFront.{text_is_right}
use Rattle.spiral_main.proofs.rights.formula_is_right.Goals as goal

pub returns : goal.returns
returns c = λ words options bytes plan found right.
    inr (
      command.ByRequest (request.Writes document.Formula),
      (codes "formula", options, found, refl),
      text_is_right [] bytes formula_text plan right,
    )
