use Rattle.std.proofs.Common.{[], inr, refl, codes}
use Rattle.c_print.specs.CText.{c_text_of}
use Rattle.commands.specs.Emission.Whole.{emission}
use Rattle.spiral_words.specs.declared.Command.TheVariants as command
use Rattle.spiral_words.specs.declared.Document.TheVariants as document
use Rattle.spiral_words.specs.declared.RequestCommand.TheVariants as request
use Rattle.spiral_main.proofs.RightFront.{text_is_right}
use Rattle.spiral_main.proofs.rights.c_is_right.Goals as goal

pub returns : goal.returns
returns c = λ words options bytes plan found right.
    inr (
      command.ByRequest (request.Writes document.C),
      (codes "c", options, found, refl),
      text_is_right [] bytes (λ p. c_text_of (emission p.request p.tree)) plan right,
    )
