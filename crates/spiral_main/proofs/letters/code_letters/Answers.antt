use Rattle.std.proofs.Common.{refl, codes}
use Rattle.spiral_words.specs.declared.Command.TheVariants as command
use Rattle.spiral_words.specs.declared.Document.TheVariants as document
use Rattle.spiral_words.specs.declared.RequestCommand.TheVariants as request
use Rattle.spiral_main.proofs.Calls.{outcome_of}
use Rattle.spiral_main.proofs.letters.code_letters.Goals as goal

pub returns : goal.returns
returns c = λ words options bytes status text found p.
    outcome_of words bytes (command.ByRequest (request.Writes document.Code)) status text
    (codes "code", options, found, refl) p
