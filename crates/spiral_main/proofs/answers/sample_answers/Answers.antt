use Rattle.std.proofs.Common.{refl, codes}
use Rattle.spiral_words.specs.declared.Command.TheVariants as command
use Rattle.spiral_words.specs.declared.Document.TheVariants as document
use Rattle.spiral_words.specs.declared.RequestCommand.TheVariants as request
use Rattle.spiral_main.proofs.Calls.{outcome_of}
use Rattle.spiral_main.proofs.answers.sample_answers.Goals as goal

pub returns : goal.returns
returns c = λ seed schedule words options bytes status text found seeded scheduled p.
    outcome_of words bytes (command.ByRequest (request.Writes (document.Sample seed schedule))) status text
    (codes "sample", options, found, (refl, seeded, scheduled)) p
