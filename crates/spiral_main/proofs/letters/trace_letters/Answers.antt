use Rattle.std.proofs.Common.{refl, codes}
use Rattle.spiral_words.specs.declared.Command.TheVariants as command
use Rattle.spiral_words.specs.declared.RequestCommand.TheVariants as request
use Rattle.spiral_main.proofs.Calls.{outcome_of}
use Rattle.spiral_main.proofs.letters.trace_letters.Goals as goal

pub returns : goal.returns
returns c = λ order words options bytes status text found ordered p.
    outcome_of words bytes (command.ByRequest (request.Traces order)) status text
    (codes "trace", options, found, (refl, ordered)) p
