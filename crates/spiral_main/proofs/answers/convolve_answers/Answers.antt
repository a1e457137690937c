use Rattle.std.proofs.Common.{false, refl, codes}
use Rattle.spiral_words.specs.declared.Command.TheVariants as command
use Rattle.spiral_main.proofs.Calls.{outcome_of}
use Rattle.spiral_main.proofs.answers.convolve_answers.Goals as goal

pub returns : goal.returns
returns c = λ schedule words options bytes status text found scheduled data_only p.
    outcome_of words bytes (command.ByList schedule false) status text
    (codes "convolve", options, found, (refl, scheduled, data_only)) p
