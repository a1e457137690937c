use Rattle.std.proofs.Common.{true, refl, codes}
use Rattle.spiral_words.specs.declared.Command.TheVariants as command
use Rattle.spiral_main.proofs.Calls.{outcome_of}
use Rattle.spiral_main.proofs.letters.convolver_letters.Goals as goal

pub returns : goal.returns
returns c = λ schedule words options bytes status text found scheduled listed p.
    outcome_of words bytes (command.ByList schedule true) status text
    (codes "convolve", options, found, (refl, scheduled, listed)) p
