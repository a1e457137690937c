use Rattle.std.proofs.Common.{refl, codes}
use Rattle.spiral_words.specs.declared.Command.TheVariants as command
use Rattle.spiral_main.proofs.Calls.{outcome_of}
use Rattle.spiral_main.proofs.answers.exec_answers.Goals as goal

pub returns : goal.returns
returns c = λ schedule words options bytes status text found scheduled p.
    outcome_of words bytes (command.ByListing schedule) status text (codes "exec", options, found, (refl, scheduled)) p
