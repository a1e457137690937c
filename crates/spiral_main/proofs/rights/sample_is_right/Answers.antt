use Rattle.std.proofs.Common.{inr, refl, codes}
use Rattle.schedules.specs.Turns.{named}
use Rattle.commands.specs.Equations.Sample.{sample_lines}
use Rattle.spiral_words.specs.declared.Command.TheVariants as command
use Rattle.spiral_words.specs.declared.Document.TheVariants as document
use Rattle.spiral_words.specs.declared.RequestCommand.TheVariants as request
use Rattle.spiral_main.proofs.RightFront.{text_is_right}
use Rattle.spiral_main.proofs.rights.sample_is_right.Goals as goal

pub returns : goal.returns
returns c = λ words options bytes seed schedule plan found seeded scheduled right.
    inr (
      command.ByRequest (request.Writes (document.Sample seed schedule)),
      (codes "sample", options, found, (refl, seeded, scheduled)),
      text_is_right (named schedule) bytes (λ p. sample_lines p seed) plan right,
    )
