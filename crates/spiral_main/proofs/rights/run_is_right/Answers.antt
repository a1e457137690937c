use Rattle.std.proofs.Common.{inr, refl, codes}
use Rattle.runs.specs.Stream.{lines}
use Rattle.matrix_meaning.specs.Asked.{asked_of}
use Rattle.commands.specs.Input.Orders.{procs_in}
use Rattle.spiral_words.specs.declared.Command.TheVariants as command
use Rattle.spiral_words.specs.declared.RequestCommand.TheVariants as request
use Rattle.spiral_main.proofs.RightFront.{data_are_right}
use Rattle.spiral_main.proofs.rights.run_is_right.Goals as goal

pub returns : goal.returns
returns c = λ words options bytes order plan found ordered right vectors.
    inr (
      command.ByRequest (request.Runs order),
      (codes "run", options, found, (refl, ordered)),
      data_are_right (procs_in order) bytes (λ p vs. lines (asked_of p.request) vs) plan right vectors,
    )
