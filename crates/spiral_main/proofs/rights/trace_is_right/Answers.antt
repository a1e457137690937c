use Rattle.std.proofs.Common.{◌++◌, inr, refl, codes}
use Rattle.listing_text.specs.Listing.{listing_of}
use Rattle.commands.specs.Emission.Whole.{emission}
use Rattle.commands.specs.Equations.Trace.{run_lines}
use Rattle.commands.specs.Input.Orders.{procs_in}
use Rattle.spiral_words.specs.declared.Command.TheVariants as command
use Rattle.spiral_words.specs.declared.RequestCommand.TheVariants as request
use Rattle.spiral_main.proofs.RightFront.{data_are_right}
use Rattle.spiral_main.proofs.rights.trace_is_right.Goals as goal

pub returns : goal.returns
returns c = λ words options bytes order plan found ordered right vectors.
    inr (
      command.ByRequest (request.Traces order),
      (codes "trace", options, found, (refl, ordered)),
      data_are_right (procs_in order) bytes
          (λ p vs. listing_of (emission p.request p.tree) ++ run_lines order p vs) plan right vectors,
    )
