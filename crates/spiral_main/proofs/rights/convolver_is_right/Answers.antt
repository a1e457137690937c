use Rattle.std.proofs.Common.{inr, refl, true, codes}
use Rattle.listing_text.specs.Listing.{listing_of}
use Rattle.commands.specs.Emission.Whole.{conv_emission}
use Rattle.spiral_words.specs.declared.Command.TheVariants as command
use Rattle.spiral_main.proofs.RightFront.{convolver_is_first}
use Rattle.spiral_main.proofs.rights.convolver_is_right.Goals as goal

pub returns : goal.returns
returns c = λ words options bytes schedule plan h later found scheduled listed right same.
    inr (
      command.ByList schedule true,
      (codes "convolve", options, found, (refl, scheduled, listed)),
      convolver_is_first schedule bytes plan h later (listing_of (conv_emission plan.request plan.tree h)) right same refl,
    )
