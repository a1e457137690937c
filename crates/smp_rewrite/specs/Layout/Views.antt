-- What the code's steps stand for.
use Rattle.sigma_spl.specs.Views.{plain_work}
use Rattle.smp_rewrite.specs.Layout.Step.{PlainCore, piece, turns, twiddles, thomas_in, thomas_out, PlainStep}
use Rattle.smp_rewrite.specs.Layout.Step.{step}
use Rattle.smp_rewrite.specs.declared.layout.Core.{Core}
use Rattle.smp_rewrite.specs.declared.layout.Core.TheVariants.{Piece, Turns, Twiddles, ThomasIn, ThomasOut}
use Rattle.smp_rewrite.specs.declared.layout.Step.{Step}

abbrev pub plain_core : Core → PlainCore
plain_core (Piece w) = piece (plain_work w)
plain_core (Turns r s) = turns r s
plain_core (Twiddles r s w) = twiddles r s w
plain_core (ThomasIn r s) = thomas_in r s
plain_core (ThomasOut r s) = thomas_out r s

abbrev pub plain_step : Step → PlainStep
plain_step s = step s.path.items (plain_core s.core)
