-- The passes of a part, as they are put beside those of another.
use Rattle.std.specs.Prelude.{ℕ, List}
use Rattle.sigma_spl.specs.Limits.{AreWithin}
use Rattle.sigma_spl.specs.Nest.{PlainNest}
use Rattle.loop_nests.specs.Ready.{AreReadyPasses}

-- passes on n words, whose places have few parts and are within the limits, and of words
pub record IsPart (n : ℕ) (ps : List (List PlainNest)) : Type 0 where
  pub room : ℕ
  pub within : AreWithin room n ps
  pub ready : AreReadyPasses ps
