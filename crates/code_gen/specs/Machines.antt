-- Requests of one machine.
use Rattle.std.specs.Prelude.{◌≡◌}
use Rattle.matrix_meaning.specs.declared.Request.{Request}
use Rattle.sigma_spl.specs.Shared.Targets.{target_of}

-- both requests ask for one machine
abbrev pub AreAlike : Request → Request → Type 0
AreAlike c d = target_of c ≡ target_of d
