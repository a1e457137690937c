-- What is known of a pass that a call was to change.
use Rattle.std.specs.Prelude.{◌≡◌, List, Vec}
use Rattle.std.proofs.Common.{Global}
use Rattle.sigma_spl.specs.Nest.{PlainNest}
use Rattle.sigma_spl.specs.declared.nest.Nest.{Nest}
use Rattle.loop_nests.specs.Views.{plain_pass}
use Rattle.loop_nests.specs.declared.places.changes.Change.{Change}
use Rattle.loop_nests.specs.declared.places.changes.Change.TheVariants.{Made, Refused}

-- P of the pass that was made
abbrev pub ForMade : Change → (List PlainNest → Type 0) → Type 0
ForMade r P = (zs : Vec Nest Global) → r ≡ Made zs → P (plain_pass zs)

-- P of the pass that came back
abbrev pub ForRefused : Change → (List PlainNest → Type 0) → Type 0
ForRefused r P = (zs : Vec Nest Global) → r ≡ Refused zs → P (plain_pass zs)
