-- How many tables passes need.
use Rattle.std.proofs.Common.{◌≡◌, ◌+◌, List, [], ◌∷◌, ◌++◌, arith}
use Rattle.sigma_spl.specs.Nest.{PlainNest}
use Rattle.sigma_spl.specs.Shared.Ready.{passes_tables}

pub tables-append : (ps qs : List (List PlainNest)) → passes_tables (ps ++ qs) ≡ passes_tables ps + passes_tables qs
tables-append [] qs = omega arith
tables-append (zs ∷ ps) qs = let rest = tables-append ps qs in omega (arith, rest)
