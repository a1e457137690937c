-- What code makes of one part.
use Rattle.std.specs.Prelude.{ℕ, ◌==◌, List, [], ◌∷◌, if◌then◌else◌}
use Rattle.icode.specs.Plain.{PlainPart, Var}
use Rattle.coalesced_loops.specs.Coalesced.{lifted_depth}

-- a part where the loop at this depth is no more, if it is no multiple of its value
abbrev pub lifted_part : ℕ → PlainPart → List PlainPart
lifted_part loop (Var depth factor) = if depth == loop then [] else Var (lifted_depth loop depth) factor ∷ []
lifted_part loop part = part ∷ []
