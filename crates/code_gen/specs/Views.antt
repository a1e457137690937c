-- What the code's machines, frames, vectors and passes stand for.
use Rattle.std.specs.Prelude.{ℕ, List, map, Vec}
use Rattle.std.proofs.Common.{Global}
use Rattle.icode.specs.Plain.{PlainBody, PlainParts, parts_of, plain_body, plain_part, plain_tables}
use Rattle.icode.specs.declared.program.Part.{Part}
use Rattle.icode.specs.declared.program.Stmt.{Stmt}
use Rattle.operators.specs.declared.target.Target.{Target}
use Rattle.sigma_spl.specs.Shared.Machine.{PlainFrame}
use Rattle.sigma_spl.specs.Nest.{PlainNest}
use Rattle.sigma_spl.specs.Views.{plain_nest}
use Rattle.sigma_spl.specs.declared.nest.Nest.{Nest}
use Rattle.code_gen.specs.declared.host.Frame.{Frame}
use Rattle.code_gen.specs.declared.host.Host.{Host}

abbrev pub plain_host : Host → Target
plain_host h =
    record { size = h.size; modulus = h.modulus; procs = h.procs; line = h.line; lanes = h.lanes }

abbrev pub plain_frame : Frame → PlainFrame
plain_frame f = record { shared = f.shared; first_loop = f.first_loop }

-- the statements, the parts of a place, and the tables that a vector holds
abbrev pub body_in : Vec Stmt Global → PlainBody
body_in statements = plain_body statements.items

abbrev pub parts_in : Vec Part Global → PlainParts
parts_in parts = parts_of (map plain_part parts.items)

abbrev pub tables_in : Vec (Vec ℕ Global) Global → List (List ℕ)
tables_in tables = plain_tables tables.items

-- the nests of passes, and the passes of phases
abbrev pub plain_passes : List (Vec Nest Global) → List (List PlainNest)
plain_passes passes = map (λ zs. map plain_nest zs.items) passes

abbrev pub plain_phases : List (Vec (Vec Nest Global) Global) → List (List (List PlainNest))
plain_phases phases = map (λ ps. map (λ zs. map plain_nest zs.items) ps.items) phases
