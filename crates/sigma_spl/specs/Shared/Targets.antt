-- The machine that a request names.
use Rattle.std.specs.Prelude.{◌==◌, ◌&&◌, Bool}
use Rattle.matrix_meaning.specs.declared.Request.{Request}
use Rattle.operators.specs.declared.target.Target.{Target}

abbrev pub target_of : Request → Target
target_of c = record { size = c.size; modulus = c.modulus; procs = c.procs; line = c.line; lanes = c.lanes }

-- one processor and one lane
abbrev pub is_alone : Target → Bool
is_alone h = h.procs == 1 && h.lanes == 1
