-- The program of merged passes, which follow one another phase by phase.
use Rattle.std.specs.Prelude.{ℕ, zero, suc, ◌+◌, ◌%◌, ◌==◌, if◌then◌else◌, List, [], ◌∷◌, length, max}
use Rattle.icode.specs.Plain.{PlainBody, PlainProgram, NoStmts}
use Rattle.icode.specs.declared.program.Array.{Array}
use Rattle.icode.specs.declared.program.Array.TheVariants.{X, Y, A, B}
use Rattle.code_gen.specs.PassActions.Acts.{pass_registers}
use Rattle.operators.specs.declared.target.Target.{Target}
use Rattle.code_gen.specs.PassCode.Statements.{followed_by, pass_body, tables_after}
use Rattle.sigma_spl.specs.Merged.{PlainMerged}
use Rattle.sigma_spl.specs.Nest.{PlainNest}

-- The array that the pass number t writes, given how many passes come after it: A, B, A, B and so on, and last Y
abbrev pub written_array : ℕ → ℕ → Array
written_array t zero = Y
written_array t (suc more) = if t % 2 == 0 then A else B

-- the statements of passes, the first of which has number t and reads the
-- source, given how many come after them and the tables before them
abbrev pub phase_body : Target → ℕ → List (List PlainNest) → ℕ → List (List ℕ) → Array → PlainBody
phase_body h after [] t tables source = NoStmts
phase_body h after (zs ∷ ps) t tables source =
    followed_by (pass_body h zs tables source (written_array t (after + length ps)))
    (phase_body h after ps (suc t) (tables_after h.modulus zs tables) (written_array t (after + length ps)))

abbrev pub tables_through : ℕ → List (List PlainNest) → List (List ℕ) → List (List ℕ)
tables_through m [] tables = tables
tables_through m (zs ∷ ps) tables = tables_through m ps (tables_after m zs tables)

abbrev pub array_after : ℕ → List (List PlainNest) → ℕ → Array → Array
array_after after [] t source = source
array_after after (zs ∷ ps) t source = array_after after ps (suc t) (written_array t (after + length ps))

abbrev pub count_in : List (List (List PlainNest)) → ℕ
count_in [] = 0
count_in (ps ∷ more) = count_in more + length ps

abbrev pub phases_body : Target → List (List (List PlainNest)) → ℕ → List (List ℕ) → Array → List PlainBody
phases_body h [] t tables source = []
phases_body h (ps ∷ more) t tables source =
    phase_body h (count_in more) ps t tables source
    ∷ phases_body h more (t + length ps) (tables_through h.modulus ps tables)
    (array_after (count_in more) ps t source)

abbrev pub tables_of_phases : ℕ → List (List (List PlainNest)) → List (List ℕ) → List (List ℕ)
tables_of_phases m [] tables = tables
tables_of_phases m (ps ∷ more) tables = tables_of_phases m more (tables_through m ps tables)

abbrev pub most_of : Target → List (List PlainNest) → ℕ
most_of h [] = 0
most_of h (zs ∷ ps) = max (pass_registers h.modulus zs) (most_of h ps)

abbrev pub most_of_phases : Target → List (List (List PlainNest)) → ℕ
most_of_phases h [] = 0
most_of_phases h (ps ∷ more) = max (most_of h ps) (most_of_phases h more)

-- from X by way of A and B to Y
abbrev pub program_of : Target → PlainMerged → PlainProgram
program_of h g =
    record {
      size = h.size;
      modulus = h.modulus;
      procs = h.procs;
      line = h.line;
      lanes = h.lanes;
      regs = most_of_phases h g.phases;
      tables = tables_of_phases h.modulus g.phases [];
      phases = phases_body h g.phases 0 [] X;
    }
