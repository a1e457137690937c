-- The program of passes, which follow one another phase by phase.
use Rattle.std.specs.Prelude.{ℕ, ◌+◌, ◌-◌, ◌%◌, ◌==◌, if◌then◌else◌, List, [], ◌∷◌, ◌++◌, length, map, max}
use Rattle.std.specs.List.{flat_map, fold}
use Rattle.icode.specs.Plain.{PlainBody, PlainProgram, PlainStmt, body_of}
use Rattle.icode.specs.declared.program.Array.{Array}
use Rattle.icode.specs.declared.program.Array.TheVariants.{X, Y, A, B}
use Rattle.kernel_gen.specs.Kernel.{trees_kernel}
use Rattle.matrix_meaning.specs.declared.Request.{Request}
use Rattle.tree_model.specs.Trees.{trees_size}
use Rattle.tree_model.specs.Whole.{rooted_of}
use Rattle.generate.specs.Emission.Bodies.{Setting, pass_code}
use Rattle.generate.specs.Emission.Passes.{Factors, Pass, Work, kernel, none, rows, tile}
use Rattle.generate.specs.Emission.Tables.{added, tables_in}

-- ---- registers

-- each product takes a register of its own
abbrev pub products : Factors → ℕ → ℕ
products none n = 0
products factors n = n

abbrev pub registers : ℕ → Factors → Work → ℕ
registers m factors (kernel c t) =
    (trees_kernel m (rooted_of c t)).next + products factors (trees_size (rooted_of c t))
registers m factors (rows root size) = 3 + products factors 1
registers m factors (tile v) = v + v + products factors v

-- ---- arrays

-- the pass number t of n writes A, B, A, B and so on, and the last one Y. It reads what the one before it wrote, and
-- the first one X
abbrev pub written : ℕ → ℕ → Array
written n t = if t + 1 == n then Y else (if t % 2 == 0 then A else B)

abbrev pub read : ℕ → ℕ → Array
read n t = if t == 0 then X else written n (t - 1)

-- ---- phases, where the first pass is the number t of n, and the program has these tables

abbrev pub phase_code : Request → List (List ℕ) → ℕ → ℕ → List Pass → List PlainStmt
phase_code c tables n t [] = []
phase_code c tables n t (p ∷ ps) =
    let o : Setting = record { request = c; tables = tables; pass = p; source = read n t; target = written n t } in
    pass_code o ++ phase_code c tables n (t + 1) ps

abbrev pub phases_code : Request → List (List ℕ) → ℕ → ℕ → List (List Pass) → List PlainBody
phases_code c tables n t [] = []
phases_code c tables n t (ps ∷ phases) =
    body_of (phase_code c tables n t ps) ∷ phases_code c tables n (t + length ps) phases

abbrev pub program_in : Request → List (List Pass) → PlainProgram
program_in c phases =
    let all = flat_map (λ ps. ps) phases in
    let tables = fold added [] (flat_map (tables_in c.modulus) all) in
    record {
      size = c.size;
      modulus = c.modulus;
      procs = c.procs;
      line = c.line;
      lanes = c.lanes;
      regs = fold max 0 (map (λ p. registers c.modulus p.site.factors p.work) all);
      tables = tables;
      phases = phases_code c tables (length all) 0 phases;
    }
