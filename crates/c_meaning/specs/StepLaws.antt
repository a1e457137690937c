-- The steps of the statement of an operation.
use Rattle.std.specs.Prelude.{◌≡◌, ℕ, ◌≤◌, List, map}
use Rattle.std.specs.List.{range_with_len}
use Rattle.icode.specs.Plain.{PlainProgram}
use Rattle.c_meaning.specs.Syntax.{Name, CExpr, CExprs, Assign}
use Rattle.c_meaning.specs.Numbers.{Defined}
use Rattle.c_meaning.specs.Statements.{assigned, steps_of}
use Rattle.c_meaning.specs.ProgramTrees.{each_lane}
use Rattle.c_meaning.specs.ProgramLaws.{with_loops, phase_scope}
use Rattle.c_meaning.specs.AddressLaws.{lane_scope}

-- a statement for each lane is a step for each of the program's lanes, in their order
abbrev pub LanesAreSteps : Type 0
LanesAreSteps =
    (p : PlainProgram) (q : ℕ) (vs : List ℕ) (array : Name) (indices : CExprs) (value : CExpr) → p.lanes ≤ 16 →
    steps_of (with_loops 0 vs (phase_scope p q)) (each_lane (Assign array indices value))
    ≡ Defined (map (λ l. assigned (lane_scope p q vs l) array indices value) (range_with_len 0 p.lanes))
