-- Programs can be made of the passes of every formula.
use Rattle.std.specs.Prelude.{ℕ, ◌^◌, ◌<◌, ◌≤◌}
use Rattle.sigma_spl.specs.Shared.Machine.{plain_machine}
use Rattle.sigma_spl.specs.Shared.Ready.{IsReady}
use Rattle.spl_ast.specs.Formula.{Formula, size_of, parts_of}
use Rattle.spl_ast.specs.Shape.{IsShaped}
use Rattle.generate.specs.FormulaPasses.Computes.{formula_merged}

-- the merged passes of a formula are ready
abbrev pub FormulasAreReady : Type 0
FormulasAreReady =
    (m : ℕ) (f : Formula) → 2 ≤ m → m < 2 ^ 62 → IsShaped f → parts_of f ≤ 65536 →
    IsReady (plain_machine (size_of f) m) (formula_merged m f)
