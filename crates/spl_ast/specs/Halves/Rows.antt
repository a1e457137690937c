-- The rows of several formulas.
use Rattle.std.specs.Prelude.{ℕ, ◌+◌, List, [], ◌∷◌}
use Rattle.spl_ast.specs.Formula.{Formula, size_of}

-- the rows of their direct sum
abbrev pub rows_of : List Formula → ℕ
rows_of [] = 0
rows_of (f ∷ fs) = size_of f + rows_of fs
