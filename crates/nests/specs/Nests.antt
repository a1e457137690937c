-- Nests: loops one in the other, and statements in the innermost.
use Rattle.std.specs.Prelude.{ℕ, ◌&&◌, Bool, true, false, List, [], ◌∷◌}
use Rattle.icode.specs.Plain.{PlainStmt, PlainBody, Loop, Do, NoStmts, AndStmts}
use Rattle.nests.specs.Rounds.{are_fresh}

-- ---- nests: loops one in the other, and statements in the innermost

-- how many rounds the loops have, one in the other
abbrev pub counts_in : PlainBody → List ℕ
counts_in (AndStmts (Loop count body) NoStmts) = count ∷ counts_in body
counts_in body = []

-- the statements in the innermost
abbrev pub round_in : PlainBody → PlainBody
round_in (AndStmts (Loop count body) NoStmts) = round_in body
round_in body = body

-- these are straight and read no register of another round
abbrev pub is_nest : ℕ → PlainStmt → Bool
is_nest lanes (Loop count body) = are_fresh lanes 0 (round_in body)
is_nest lanes (Do op) = false

abbrev pub are_nests : ℕ → PlainBody → Bool
are_nests lanes NoStmts = true
are_nests lanes (AndStmts stmt rest) = is_nest lanes stmt && are_nests lanes rest

abbrev pub looped : List ℕ → PlainBody → PlainBody
looped [] round = round
looped (count ∷ counts) round = AndStmts (Loop count (looped counts round)) NoStmts
