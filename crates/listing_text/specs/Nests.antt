-- How deep loops stand.
use Rattle.std.specs.Prelude.{ℕ, ◌+◌, Bool, true, ◌&&◌, nat_lt}
use Rattle.icode.specs.Plain.{PlainStmt, PlainBody, Loop, Do, NoStmts, AndStmts}

-- inside a number of loops, no more than 64 are open at once
abbrev mutual
  pub is_nest_within : PlainStmt → ℕ → Bool
  is_nest_within (Loop count body) open_loops = nat_lt open_loops 64 && are_nests_within body (open_loops + 1)
  is_nest_within (Do op) open_loops = true

  pub are_nests_within : PlainBody → ℕ → Bool
  are_nests_within NoStmts open_loops = true
  are_nests_within (AndStmts stmt rest) open_loops = is_nest_within stmt open_loops && are_nests_within rest open_loops
