-- How deep the loops of programs on words stand, and which tiles they have: the printer counts loops and registers.
use Rattle.std.specs.Prelude.{ℕ, ◌+◌, List, Bool, true, ◌&&◌, nat_lt}
use Rattle.std.specs.List.{list_all}
use Rattle.icode.specs.Limits.{is_small}
use Rattle.icode.specs.Plain.{PlainOp, Tile}
use Rattle.word_code.specs.WordProgram.{WordStmt, WordBody, Loop, Do, NoStmts, AndStmts}

-- the registers of a tile are small numbers
abbrev pub is_tile_small : PlainOp → Bool
is_tile_small (Tile register source) = is_small register && is_small source
is_tile_small _ = true

-- inside a number of loops, no more than 64 are open at once
abbrev mutual
  pub is_word_nest_within : WordStmt → ℕ → Bool
  is_word_nest_within (Loop count body) open_loops = nat_lt open_loops 64 && are_word_nests_within body (open_loops + 1)
  is_word_nest_within (Do note op) open_loops = is_tile_small op

  pub are_word_nests_within : WordBody → ℕ → Bool
  are_word_nests_within NoStmts open_loops = true
  are_word_nests_within (AndStmts stmt rest) open_loops = is_word_nest_within stmt open_loops && are_word_nests_within rest open_loops

abbrev pub are_word_phases_within : List WordBody → Bool
are_word_phases_within phases = list_all (λ body. are_word_nests_within body 0) phases
