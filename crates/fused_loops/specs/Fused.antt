-- Loop fusion (Allen and Kennedy, 1984): a nest goes into the loops whose blocks it shares with the nest before it.
use Rattle.std.specs.Prelude.{ℕ, zero, suc, ◌==◌, ◌&&◌, Bool, nat_le, List, [], ◌∷◌, if◌then◌else◌}
use Rattle.icode.specs.Plain.{PlainStmt, PlainBody, PlainProgram, Loop, Do, NoStmts, AndStmts}
use Rattle.fused_loops.specs.declared.blocks.Block.{Block}
use Rattle.nests.specs.Nests.{is_nest, are_nests}
use Rattle.fused_loops.specs.Blocks.{blocks_of, shared}

-- ---- statements

abbrev pub put_behind : PlainStmt → PlainBody → PlainBody
put_behind stmt NoStmts = AndStmts stmt NoStmts
put_behind stmt (AndStmts first rest) = AndStmts first (put_behind stmt rest)

abbrev pub with_body : (PlainBody → PlainBody) → PlainStmt → PlainStmt
with_body f (Loop count body) = Loop count (f body)
with_body f (Do op) = Do op

-- what is in the last loop is changed
abbrev pub in_last : (PlainBody → PlainBody) → PlainBody → PlainBody
in_last f NoStmts = NoStmts
in_last f (AndStmts stmt NoStmts) = AndStmts (with_body f stmt) NoStmts
in_last f (AndStmts stmt (AndStmts next rest)) = AndStmts stmt (in_last f (AndStmts next rest))

-- the statement goes after others, its first n loops being those of the last of them
abbrev mutual
  pub fused_stmt : ℕ → PlainStmt → PlainBody → PlainBody
  fused_stmt zero stmt body = put_behind stmt body
  fused_stmt (suc n) (Loop count inside) body = in_last (fused_stmts n inside) body
  fused_stmt (suc n) (Do op) body = put_behind (Do op) body

  pub fused_stmts : ℕ → PlainBody → PlainBody → PlainBody
  fused_stmts n NoStmts body = body
  fused_stmts n (AndStmts stmt rest) body = fused_stmts n rest (fused_stmt n stmt body)

-- ---- phases

-- how many statements stand up to the last that is no nest
abbrev pub waiting : ℕ → PlainBody → ℕ
waiting lanes NoStmts = 0
waiting lanes (AndStmts stmt rest) = if is_nest lanes stmt && are_nests lanes rest then 0 else suc (waiting lanes rest)

-- Statements go after others, of which the last has these blocks. A given number of them stay as they are
abbrev pub fused_onto : ℕ → ℕ → List Block → PlainBody → PlainBody → PlainBody
fused_onto lanes wait before made NoStmts = made
fused_onto lanes (suc wait) before made (AndStmts stmt rest) = fused_onto lanes wait [] (put_behind stmt made) rest
fused_onto lanes zero before made (AndStmts stmt rest) =
    let blocks = blocks_of lanes stmt in fused_onto lanes zero blocks (fused_stmt (shared before blocks) stmt made) rest

abbrev pub fused_phase : ℕ → PlainBody → PlainBody
fused_phase lanes body = fused_onto lanes (waiting lanes body) [] NoStmts body

abbrev pub fused_phases : ℕ → List PlainBody → List PlainBody
fused_phases lanes [] = []
fused_phases lanes (body ∷ []) = fused_phase lanes body ∷ []
fused_phases lanes (body ∷ next ∷ phases) = body ∷ next ∷ phases

-- ---- programs

abbrev pub may_be_fused : ℕ → PlainProgram → Bool
may_be_fused least p = nat_le least p.size && (p.procs == 1)

-- the program of one processor and one phase, if it has the least number of words
abbrev pub fused : ℕ → PlainProgram → PlainProgram
fused least p = if may_be_fused least p then record p { phases = fused_phases p.lanes p.phases } else p

-- the words of an array that the second cache does not hold
abbrev pub large_size : ℕ
large_size = 131072
