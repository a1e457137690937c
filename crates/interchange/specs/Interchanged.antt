-- Loop interchange (Allen and Kennedy, 1984): of loops, one in the other, whose rounds are independent, those whose
-- rounds load from places nearer to one another become the inner ones.
use Rattle.std.specs.Prelude.{ℕ, ◌+◌, Bool, false, List, [], ◌∷◌, map, if◌then◌else◌}
use Rattle.std.specs.Prelude.{nat_lt, Option, Some, None}
use Rattle.std.specs.List.{list_all}
use Rattle.icode.specs.Plain.{PlainStmt, PlainBody, PlainProgram, Loop, Do, NoStmts, AndStmts, PlainParts}
use Rattle.interchange.specs.Exchanged.{exchanged_round}
use Rattle.nests.specs.Rounds.{are_independent, first_store, first_load}
use Rattle.nests.specs.Places.{stride}
use Rattle.nests.specs.Nests.{counts_in, round_in, are_nests, looped}

-- ---- places

-- the loads of the loop's rounds step less than those of the next loop's
abbrev pub steps_less : ℕ → Option PlainParts → Bool
steps_less loop None = false
steps_less loop (Some parts) = nat_lt (stride loop parts) (stride (loop + 1) parts)

-- ---- nests: loops one in the other, and statements in the innermost

-- how many rounds the outermost loop has, the counts of those in it, and the statements in the innermost
pub record Nest : Type 0 where
  pub outer : ℕ
  pub inner : List ℕ
  pub round : PlainBody

abbrev pub nest_stmt : Nest → PlainStmt
nest_stmt nest = Loop nest.outer (looped nest.inner nest.round)

-- the nest in a loop of this number of rounds
abbrev pub within : ℕ → Nest → Nest
within count nest = record { outer = count; inner = nest.outer ∷ nest.inner; round = nest.round }

-- ---- the order of loops

-- the loop at this depth goes into the others, as far as its rounds load from places nearer to one another
abbrev pub sunk : ℕ → ℕ → List ℕ → PlainBody → Nest
sunk loop outer [] round = record { outer = outer; inner = []; round = round }
sunk loop outer (count ∷ counts) round =
    if steps_less loop (first_load round)
    then within count (sunk (loop + 1) outer counts (exchanged_round loop round))
    else record { outer = outer; inner = count ∷ counts; round = round }

-- loops from this depth on, from the innermost to the outermost each gone in so far
abbrev pub ordered : ℕ → ℕ → List ℕ → PlainBody → Nest
ordered loop outer [] round = record { outer = outer; inner = []; round = round }
ordered loop outer (count ∷ counts) round =
    let rest = ordered (loop + 1) count counts round in sunk loop outer (rest.outer ∷ rest.inner) rest.round

-- ---- programs

-- a nest gets its loops in order, if its rounds are independent
abbrev pub interchanged_nest : ℕ → PlainStmt → PlainStmt
interchanged_nest lanes (Loop count body) =
    if are_independent lanes (count ∷ counts_in body) (first_store (round_in body)) (round_in body)
    then nest_stmt (ordered 0 count (counts_in body) (round_in body))
    else Loop count body
interchanged_nest lanes (Do op) = Do op

abbrev pub interchanged_body : ℕ → PlainBody → PlainBody
interchanged_body lanes NoStmts = NoStmts
interchanged_body lanes (AndStmts stmt rest) = AndStmts (interchanged_nest lanes stmt) (interchanged_body lanes rest)

-- the program, if all its statements are nests
abbrev pub interchanged : PlainProgram → PlainProgram
interchanged p =
    if list_all (are_nests p.lanes) p.phases
    then record p { phases = map (interchanged_body p.lanes) p.phases }
    else p
