-- Blocks: loops of which each round has words of its own, one after the other, where all its places lie.
use Rattle.std.specs.Prelude.{ℕ, suc, ◌+◌, ◌-◌, ◌*◌, ◌==◌, ◌&&◌, Bool, true, false, nat_le, List, [], ◌∷◌, Option}
use Rattle.std.specs.Prelude.{Some, None, slice_index, if◌then◌else◌}
use Rattle.icode.specs.Plain.{PlainExpr, PlainParts, PlainPart, PlainOp, PlainStmt, PlainBody, Sum, NoParts, AndParts}
use Rattle.icode.specs.Plain.{Proc, Var, Product, Rem, Quot, Load, Store, Zero, Add, Sub, Neg, MulConst, MulTable}
use Rattle.icode.specs.Plain.{Tile, Loop, Do, NoStmts, AndStmts}
use Rattle.fused_loops.specs.declared.blocks.Block.{Block}
use Rattle.nests.specs.Nests.{counts_in, round_in}
use Rattle.nests.specs.Rounds.{first_load}

-- ---- places

-- multiples of loops' values alone
abbrev pub are_values : PlainParts → Bool
are_values NoParts = true
are_values (AndParts (Proc factor) rest) = false
are_values (AndParts (Var depth factor) rest) = are_values rest
are_values (AndParts (Product outer inner factor) rest) = false
are_values (AndParts (Rem of divisor factor) rest) = false
are_values (AndParts (Quot of divisor factor) rest) = false

-- the most that a multiple of a loop's value is, in loops of these counts
abbrev pub most_of : List ℕ → PlainPart → ℕ
most_of counts (Proc factor) = 0
most_of counts (Var depth factor) = (slice_index counts depth - 1) * factor
most_of counts (Product outer inner factor) = 0
most_of counts (Rem of divisor factor) = 0
most_of counts (Quot of divisor factor) = 0

abbrev pub most : List ℕ → PlainParts → ℕ
most counts NoParts = 0
most counts (AndParts part rest) = most_of counts part + most counts rest

-- the part goes this step with the loop at this depth
abbrev pub is_step : ℕ → ℕ → PlainPart → Bool
is_step loop step (Proc factor) = false
is_step loop step (Var depth factor) = (depth == loop) && (factor == step)
is_step loop step (Product outer inner factor) = false
is_step loop step (Rem of divisor factor) = false
is_step loop step (Quot of divisor factor) = false

-- those of the steps, from the loop at this depth on, that a place goes, and within which it stays in the loops
-- inside. Beside what the parts are, it uses a given number of words
abbrev pub followed : List ℕ → ℕ → ℕ → List ℕ → PlainParts → List ℕ
followed counts words loop [] parts = []
followed counts words loop (step ∷ steps) NoParts = []
followed counts words loop (step ∷ steps) (AndParts part rest) =
    if is_step loop step part && nat_le (words + most counts rest) step
    then step ∷ followed counts words (loop + 1) steps rest
    else []

abbrev pub followed_by : ℕ → List ℕ → PlainExpr → List ℕ → List ℕ
followed_by lanes counts (Sum constant parts) steps =
    if are_values parts then followed counts (constant + lanes) 0 steps parts else []

-- ---- rounds

abbrev pub followed_op : ℕ → List ℕ → PlainOp → List ℕ → List ℕ
followed_op lanes counts (Load r array place) steps = followed_by lanes counts place steps
followed_op lanes counts (Store array place r) steps = followed_by lanes counts place steps
followed_op lanes counts (Zero r) steps = steps
followed_op lanes counts (Add r x y) steps = steps
followed_op lanes counts (Sub r x y) steps = steps
followed_op lanes counts (Neg r x) steps = steps
followed_op lanes counts (MulConst r x factor) steps = steps
followed_op lanes counts (MulTable r x table place entries) steps = steps
followed_op lanes counts (Tile r x) steps = steps

-- those that all places of straight statements go
abbrev pub followed_in : ℕ → List ℕ → PlainBody → List ℕ → List ℕ
followed_in lanes counts NoStmts steps = steps
followed_in lanes counts (AndStmts (Do op) rest) steps =
    followed_in lanes counts rest (followed_op lanes counts op steps)
followed_in lanes counts (AndStmts (Loop count body) rest) steps = followed_in lanes counts rest steps

-- the factors of parts, in their order
abbrev pub factors_of : PlainParts → List ℕ
factors_of NoParts = []
factors_of (AndParts (Proc factor) rest) = factors_of rest
factors_of (AndParts (Var depth factor) rest) = factor ∷ factors_of rest
factors_of (AndParts (Product outer inner factor) rest) = factors_of rest
factors_of (AndParts (Rem of divisor factor) rest) = factors_of rest
factors_of (AndParts (Quot of divisor factor) rest) = factors_of rest

abbrev pub first_steps : Option PlainParts → List ℕ
first_steps None = []
first_steps (Some parts) = factors_of parts

-- ---- nests

abbrev pub blocks_with : List ℕ → List ℕ → List Block
blocks_with [] steps = []
blocks_with (count ∷ counts) [] = []
blocks_with (count ∷ counts) (step ∷ steps) = record { count = count; step = step } ∷ blocks_with counts steps

-- the blocks of the loops of a nest, from the outermost inward as far as there are
abbrev pub blocks_of : ℕ → PlainStmt → List Block
blocks_of lanes (Loop count body) =
    let counts = count ∷ counts_in body in
    let round = round_in body in
    blocks_with counts (followed_in lanes counts round (first_steps (first_load round)))
blocks_of lanes (Do op) = []

-- how many of the first are the same
abbrev pub shared : List Block → List Block → ℕ
shared [] others = 0
shared (block ∷ blocks) [] = 0
shared (block ∷ blocks) (other ∷ others) =
    if (block.count == other.count) && (block.step == other.step) then suc (shared blocks others) else 0
