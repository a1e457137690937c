-- Rounds of an innermost loop, as lists of operations. What makes
-- a number of rounds, one after the other, one of as many lanes.
use Rattle.std.specs.Prelude.{ℕ, ◌+◌, ◌*◌, ◌==◌, ◌&&◌, ◌||◌, Bool, true, false, not, nat_le, List, [], ◌∷◌, filter}
use Rattle.std.specs.Prelude.{if◌then◌else◌}
use Rattle.std.specs.List.{list_all}
use Rattle.icode.specs.Plain.{PlainExpr, PlainParts, PlainOp, Sum, NoParts, AndParts, Var, Load, Store}
use Rattle.icode.specs.Plain.{Zero, Add, Sub, Neg, MulConst, MulTable, Tile}
use Rattle.nests.specs.Places.{is_linear, stride, same_parts}
use Rattle.nests.specs.Rounds.{Stored, same_array}

-- ---- straight statements

abbrev pub is_store : PlainOp → Bool
is_store (Load r array place) = false
is_store (Store array place r) = true
is_store (Zero r) = false
is_store (Add r x y) = false
is_store (Sub r x y) = false
is_store (Neg r x) = false
is_store (MulConst r x factor) = false
is_store (MulTable r x table place step) = false
is_store (Tile r x) = false

abbrev pub stores : List PlainOp → List PlainOp
stores ops = filter is_store ops

abbrev pub others : List PlainOp → List PlainOp
others ops = filter (λ op. not (is_store op)) ops

-- what each store stores, and the constant of its place, in their order
abbrev pub stored_registers : List PlainOp → List ℕ
stored_registers [] = []
stored_registers (Store array place r ∷ ops) = r ∷ stored_registers ops
stored_registers (op ∷ ops) = stored_registers ops

abbrev pub stored_constants : List PlainOp → List ℕ
stored_constants [] = []
stored_constants (Store array (Sum constant parts) r ∷ ops) = constant ∷ stored_constants ops
stored_constants (op ∷ ops) = stored_constants ops

-- numbers one after the other, from this one on
abbrev pub are_from : ℕ → List ℕ → Bool
are_from n [] = true
are_from n (k ∷ ks) = (k == n) && are_from (n + 1) ks

-- ---- places

-- the multiple of the value of the loop at this depth, where a step is as wide as v of its rounds
abbrev pub widened_parts : ℕ → ℕ → PlainParts → PlainParts
widened_parts v loop NoParts = NoParts
widened_parts v loop (AndParts (Var depth factor) rest) =
    if depth == loop
    then AndParts (Var depth (v * factor)) rest
    else AndParts (Var depth factor) (widened_parts v loop rest)
widened_parts v loop (AndParts part rest) = AndParts part (widened_parts v loop rest)

abbrev pub widened : ℕ → ℕ → PlainExpr → PlainExpr
widened v loop (Sum constant parts) = Sum constant (widened_parts v loop parts)

-- how far a place goes in a step of the loop at this depth
abbrev pub place_stride : ℕ → PlainExpr → ℕ
place_stride loop (Sum constant parts) = stride loop parts

-- ---- operations that can be done in lanes

-- loads are of words one after the other, from another array
-- than the stores; an entry of a table stays, or steps by one
abbrev pub is_by_lane : ℕ → Stored → PlainOp → Bool
is_by_lane loop to (Load r array place) =
    not (same_array array to.array) && (is_linear place && (place_stride loop place == 1))
is_by_lane loop to (Store array (Sum constant parts) r) = same_array array to.array && same_parts parts to.parts
is_by_lane loop to (Zero r) = true
is_by_lane loop to (Add r x y) = true
is_by_lane loop to (Sub r x y) = true
is_by_lane loop to (Neg r x) = true
is_by_lane loop to (MulConst r x factor) = true
is_by_lane loop to (MulTable r x table place step) = is_linear place && nat_le (place_stride loop place) 1
is_by_lane loop to (Tile r x) = false

-- ---- rows: stores are of words one after the other

-- the words of the lanes from each constant on meet those from no other
abbrev pub is_clear : ℕ → ℕ → ℕ → Bool
is_clear v a b = nat_le (a + v) b || nat_le (b + v) a

abbrev pub are_clear : ℕ → List ℕ → Bool
are_clear v [] = true
are_clear v (k ∷ ks) = list_all (is_clear v k) ks && are_clear v ks

abbrev pub are_rows : ℕ → ℕ → Stored → List PlainOp → Bool
are_rows v loop to ops =
    (stride loop to.parts == 1)
    && (list_all (is_by_lane loop to) ops && are_clear v (stored_constants ops))

-- the operation on the lanes of v rounds
abbrev pub in_row : ℕ → ℕ → PlainOp → PlainOp
in_row v loop (Load r array place) = Load r array (widened v loop place)
in_row v loop (Store array place r) = Store array (widened v loop place) r
in_row v loop (MulTable r x table place step) = MulTable r x table (widened v loop place) (place_stride loop place)
in_row v loop op = op
