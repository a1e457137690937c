-- What operations leave of a processor's registers.
use Rattle.std.specs.Prelude.{ℕ, ◌+◌, ◌*◌, List, slice_index}
use Rattle.ring_mod.specs.Residue.{product_mod}
use Rattle.icode.specs.declared.arithmetic.Operation.{Operation}
use Rattle.icode.specs.declared.shape.Shape.{Shape}
use Rattle.icode.specs.Actions.{lane_factors}
use Rattle.icode.specs.Machine.{lane_by_lane, register_of, with_words}
use Rattle.icode.specs.Operation.{operated}

-- one of them holds these words, and the others are as they were
abbrev pub with_register : Shape → List ℕ → ℕ → List ℕ → List ℕ
with_register shape registers register words = with_words registers (register * shape.lanes) words

-- what the operation makes of two of them, lane by lane
abbrev pub combined : Operation → Shape → List ℕ → ℕ → ℕ → List ℕ
combined operation shape registers left right =
    lane_by_lane (operated operation shape.modulus)
    (register_of shape.lanes registers left) (register_of shape.lanes registers right)

-- one of them is another, lane by lane, times the factors
abbrev pub scaled : Shape → List ℕ → ℕ → ℕ → List ℕ → List ℕ
scaled shape registers register source factors =
    with_register shape registers register
    (lane_by_lane (product_mod shape.modulus) (register_of shape.lanes registers source) factors)

-- the factor of each lane, from the table's entry at the place on
abbrev pub table_factors : ℕ → List ℕ → ℕ → ℕ → List ℕ
table_factors lanes entries place step = lane_factors lanes (λ lane. slice_index entries (place + step * lane))
