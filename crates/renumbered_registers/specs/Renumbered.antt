-- Register renaming (Tomasulo, 1967): the registers of each run of operations get numbers in the order in which the run
-- puts them. A run stands between the beginnings and the ends of loops.
use Rattle.std.specs.Prelude.{ℕ, zero, suc, ◌+◌, ◌^◌, ◌==◌, ◌&&◌, Bool, true, false, not, nat_lt, max, List, [], ◌∷◌}
use Rattle.std.specs.Prelude.{Option}
use Rattle.std.specs.Prelude.{Some, None, option_map, if◌then◌else◌}
use Rattle.std.specs.List.{list_all}
use Rattle.icode.specs.Plain.{PlainOp, PlainStmt, PlainBody, PlainProgram, Load, Store, Zero, Add, Sub, Neg, MulConst}
use Rattle.icode.specs.Plain.{MulTable, Tile, Loop, Do, NoStmts, AndStmts}
use Rattle.nests.specs.Rounds.{is_fresh, put_after}

-- ---- the numbers of a run's registers

-- how many registers a run has put so far, and the number of each
pub record Numbering : Type 0 where
  pub next : ℕ
  pub numbers : ℕ → Option ℕ

abbrev pub no_numbers : Numbering
no_numbers = record { next = 0; numbers = λ r. None }

-- the register is put, and gets the next number
abbrev pub put : ℕ → Numbering → Numbering
put r z = record { next = z.next + 1; numbers = λ k. if k == r then Some z.next else z.numbers k }

-- so are a number of registers, from this one on
abbrev pub put_all : ℕ → ℕ → Numbering → Numbering
put_all zero r z = z
put_all (suc n) r z = put_all n (r + 1) (put r z)

abbrev pub is_number : ℕ → Option ℕ → Bool
is_number n None = false
is_number n (Some k) = k == n

-- a number of registers, from r on, have the numbers from n on
abbrev pub are_consecutive : ℕ → ℕ → ℕ → Numbering → Bool
are_consecutive zero r n z = true
are_consecutive (suc count) r n z = is_number n (z.numbers r) && are_consecutive count (r + 1) (n + 1) z

-- ---- operations

abbrev pub of_two : {X : Type 0} → (ℕ → ℕ → X) → Option ℕ → Option ℕ → Option X
of_two f (Some x) (Some y) = Some (f x y)
of_two f _ _ = None

-- the tile of registers that have consecutive numbers
abbrev pub tile_from : ℕ → Numbering → ℕ → ℕ → Option ℕ → Option PlainOp
tile_from lanes z r x None = None
tile_from lanes z r x (Some n) = if are_consecutive lanes x n z then Some (Tile r n) else None

-- the operation with its sources' numbers in place of them, if all of them have been put
abbrev pub with_sources : ℕ → Numbering → PlainOp → Option PlainOp
with_sources lanes z (Load r array place) = Some (Load r array place)
with_sources lanes z (Store array place r) = option_map (Store array place) (z.numbers r)
with_sources lanes z (Zero r) = Some (Zero r)
with_sources lanes z (Add r x y) = of_two (Add r) (z.numbers x) (z.numbers y)
with_sources lanes z (Sub r x y) = of_two (Sub r) (z.numbers x) (z.numbers y)
with_sources lanes z (Neg r x) = option_map (Neg r) (z.numbers x)
with_sources lanes z (MulConst r x factor) = option_map (λ n. MulConst r n factor) (z.numbers x)
with_sources lanes z (MulTable r x table place step) = option_map (λ n. MulTable r n table place step) (z.numbers x)
with_sources lanes z (Tile r x) = tile_from lanes z r x (z.numbers x)

-- the operation that puts this register, or those from it on
abbrev pub with_put : ℕ → PlainOp → PlainOp
with_put n (Load r array place) = Load n array place
with_put n (Store array place r) = Store array place r
with_put n (Zero r) = Zero n
with_put n (Add r x y) = Add n x y
with_put n (Sub r x y) = Sub n x y
with_put n (Neg r x) = Neg n x
with_put n (MulConst r x factor) = MulConst n x factor
with_put n (MulTable r x table place step) = MulTable n x table place step
with_put n (Tile r x) = Tile n x

abbrev pub numbered_op : ℕ → Numbering → PlainOp → Option PlainOp
numbered_op lanes z op = option_map (with_put z.next) (with_sources lanes z op)

abbrev pub after_op : ℕ → Numbering → PlainOp → Numbering
after_op lanes z (Load r array place) = put r z
after_op lanes z (Store array place r) = z
after_op lanes z (Zero r) = put r z
after_op lanes z (Add r x y) = put r z
after_op lanes z (Sub r x y) = put r z
after_op lanes z (Neg r x) = put r z
after_op lanes z (MulConst r x factor) = put r z
after_op lanes z (MulTable r x table place step) = put r z
after_op lanes z (Tile r x) = put_all lanes r z

-- ---- statements

abbrev pub and_stmts : Option PlainStmt → Option PlainBody → Option PlainBody
and_stmts (Some stmt) (Some rest) = Some (AndStmts stmt rest)
and_stmts _ _ = None

abbrev pub after_stmt : ℕ → Numbering → PlainStmt → Numbering
after_stmt lanes z (Loop count body) = no_numbers
after_stmt lanes z (Do op) = after_op lanes z op

-- a run begins where a loop begins, and where it ends
abbrev mutual
  pub numbered_stmt : ℕ → Numbering → PlainStmt → Option PlainStmt
  numbered_stmt lanes z (Loop count body) = option_map (Loop count) (numbered_body lanes no_numbers body)
  numbered_stmt lanes z (Do op) = option_map Do (numbered_op lanes z op)

  pub numbered_body : ℕ → Numbering → PlainBody → Option PlainBody
  numbered_body lanes z NoStmts = Some NoStmts
  numbered_body lanes z (AndStmts stmt rest) =
      and_stmts (numbered_stmt lanes z stmt) (numbered_body lanes (after_stmt lanes z stmt) rest)

-- ---- programs

-- the most registers that a run puts, where the first one has put some already
abbrev pub most_put : ℕ → ℕ → PlainBody → ℕ
most_put lanes next NoStmts = next
most_put lanes next (AndStmts (Do op) rest) = most_put lanes (put_after lanes next op) rest
most_put lanes next (AndStmts (Loop count body) rest) = max next (max (most_put lanes 0 body) (most_put lanes 0 rest))

-- each run puts its registers in order already
abbrev pub are_in_order : ℕ → ℕ → PlainBody → Bool
are_in_order lanes next NoStmts = true
are_in_order lanes next (AndStmts (Do op) rest) =
    is_fresh lanes next op && are_in_order lanes (put_after lanes next op) rest
are_in_order lanes next (AndStmts (Loop count body) rest) = are_in_order lanes 0 body && are_in_order lanes 0 rest

abbrev pub and_phases : Option PlainBody → Option (List PlainBody) → Option (List PlainBody)
and_phases (Some body) (Some rest) = Some (body ∷ rest)
and_phases _ _ = None

abbrev pub numbered_phases : ℕ → List PlainBody → Option (List PlainBody)
numbered_phases lanes [] = Some []
numbered_phases lanes (body ∷ rest) = and_phases (numbered_body lanes no_numbers body) (numbered_phases lanes rest)

-- how many registers the phases need
abbrev pub registers_for : ℕ → List PlainBody → ℕ
registers_for lanes [] = 0
registers_for lanes (body ∷ rest) = max (most_put lanes 0 body) (registers_for lanes rest)

-- the program with these phases, and at least so many registers
abbrev pub with_numbers : ℕ → PlainProgram → Option (List PlainBody) → PlainProgram
with_numbers regs p None = p
with_numbers regs p (Some phases) = record p { regs = max p.regs regs; phases = phases }

-- A program whose registers are in order stays as it is. So does one that needs too many registers, or where a run
-- reads a register that it has not put, or a tile's registers would not stand one after the other
abbrev pub renumbered : PlainProgram → PlainProgram
renumbered p =
    if not (list_all (are_in_order p.lanes 0) p.phases) && nat_lt (registers_for p.lanes p.phases) (2 ^ 20)
    then with_numbers (registers_for p.lanes p.phases) p (numbered_phases p.lanes p.phases)
    else p
