-- The limits within which programs stand.
use Rattle.std.specs.Prelude.{ℕ, suc, ◌+◌, ◌*◌, ◌^◌, ◌<◌, ◌≤◌, List, Bool, true, ◌&&◌, nat_lt, nat_le, max, length, IsTrue}
use Rattle.std.specs.List.{list_all}
use Rattle.icode.specs.Plain.{PlainExpr, PlainParts, PlainPart, PlainOp, PlainStmt, PlainBody, PlainProgram, Sum, NoParts, AndParts, Proc, Var, Product, Rem, Quot, Load, Store, Zero, Add, Sub, Neg, MulConst, MulTable, Tile, Loop, Do, NoStmts, AndStmts}
use Rattle.operators.specs.Sizes.{max_size}

-- numbers of expressions, loops, registers and tables
abbrev pub is_small : ℕ → Bool
is_small n = nat_lt n (2 ^ 32)

-- factors, divisors and loop counts, which are at least 1
abbrev pub is_small_positive : ℕ → Bool
is_small_positive n = nat_lt 0 n && is_small n

-- Parts stand by kind: a multiple of the processor's number, multiples of loops' values by rising
-- depth, of products of two by rising outer and then inner depth, of remainders, of quotients. Depths
-- are below 64
abbrev pub rank : PlainPart → ℕ
rank (Proc factor) = 0
rank (Var depth factor) = 1 + depth
rank (Product outer inner factor) = 65 + (outer * 64 + inner)
rank (Rem of divisor factor) = 5000
rank (Quot of divisor factor) = 5001

-- the least rank of what may stand after a part; only remainders and quotients may repeat
abbrev pub next_rank : PlainPart → ℕ
next_rank (Rem of divisor factor) = 5000
next_rank (Quot of divisor factor) = 5001
next_rank part = suc (rank part)

-- only open loops are named, the numbers are in their limits, and parts stand in their order
abbrev mutual
  pub is_sum_within : PlainExpr → ℕ → Bool
  is_sum_within (Sum constant parts) open_loops = is_small constant && are_parts_within parts open_loops 0

  pub are_parts_within : PlainParts → ℕ → ℕ → Bool
  are_parts_within NoParts open_loops least = true
  are_parts_within (AndParts part rest) open_loops least =
      is_part_within part open_loops && (nat_le least (rank part) && are_parts_within rest open_loops (next_rank part))

  pub is_part_within : PlainPart → ℕ → Bool
  is_part_within (Proc factor) open_loops = is_small_positive factor
  is_part_within (Var depth factor) open_loops = nat_lt depth open_loops && is_small_positive factor
  is_part_within (Product outer inner factor) open_loops =
      nat_lt outer inner && (nat_lt inner open_loops && is_small_positive factor)
  is_part_within (Rem of divisor factor) open_loops =
      is_sum_within of open_loops && (is_small_positive divisor && is_small_positive factor)
  is_part_within (Quot of divisor factor) open_loops =
      is_sum_within of open_loops && (is_small_positive divisor && is_small_positive factor)

-- how many parts there are at all levels together
abbrev mutual
  pub sum_parts : PlainExpr → ℕ
  sum_parts (Sum constant parts) = all_parts parts

  pub all_parts : PlainParts → ℕ
  all_parts NoParts = 0
  all_parts (AndParts part rest) = part_parts part + all_parts rest

  pub part_parts : PlainPart → ℕ
  part_parts (Rem of divisor factor) = 1 + sum_parts of
  part_parts (Quot of divisor factor) = 1 + sum_parts of
  part_parts part = 1

-- how many parentheses are open at once
abbrev mutual
  pub sum_depth : PlainExpr → ℕ
  sum_depth (Sum constant parts) = parts_depth parts

  pub parts_depth : PlainParts → ℕ
  parts_depth NoParts = 0
  parts_depth (AndParts part rest) = max (part_depth part) (parts_depth rest)

  pub part_depth : PlainPart → ℕ
  part_depth (Rem of divisor factor) = 1 + sum_depth of
  part_depth (Quot of divisor factor) = 1 + sum_depth of
  part_depth part = 0

abbrev pub is_expr_within : PlainExpr → ℕ → Bool
is_expr_within e open_loops = is_sum_within e open_loops && (nat_le (sum_parts e) 64 && nat_le (sum_depth e) 64)

-- for the modulus m
abbrev pub is_op_within : ℕ → PlainOp → ℕ → Bool
is_op_within m (Load register array place) open_loops = is_small register && is_expr_within place open_loops
is_op_within m (Store array place register) open_loops = is_small register && is_expr_within place open_loops
is_op_within m (Zero register) open_loops = is_small register
is_op_within m (Add register left right) open_loops = is_small register && (is_small left && is_small right)
is_op_within m (Sub register left right) open_loops = is_small register && (is_small left && is_small right)
is_op_within m (Neg register source) open_loops = is_small register && is_small source
is_op_within m (MulConst register source factor) open_loops = is_small register && (is_small source && nat_lt factor m)
is_op_within m (MulTable register source table place step) open_loops =
    is_small register && (is_small source && (is_small table && (nat_lt step 2 && is_expr_within place open_loops)))
is_op_within m (Tile register source) open_loops = is_small register && is_small source

abbrev mutual
  pub is_stmt_within : ℕ → PlainStmt → ℕ → Bool
  is_stmt_within m (Loop count body) open_loops =
      is_small_positive count && (nat_lt open_loops 64 && is_body_within m body (open_loops + 1))
  is_stmt_within m (Do op) open_loops = is_op_within m op open_loops

  pub is_body_within : ℕ → PlainBody → ℕ → Bool
  is_body_within m NoStmts open_loops = true
  is_body_within m (AndStmts stmt rest) open_loops = is_stmt_within m stmt open_loops && is_body_within m rest open_loops

abbrev pub are_tables_within : ℕ → List (List ℕ) → Bool
are_tables_within m tables = list_all (λ entries. nat_lt 0 (length entries) && list_all (λ c. nat_lt c m) entries) tables

abbrev pub are_phases_within : ℕ → List PlainBody → Bool
are_phases_within m phases = nat_lt 0 (length phases) && list_all (λ body. is_body_within m body 0) phases

pub record IsHeaderWithin (size modulus procs line lanes regs : ℕ) : Type 0 where
  pub of_size : (1 ≤ size) × (size ≤ max_size)
  pub of_modulus : (2 ≤ modulus) × (modulus < 2 ^ 62)
  pub of_procs : (1 ≤ procs) × (procs ≤ 16)
  pub of_line : (1 ≤ line) × (line ≤ 64)
  pub of_lanes : (1 ≤ lanes) × (lanes ≤ 16)
  pub of_regs : regs < 2 ^ 20

pub record IsWithinLimits (p : PlainProgram) : Type 0 where
  pub header : IsHeaderWithin p.size p.modulus p.procs p.line p.lanes p.regs
  pub constants : IsTrue (are_tables_within p.modulus p.tables)
  pub statements : IsTrue (are_phases_within p.modulus p.phases)
