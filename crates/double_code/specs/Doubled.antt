-- The program on doubles of a program: for each register a number that it never passes, and reductions where a sum or a
-- factor would pass what doubles hold.
use Rattle.std.specs.Prelude.{ℕ, zero, suc, ◌+◌, ◌-◌, ◌*◌, ◌/◌, ◌^◌, List, [], ◌∷◌, map, max, min, replicate}
use Rattle.std.specs.Prelude.{nat_le, ℤ, pos}
use Rattle.std.specs.Prelude.{if◌then◌else◌, slice_index_or, slice_set}
use Rattle.icode.specs.declared.program.Array.{Array}
use Rattle.icode.specs.Headers.{without_statements}
use Rattle.icode.specs.Machine.{with_words}
use Rattle.icode.specs.Plain.{PlainOp, PlainStmt, PlainBody, PlainProgram, Load, Store, Zero, Add, Sub, Neg, MulConst}
use Rattle.icode.specs.Plain.{MulTable, Tile}
use Rattle.icode.specs.Plain as plain
use Rattle.double_code.specs.DoubleProgram.{DoubleNote, DoubleStmt, DoubleBody, PlainDoubleProgram, Loop, Do, NoStmts}
use Rattle.double_code.specs.DoubleProgram.{AndStmts, has_residues}
use Rattle.double_code.specs.Factors.{centred}
use Rattle.double_code.specs.Products.{product_bound}
use Rattle.double_code.specs.Reductions.{limit_of}

-- what a factor's number may be at most
abbrev pub most_of : ℕ → ℕ
most_of m = min (2 ^ 52 - 2) (limit_of m)

-- what a number is at most after a reduction
abbrev pub reduced_bound : ℕ → ℕ
reduced_bound m = m / 2 + 1

-- what the words of an array are at most: residues, or what any product is at most
abbrev pub array_bound : ℕ → Array → ℕ
array_bound m array = if has_residues array then m else m + 1

abbrev pub bound_at : ℕ → List ℕ → ℕ → ℕ
bound_at m bounds r = slice_index_or bounds r (limit_of m)

abbrev pub greater : ℕ → ℕ → ℕ → List ℕ → ℕ
greater m x y bounds = if nat_le (bound_at m bounds y) (bound_at m bounds x) then x else y

pub record Settled : Type 0 where
  pub before : List ℕ
  pub bounds : List ℕ

abbrev pub then_settled : ℕ → Settled → Settled
then_settled r rest = record { before = r ∷ rest.before; bounds = rest.bounds }

-- the greater of two registers is reduced, at most so often, until their bounds together are at most the target
abbrev pub settled_to : ℕ → ℕ → ℕ → ℕ → ℕ → List ℕ → Settled
settled_to m zero x y target bounds = record { before = []; bounds = bounds }
settled_to m (suc n) x y target bounds =
    if nat_le (bound_at m bounds x + bound_at m bounds y) target then record { before = []; bounds = bounds }
    else let r = greater m x y bounds in
    then_settled r (settled_to m n x y target (slice_set bounds r (reduced_bound m)))

-- the greatest bound of n registers from x on, or 0
abbrev pub greatest_bound : ℕ → List ℕ → ℕ → ℕ → ℕ
greatest_bound m bounds zero x = 0
greatest_bound m bounds (suc n) x = max (bound_at m bounds x) (greatest_bound m bounds n (x + 1))

pub record Noted : Type 0 where
  pub note : DoubleNote
  pub bounds : List ℕ

abbrev pub no_note : DoubleNote
no_note = record { before = []; factor = pos 0 }

-- a register that gets a number of at most this, once some registers are reduced
abbrev pub put_after : Settled → ℕ → ℕ → Noted
put_after s r bound =
    record { note = record { before = s.before; factor = pos 0 }; bounds = slice_set s.bounds r bound }

-- a product of a register, which is reduced where it may be too great
abbrev pub product_noted : ℕ → ℕ → ℕ → ℤ → List ℕ → Noted
product_noted m r x factor bounds =
    let s = settled_to m 2 x x (2 * most_of m) bounds in
    record {
      note = record { before = s.before; factor = factor };
      bounds = slice_set s.bounds r (product_bound m (bound_at m s.bounds x));
    }

-- a store, whose register is reduced where it may be too great for the array
abbrev pub store_noted : ℕ → Array → ℕ → List ℕ → Noted
store_noted m array r bounds =
    if has_residues array then record { note = no_note; bounds = bounds }
    else let s = settled_to m 2 r r (2 * array_bound m array) bounds in
    record { note = record { before = s.before; factor = pos 0 }; bounds = s.bounds }

-- the note of an operation, where the registers have these bounds, and the bounds after it
abbrev pub noted : ℕ → ℕ → PlainOp → List ℕ → Noted
noted m lanes (Load r array place) bounds =
    record { note = no_note; bounds = slice_set bounds r (array_bound m array) }
noted m lanes (Store array place r) bounds = store_noted m array r bounds
noted m lanes (Zero r) bounds = record { note = no_note; bounds = slice_set bounds r 0 }
noted m lanes (Add r x y) bounds =
    let s = settled_to m 2 x y (limit_of m) bounds in
    put_after s r (min (limit_of m) (bound_at m s.bounds x + bound_at m s.bounds y))
noted m lanes (Sub r x y) bounds =
    let s = settled_to m 2 x y (limit_of m) bounds in
    put_after s r (min (limit_of m) (bound_at m s.bounds x + bound_at m s.bounds y))
noted m lanes (Neg r x) bounds = record { note = no_note; bounds = slice_set bounds r (bound_at m bounds x) }
noted m lanes (MulConst r x factor) bounds = product_noted m r x (centred m factor) bounds
noted m lanes (MulTable r x table place step) bounds = product_noted m r x (pos 0) bounds
noted m lanes (Tile r x) bounds =
    record { note = no_note; bounds = with_words bounds r (replicate lanes (greatest_bound m bounds lanes x)) }

-- the header of the program
pub record Header : Type 0 where
  pub modulus : ℕ
  pub lanes : ℕ
  pub regs : ℕ

-- nothing is known but the limit
abbrev pub loosest : Header → List ℕ
loosest h = replicate h.regs (limit_of h.modulus)

pub record DoubledStmt : Type 0 where
  pub stmt : DoubleStmt
  pub bounds : List ℕ

pub record DoubledBody : Type 0 where
  pub body : DoubleBody
  pub bounds : List ℕ

abbrev pub doubled_do : PlainOp → Noted → DoubledStmt
doubled_do op n = record { stmt = Do n.note op; bounds = n.bounds }

abbrev pub doubled_and : DoubleStmt → DoubledBody → DoubledBody
doubled_and stmt rest = record { body = AndStmts stmt rest.body; bounds = rest.bounds }

-- nothing is known where a turn of a loop begins and where it ends
abbrev mutual
  pub doubled_stmt : Header → PlainStmt → List ℕ → DoubledStmt
  doubled_stmt h (plain.Loop count body) bounds =
      record { stmt = Loop count (doubled_body h body (loosest h)).body; bounds = loosest h }
  doubled_stmt h (plain.Do op) bounds = doubled_do op (noted h.modulus h.lanes op bounds)

  pub doubled_body : Header → PlainBody → List ℕ → DoubledBody
  doubled_body h plain.NoStmts bounds = record { body = NoStmts; bounds = bounds }
  doubled_body h (plain.AndStmts stmt rest) bounds =
      let one = doubled_stmt h stmt bounds in doubled_and one.stmt (doubled_body h rest one.bounds)

-- the statements of a phase on doubles
abbrev pub doubled_phase : Header → PlainBody → DoubleBody
doubled_phase h body = (doubled_body h body (loosest h)).body

abbrev pub factors_of : ℕ → List (List ℕ) → List (List ℤ)
factors_of m tables = map (λ entries. map (centred m) entries) tables

abbrev pub header_of : PlainProgram → Header
header_of p = record { modulus = p.modulus; lanes = p.lanes; regs = p.regs }

-- the program on doubles
abbrev pub doubled : PlainProgram → PlainDoubleProgram
doubled p =
    record {
      frame = without_statements p;
      factors = factors_of p.modulus p.tables;
      phases = map (doubled_phase (header_of p)) p.phases;
    }
