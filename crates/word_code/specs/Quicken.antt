-- The program on words of a program: a bound for each register, in multiples
-- of the modulus, and reductions where a sum of bounds would pass the limit.
use Rattle.std.specs.Prelude.{ℕ, zero, suc, ◌+◌, ◌-◌, ◌*◌, ◌/◌, ◌==◌, List, [], ◌∷◌, map, max, replicate, min, nat_le}
use Rattle.std.specs.Prelude.{if◌then◌else◌, slice_index_or, slice_set}
use Rattle.icode.specs.declared.program.Array.{Array}
use Rattle.icode.specs.declared.program.Array.TheVariants.{X, Y, A, B}
use Rattle.icode.specs.Headers.{without_statements}
use Rattle.icode.specs.Machine.{with_words}
use Rattle.icode.specs.Plain.{PlainOp, PlainStmt, PlainBody, PlainProgram, Load, Store, Zero, Add, Sub, Neg, MulConst}
use Rattle.icode.specs.Plain.{MulTable, Tile}
use Rattle.icode.specs.Plain as plain
use Rattle.word_code.specs.declared.needs.Needs.{Needs}
use Rattle.word_code.specs.Needs.{needs}
use Rattle.word_code.specs.Words.{Width, base_of, quotient_of, product_bound}
use Rattle.word_code.specs.declared.program.Reduction.{Reduction}
use Rattle.word_code.specs.WordProgram.{Note, WordStmt, WordBody, PlainWordProgram, Loop, Do, NoStmts, AndStmts}

-- what the words of A and of B are below, in multiples of the modulus
pub record Kept : Type 0 where
  pub of_a : ℕ
  pub of_b : ℕ

-- How lazy a program on words is: the words of registers are below `limit` times the modulus
pub record PlainLaziness : Type 0 where
  pub width : Width
  pub kept : Kept
  pub limit : ℕ

abbrev pub bound_at : ℕ → List ℕ → ℕ → ℕ
bound_at limit bounds r = slice_index_or bounds r limit

-- half of a bound, rounded up
abbrev pub half_up : ℕ → ℕ
half_up b = (b + 1) / 2

abbrev pub greater : ℕ → ℕ → ℕ → List ℕ → ℕ
greater limit x y bounds = if nat_le (bound_at limit bounds y) (bound_at limit bounds x) then x else y

pub record Settled : Type 0 where
  pub reductions : List Reduction
  pub bounds : List ℕ

abbrev pub then_settled : Reduction → Settled → Settled
then_settled r rest = record { reductions = r ∷ rest.reductions; bounds = rest.bounds }

-- the greater of two registers is halved, at most so often, until their bounds together are at most the target
abbrev pub settled : ℕ → ℕ → ℕ → ℕ → ℕ → ℕ → List ℕ → Settled
settled m limit zero x y target bounds = record { reductions = []; bounds = bounds }
settled m limit (suc n) x y target bounds =
    if nat_le (bound_at limit bounds x + bound_at limit bounds y) target
    then record { reductions = []; bounds = bounds }
    else let r = greater limit x y bounds in
    let h = half_up (bound_at limit bounds r) in
    then_settled (record { register = r; amount = h * m }) (settled m limit n x y target (slice_set bounds r h))

-- the bound of the words of an array
abbrev pub array_bound : Kept → Array → ℕ
array_bound kept X = 1
array_bound kept Y = 1
array_bound kept A = kept.of_a
array_bound kept B = kept.of_b

-- the greatest bound of n registers from x on, or 0
abbrev pub greatest_bound : ℕ → List ℕ → ℕ → ℕ → ℕ
greatest_bound limit bounds zero x = 0
greatest_bound limit bounds (suc n) x = max (bound_at limit bounds x) (greatest_bound limit bounds n (x + 1))

pub record Noted : Type 0 where
  pub note : Note
  pub bounds : List ℕ

abbrev pub no_note : Note
no_note = record { before = []; bias = 0; quotient = 0 }

-- the note of an operation, where the registers have these bounds, and the bounds after it
abbrev pub noted : PlainLaziness → ℕ → ℕ → PlainOp → List ℕ → Noted
noted z m lanes (Load r array place) bounds = record {
  note = no_note;
  bounds = slice_set bounds r (array_bound z.kept array);
}
noted z m lanes (Store array place r) bounds =
    let s = settled m z.limit (2 * z.limit) r r (2 * array_bound z.kept array) bounds in
    record { note = record { before = s.reductions; bias = 0; quotient = 0 }; bounds = s.bounds }
noted z m lanes (Zero r) bounds = record { note = no_note; bounds = slice_set bounds r 1 }
noted z m lanes (Add r x y) bounds =
    let s = settled m z.limit (2 * z.limit) x y z.limit bounds in
    record {
      note = record { before = s.reductions; bias = 0; quotient = 0 };
      bounds = slice_set s.bounds r (min z.limit (bound_at z.limit s.bounds x + bound_at z.limit s.bounds y));
    }
noted z m lanes (Sub r x y) bounds =
    let s = settled m z.limit (2 * z.limit) x y z.limit bounds in
    record {
      note = record { before = s.reductions; bias = bound_at z.limit s.bounds y * m; quotient = 0 };
      bounds = slice_set s.bounds r (min z.limit (bound_at z.limit s.bounds x + bound_at z.limit s.bounds y));
    }
noted z m lanes (Neg r x) bounds =
    let s = settled m z.limit (2 * z.limit) x x (2 * (z.limit - 1)) bounds in
    record {
      note = record { before = s.reductions; bias = bound_at z.limit s.bounds x * m; quotient = 0 };
      bounds = slice_set s.bounds r (min z.limit (bound_at z.limit s.bounds x + 1));
    }
noted z m lanes (MulConst r x factor) bounds =
    record {
      note = record { before = []; bias = 0; quotient = quotient_of (base_of z.width) m factor };
      bounds = slice_set bounds r (product_bound z.width);
    }
noted z m lanes (MulTable r x table place step) bounds = record {
  note = no_note;
  bounds = slice_set bounds r (product_bound z.width);
}
noted z m lanes (Tile r x) bounds =
    record { note = no_note; bounds = with_words bounds r (replicate lanes (greatest_bound z.limit bounds lanes x)) }

-- the words of A and of B may be as great as those of registers, where nothing needs them smaller
abbrev pub loosened : PlainLaziness → Needs → PlainLaziness
loosened z n =
    record z {
      kept = record {
        of_a = if n.of_a then z.kept.of_a else z.limit;
        of_b = if n.of_b then z.kept.of_b else z.limit;
      };
    }

-- the header of the program that is quickened
pub record Header : Type 0 where
  pub modulus : ℕ
  pub lanes : ℕ
  pub regs : ℕ

-- nothing is known but the limit
abbrev pub loosest : PlainLaziness → Header → List ℕ
loosest z h = replicate h.regs z.limit

pub record QuickStmt : Type 0 where
  pub stmt : WordStmt
  pub bounds : List ℕ

pub record QuickBody : Type 0 where
  pub body : WordBody
  pub bounds : List ℕ

abbrev pub quick_do : PlainOp → Noted → QuickStmt
quick_do op n = record { stmt = Do n.note op; bounds = n.bounds }

abbrev pub quick_and : WordStmt → QuickBody → QuickBody
quick_and stmt rest = record { body = AndStmts stmt rest.body; bounds = rest.bounds }

-- nothing is known where a turn of a loop begins and where it ends
abbrev mutual
  pub quick_stmt : PlainLaziness → Header → PlainStmt → List ℕ → QuickStmt
  quick_stmt z h (plain.Loop count body) bounds =
      record { stmt = Loop count (quick_body z h body (loosest z h)).body; bounds = loosest z h }
  quick_stmt z h (plain.Do op) bounds = quick_do op (noted z h.modulus h.lanes op bounds)

  pub quick_body : PlainLaziness → Header → PlainBody → List ℕ → QuickBody
  quick_body z h plain.NoStmts bounds = record { body = NoStmts; bounds = bounds }
  quick_body z h (plain.AndStmts stmt rest) bounds =
      let one = quick_stmt z h stmt bounds in quick_and one.stmt (quick_body z h rest one.bounds)

-- the statements of a phase on words
abbrev pub quick_phase : PlainLaziness → Header → PlainBody → WordBody
quick_phase z h body = (quick_body z h body (loosest z h)).body

-- ---- one processor and one phase: the words of A and of B may be as great as those of registers, from where on they
-- are but multiplied

-- the statement, where the words of A and of B may be as great as what is left of the phase allows
abbrev pub quick_alone : PlainLaziness → Header → PlainBody → List ℕ → QuickBody
quick_alone z h plain.NoStmts bounds = record { body = NoStmts; bounds = bounds }
quick_alone z h (plain.AndStmts stmt rest) bounds =
    let one = quick_stmt (loosened z (needs (plain.AndStmts stmt rest))) h stmt bounds in
    quick_and one.stmt (quick_alone z h rest one.bounds)

-- the statements of all phases on words, given how many processors there are
abbrev pub quick_phases : PlainLaziness → Header → ℕ → List PlainBody → List WordBody
quick_phases z h procs (body ∷ []) =
    (if procs == 1 then (quick_alone z h body (loosest z h)).body else quick_phase z h body) ∷ []
quick_phases z h procs phases = map (quick_phase z h) phases

abbrev pub quotients_of : PlainLaziness → ℕ → List (List ℕ) → List (List ℕ)
quotients_of z m tables = map (λ entries. map (quotient_of (base_of z.width) m) entries) tables

abbrev pub header_of : PlainProgram → Header
header_of p = record { modulus = p.modulus; lanes = p.lanes; regs = p.regs }

-- the program on words
abbrev pub quickened : PlainLaziness → PlainProgram → PlainWordProgram
quickened z p =
    record {
      width = z.width;
      frame = without_statements p;
      quotients = quotients_of z p.modulus p.tables;
      phases = quick_phases z (header_of p) p.procs p.phases;
    }
