-- Where registers are renumbered and loops interchanged, each statement has as many lines as before.
use Rattle.std.proofs.Common.{◌≡◌, ℕ, ◌+◌, Bool, true, false, List, [], ◌∷◌, length, map, Option, Some, None, refl, sym}
use Rattle.std.proofs.Common.{ap, ap₂, ◌∙◌, arith}
use Rattle.std.specs.Prelude.{◌==◌, ◌^◌, ◌&&◌, not, nat_lt, option_map, if◌then◌else◌}
use Rattle.std.specs.List.{list_all}
use Rattle.icode.specs.Plain.{PlainOp, PlainStmt, PlainBody, PlainProgram, Loop, Do, NoStmts, AndStmts}
use Rattle.nests.specs.Rounds.{are_independent, first_store, first_load}
use Rattle.nests.specs.Nests.{are_nests, counts_in, round_in, looped}
use Rattle.nests.proofs.Counts.{looped_is}
use Rattle.interchange.specs.Exchanged.{exchanged_round}
use Rattle.interchange.specs.Interchanged.{Nest, nest_stmt, steps_less, sunk, within, ordered, interchanged_nest}
use Rattle.interchange.specs.Interchanged.{interchanged_body, interchanged}
use Rattle.renumbered_registers.specs.Renumbered.{Numbering, no_numbers, numbered_op, after_stmt, numbered_stmt}
use Rattle.renumbered_registers.specs.Renumbered.{numbered_body, and_stmts, and_phases, numbered_phases, with_numbers}
use Rattle.renumbered_registers.specs.Renumbered.{registers_for, are_in_order, renumbered}
use Rattle.fast_main.specs.Lines.{lines_of_stmt, lines_of_body, line_in_body, line_in_phases, statement_line}

-- ---- the lines of each statement

abbrev each : PlainBody → List ℕ
each NoStmts = []
each (AndStmts stmt rest) = lines_of_stmt stmt ∷ each rest

abbrev total : List ℕ → ℕ
total [] = 0
total (k ∷ ks) = k + total ks

abbrev line_among : ℕ → ℕ → ℕ → List ℕ → ℕ
line_among number at line [] = line
line_among number at line (k ∷ ks) = if at == number then line else line_among number (at + 1) (line + k) ks

abbrev line_among_all : ℕ → ℕ → ℕ → ℕ → List (List ℕ) → ℕ
line_among_all phase number at line [] = line
line_among_all phase number at line (ks ∷ kss) =
    if at == phase
    then line_among number 0 (line + 1) ks
    else line_among_all phase number (at + 1) (line + (total ks + 2)) kss

total_is : (body : PlainBody) → lines_of_body body ≡ total (each body)
total_is NoStmts = refl
total_is (AndStmts stmt rest) = ap (λ n. lines_of_stmt stmt + n) (total_is rest)

among_is : (number at line : ℕ) (body : PlainBody) →
    line_in_body number at line body ≡ line_among number at line (each body)
among_is number at line NoStmts = refl
among_is number at line (AndStmts stmt rest) =
    ap (λ n. if at == number then line else n) (among_is number (at + 1) (line + lines_of_stmt stmt) rest)

all_is : (phase number at line : ℕ) (phases : List PlainBody) →
    line_in_phases phase number at line phases ≡ line_among_all phase number at line (map each phases)
all_is phase number at line [] = refl
all_is phase number at line (body ∷ phases) =
    ap₂ (λ a b. if at == phase then a else b) (among_is number 0 (line + 1) body)
    (ap (λ n. line_in_phases phase number (at + 1) (line + (n + 2)) phases) (total_is body)
    ∙ all_is phase number (at + 1) (line + (total (each body) + 2)) phases)

-- ---- interchanged loops

abbrev depth : List ℕ → ℕ
depth [] = 0
depth (count ∷ counts) = depth counts + 2

looped_lines : (counts : List ℕ) (round : PlainBody) →
    lines_of_body (looped counts round) ≡ depth counts + lines_of_body round
looped_lines [] round = omega arith
looped_lines (count ∷ counts) round = omega (arith, looped_lines counts round)

abbrev size : Nest → ℕ
size nest = depth nest.inner + lines_of_body nest.round

size_if : (b : Bool) (x y : Nest) (n : ℕ) → size x ≡ n → size y ≡ n → size (if b then x else y) ≡ n
size_if true x y n p q = p
size_if false x y n p q = q

exchanged_lines : (loop : ℕ) (round : PlainBody) → lines_of_body (exchanged_round loop round) ≡ lines_of_body round
exchanged_lines loop NoStmts = refl
exchanged_lines loop (AndStmts (Do op) rest) = ap (λ n. 1 + n) (exchanged_lines loop rest)
exchanged_lines loop (AndStmts (Loop count body) rest) =
    ap (λ n. lines_of_stmt (Loop count body) + n) (exchanged_lines loop rest)

sunk_size : (loop outer : ℕ) (counts : List ℕ) (round : PlainBody) →
    size (sunk loop outer counts round) ≡ depth counts + lines_of_body round
sunk_size loop outer [] round = refl
sunk_size loop outer (count ∷ counts) round =
    let inner = sunk (loop + 1) outer counts (exchanged_round loop round) in
    size_if (steps_less loop (first_load round)) (within count inner)
    (record { outer = outer; inner = count ∷ counts; round = round }) (depth (count ∷ counts) + lines_of_body round)
    (gone_in inner (sunk_size (loop + 1) outer counts (exchanged_round loop round))) refl
  where
    gone_in : (inner : Nest) → size inner ≡ depth counts + lines_of_body (exchanged_round loop round) →
        size (within count inner) ≡ depth counts + 2 + lines_of_body round
    gone_in inner e = omega (arith, e, exchanged_lines loop round)

sunk_whole : (loop outer : ℕ) (counts : List ℕ) (round : PlainBody) (rest : Nest) →
    size rest ≡ depth counts + lines_of_body round →
    size (sunk loop outer (rest.outer ∷ rest.inner) rest.round) ≡ depth counts + 2 + lines_of_body round
sunk_whole loop outer counts round rest e =
    omega (arith, sunk_size loop outer (rest.outer ∷ rest.inner) rest.round, e)

ordered_size : (loop outer : ℕ) (counts : List ℕ) (round : PlainBody) →
    size (ordered loop outer counts round) ≡ depth counts + lines_of_body round
ordered_size loop outer [] round = refl
ordered_size loop outer (count ∷ counts) round =
    sunk_whole loop outer counts round (ordered (loop + 1) count counts round)
    (ordered_size (loop + 1) count counts round)

lines_if : (b : Bool) (x y : PlainStmt) → lines_of_stmt x ≡ lines_of_stmt y →
    lines_of_stmt (if b then x else y) ≡ lines_of_stmt y
lines_if true x y p = p
lines_if false x y p = refl

nest_lines : (lanes : ℕ) (stmt : PlainStmt) → lines_of_stmt (interchanged_nest lanes stmt) ≡ lines_of_stmt stmt
nest_lines lanes (Do op) = refl
nest_lines lanes (Loop count body) =
    let nest = ordered 0 count (counts_in body) (round_in body) in
    lines_if (are_independent lanes (count ∷ counts_in body) (first_store (round_in body)) (round_in body))
    (nest_stmt nest) (Loop count body)
    (ap (λ n. n + 2)
    (looped_lines nest.inner nest.round ∙ ordered_size 0 count (counts_in body) (round_in body)
    ∙ sym (looped_lines (counts_in body) (round_in body)) ∙ ap lines_of_body (looped_is body)))

interchanged_each : (lanes : ℕ) (body : PlainBody) → each (interchanged_body lanes body) ≡ each body
interchanged_each lanes NoStmts = refl
interchanged_each lanes (AndStmts stmt rest) =
    ap₂ (λ n ks. n ∷ ks) (nest_lines lanes stmt) (interchanged_each lanes rest)

interchanged_phases : (lanes : ℕ) (phases : List PlainBody) →
    map each (map (interchanged_body lanes) phases) ≡ map each phases
interchanged_phases lanes [] = refl
interchanged_phases lanes (body ∷ phases) =
    ap₂ (λ ks kss. ks ∷ kss) (interchanged_each lanes body) (interchanged_phases lanes phases)

-- ---- renumbered registers

from_loop : (count : ℕ) (found : Option PlainBody) (n : ℕ) (made : PlainStmt) →
    ((body : PlainBody) → found ≡ Some body → lines_of_body body ≡ n) → option_map (Loop count) found ≡ Some made →
    lines_of_stmt made ≡ n + 2
from_loop count None n made has e = absurd (cc)
from_loop count (Some body) n made has e =
    let is : Loop count body ≡ made = cc in ap lines_of_stmt (sym is) ∙ ap (λ k. k + 2) (has body refl)

from_op : (found : Option PlainOp) (made : PlainStmt) → option_map Do found ≡ Some made → lines_of_stmt made ≡ 1
from_op None made e = absurd (cc)
from_op (Some op) made e = let is : Do op ≡ made = cc in ap lines_of_stmt (sym is)

from_both : (first : Option PlainStmt) (more : Option PlainBody) (n : ℕ) (ks : List ℕ) (made : PlainBody) →
    ((stmt : PlainStmt) → first ≡ Some stmt → lines_of_stmt stmt ≡ n) →
    ((rest : PlainBody) → more ≡ Some rest → each rest ≡ ks) → and_stmts first more ≡ Some made →
    each made ≡ n ∷ ks
from_both (Some stmt) (Some rest) n ks made one has e =
    let is : AndStmts stmt rest ≡ made = cc in
    ap each (sym is) ∙ ap₂ (λ k ls. k ∷ ls) (one stmt refl) (has rest refl)
from_both (Some stmt) None n ks made one has e = absurd (cc)
from_both None more n ks made one has e = absurd (cc)

mutual
  numbered_lines : (lanes : ℕ) (z : Numbering) (stmt made : PlainStmt) → numbered_stmt lanes z stmt ≡ Some made →
      lines_of_stmt made ≡ lines_of_stmt stmt
  numbered_lines lanes z (Loop count body) made e =
      from_loop count (numbered_body lanes no_numbers body) (lines_of_body body) made
      (λ other is. total_is other ∙ ap total (numbered_each lanes no_numbers body other is) ∙ sym (total_is body)) e
  numbered_lines lanes z (Do op) made e = from_op (numbered_op lanes z op) made e

  numbered_each : (lanes : ℕ) (z : Numbering) (body made : PlainBody) → numbered_body lanes z body ≡ Some made →
      each made ≡ each body
  numbered_each lanes z NoStmts made e = let is : NoStmts ≡ made = cc in ap each (sym is)
  numbered_each lanes z (AndStmts stmt rest) made e =
      from_both (numbered_stmt lanes z stmt) (numbered_body lanes (after_stmt lanes z stmt) rest) (lines_of_stmt stmt)
      (each rest) made (λ other is. numbered_lines lanes z stmt other is)
      (λ other is. numbered_each lanes (after_stmt lanes z stmt) rest other is) e

of_phases : (first : Option PlainBody) (more : Option (List PlainBody)) (ks : List ℕ) (kss : List (List ℕ))
    (made : List PlainBody) → ((body : PlainBody) → first ≡ Some body → each body ≡ ks) →
    ((rest : List PlainBody) → more ≡ Some rest → map each rest ≡ kss) → and_phases first more ≡ Some made →
    map each made ≡ ks ∷ kss
of_phases (Some body) (Some rest) ks kss made one has e =
    let is : body ∷ rest ≡ made = cc in
    ap (map each) (sym is) ∙ ap₂ (λ k ls. k ∷ ls) (one body refl) (has rest refl)
of_phases (Some body) None ks kss made one has e = absurd (cc)
of_phases None more ks kss made one has e = absurd (cc)

numbered_all : (lanes : ℕ) (phases made : List PlainBody) → numbered_phases lanes phases ≡ Some made →
    map each made ≡ map each phases
numbered_all lanes [] made e = let is : [] ≡ made = cc in ap (map each) (sym is)
numbered_all lanes (body ∷ rest) made e =
    of_phases (numbered_body lanes no_numbers body) (numbered_phases lanes rest) (each body) (map each rest) made
    (numbered_each lanes no_numbers body) (numbered_all lanes rest) e

-- ---- programs

-- as many tables, and statements of as many lines
record HaveLines (q p : PlainProgram) : Type 0 where
  tables : length q.tables ≡ length p.tables
  phases : map each q.phases ≡ map each p.phases

lines_with : (p : PlainProgram) (b : Bool) (phases : List PlainBody) → map each phases ≡ map each p.phases →
    HaveLines (if b then record p { phases = phases } else p) p
lines_with p true phases e = record { tables = refl; phases = e }
lines_with p false phases e = record { tables = refl; phases = refl }

renumbered_lines : (p : PlainProgram) → HaveLines (renumbered p) p
renumbered_lines p =
    by_choice (not (list_all (are_in_order p.lanes 0) p.phases) && nat_lt (registers_for p.lanes p.phases) (2 ^ 20))
    (numbered_phases p.lanes p.phases) refl
  where
    by_choice : (b : Bool) (found : Option (List PlainBody)) → numbered_phases p.lanes p.phases ≡ found →
        HaveLines (if b then with_numbers (registers_for p.lanes p.phases) p found else p) p
    by_choice false found e = record { tables = refl; phases = refl }
    by_choice true None e = record { tables = refl; phases = refl }
    by_choice true (Some phases) e = record { tables = refl; phases = numbered_all p.lanes p.phases phases e }

line_of_both : (q p : PlainProgram) → HaveLines q p → (phase number : ℕ) →
    statement_line q phase number ≡ statement_line p phase number
line_of_both q p same phase number =
    all_is phase number 0 (length q.tables + 2) q.phases
    ∙ ap₂ (λ n kss. line_among_all phase number 0 (n + 2) kss) same.tables same.phases
    ∙ sym (all_is phase number 0 (length p.tables + 2) p.phases)

pub ordered_lines : (p : PlainProgram) (phase number : ℕ) →
    statement_line (interchanged (renumbered p)) phase number ≡ statement_line p phase number
ordered_lines p phase number =
    let q = renumbered p in
    line_of_both (interchanged q) q
    (lines_with q (list_all (are_nests q.lanes) q.phases) (map (interchanged_body q.lanes) q.phases)
    (interchanged_phases q.lanes q.phases)) phase number
    ∙ line_of_both q p (renumbered_lines p) phase number
