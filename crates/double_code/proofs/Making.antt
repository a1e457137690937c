-- Statements that are made one after another.
use Rattle.std.proofs.Common.{◌≡◌, ℕ, ◌+◌, ◌*◌, ◌<◌, ◌≤◌, List, [], ◌∷◌, ◌++◌, Vec, Global}
use Rattle.std.proofs.Common.{length, drop, map, get_or, refl, sym, ap, ap₂, ◌∙◌, arith}
use Rattle.std.proofs.lemmas.List.{drop_all, map-append}
use Rattle.icode.specs.declared.program.Stmt.{Stmt}
use Rattle.icode.specs.Plain.{PlainOp, PlainStmt, PlainBody, Load, Store, Zero, Add, Sub, Neg, MulConst}
use Rattle.icode.specs.Plain.{MulTable, Tile}
use Rattle.icode.specs.Plain.{plain_stmt, plain_body}
use Rattle.icode.specs.Plain as plain
use Rattle.icode.specs.declared.program.Array.{Array}
use Rattle.icode.specs.declared.program.Array.TheVariants as arrays
use Rattle.double_code.specs.declared.program.DoubleStmt.{DoubleStmt}
use Rattle.double_code.specs.declared.program.DoubleStmt.TheVariants as variants
use Rattle.double_code.specs.declared.program.DoubleStmt.TheOpen.{DoubleStmt-F}
use Rattle.double_code.specs.declared.program.DoubleStmt.TheFolds.{fold-roll-DoubleStmt}
use Rattle.double_code.specs.DoubleProgram as plain_doubles
use Rattle.double_code.specs.Doubled.{Header, DoubledStmt, DoubledBody, Settled, bound_at, settled_to}
use Rattle.double_code.specs.Doubled.{then_settled, greater}
use Rattle.double_code.specs.Doubled.{array_bound, greatest_bound, noted, loosest, doubled_stmt, doubled_body}
use Rattle.double_code.specs.Doubled.{doubled_and, most_of}
use Rattle.double_code.specs.Doubled.{reduced_bound}
use Rattle.double_code.specs.Reductions.{limit_of}
use Rattle.double_code.specs.Views.{double_body_of, double_stmt_view, plain_double_stmt, plain_double_body}
use Rattle.icode.proofs.Steps.{drop_item}
use Rattle.std.proofs.Common.{zero, suc, ◌^◌, ℤ, pos, mul-le-mul_right}
use Rattle.std.specs.Prelude.{nat_le, slice_set}
use Rattle.std.proofs.lemmas.Bool.{cond_both}
use Rattle.double_code.specs.Doubled.{product_noted, store_noted}
use Rattle.double_code.specs.Factors.{centred}
use Rattle.double_code.specs.Products.{product_bound}
use Rattle.double_code.proofs.Operations.{tile_sane, greatest_sane}
use Rattle.double_code.proofs.Programs.{loosest_is}
use Rattle.double_code.proofs.Settling.{set_sane, reduced_sane}

pub plain_double_stmt-Loop : (count : ℕ) (body : Vec DoubleStmt Global) →
    plain_double_stmt (variants.Loop count body) ≡ plain_doubles.Loop count (plain_double_body body.items)
plain_double_stmt-Loop count body =
    ap plain_double_stmt (sym (variants.rolls-Loop count body))
    ∙ fold-roll-DoubleStmt plain_doubles.DoubleStmt double_stmt_view (DoubleStmt-F.Loop count body)

-- What is made of statements one after another, where `go` says what is made of a body

-- these statements, and the rest
abbrev then_rest : List plain_doubles.DoubleStmt → DoubledBody → DoubledBody
then_rest [] rest = rest
then_rest (stmt ∷ stmts) rest = doubled_and stmt (then_rest stmts rest)

rest-last : (stmts : List plain_doubles.DoubleStmt) (stmt : plain_doubles.DoubleStmt) (rest : DoubledBody) →
    then_rest (stmts ++ stmt ∷ []) rest ≡ then_rest stmts (doubled_and stmt rest)
rest-last [] stmt rest = refl
rest-last (s ∷ stmts) stmt rest = ap (doubled_and s) (rest-last stmts stmt rest)

rest-none : (stmts : List plain_doubles.DoubleStmt) (bounds : List ℕ) →
    then_rest stmts (record { body = plain_doubles.NoStmts; bounds = bounds })
    ≡ record { body = double_body_of stmts; bounds = bounds }
rest-none [] bounds = refl
rest-none (s ∷ stmts) bounds = ap (doubled_and s) (rest-none stmts bounds)

-- a number of statements is made, and the others lead to the rest
pub record AreMade (go : PlainBody → List ℕ → DoubledBody) (i : ℕ) (body : List Stmt) (before : List ℕ)
    (made : List DoubleStmt) (after : List ℕ) : Type 0 where
  pub is : go (plain_body body) before ≡ then_rest (map plain_double_stmt made) (go (plain_body (drop i body)) after)

module _ (go : PlainBody → List ℕ → DoubledBody) (i : ℕ) (body : List Stmt) (before : List ℕ) where
  pub made-more : (stmt : Stmt) (one : DoubledStmt) (made new : List DoubleStmt) (double : DoubleStmt)
      (bounds after : List ℕ) →
      i < length body → stmt ≡ get_or body i stmt →
      go (plain_body (stmt ∷ drop (i + 1) body)) bounds ≡ doubled_and one.stmt
      (go (plain_body (drop (i + 1) body)) one.bounds) →
      AreMade go i body before made bounds → plain_double_stmt double ≡ one.stmt → after ≡ one.bounds →
      new ≡ made ++ double ∷ [] → AreMade go (i + 1) body before new after
  made-more stmt one made new double bounds after lt e splits is same ends appended =
      let others : List ℕ → DoubledBody = go (plain_body (drop (i + 1) body)) in
      let step : go (plain_body (drop i body)) bounds ≡ doubled_and (plain_double_stmt double) (others after) =
      ap (λ ss. go (plain_body ss) bounds) (drop_item body i stmt lt e)
      ∙ (splits ∙ ap₂ (λ w bs. doubled_and w (others bs)) (sym same) (sym ends)) in
      record {
        is =
            is.is
            ∙ (ap (then_rest (map plain_double_stmt made)) step
            ∙ (sym (rest-last (map plain_double_stmt made) (plain_double_stmt double) (others after))
            ∙ ap (λ ws. then_rest ws (others after))
            (sym (ap (map plain_double_stmt) appended ∙ map-append plain_double_stmt made (double ∷ [])))));
      }

  pub made-all : (made : List DoubleStmt) (after : List ℕ) → length body ≤ i →
      go plain.NoStmts after ≡ record { body = plain_doubles.NoStmts; bounds = after } →
      AreMade go i body before made after →
      go (plain_body body) before ≡ record { body = plain_double_body made; bounds = after }
  made-all made after le none is =
      is.is
      ∙ (ap (λ ss. then_rest (map plain_double_stmt made) (go (plain_body ss) after)) (drop_all i body le)
      ∙ (ap (then_rest (map plain_double_stmt made)) none ∙ rest-none (map plain_double_stmt made) after))

-- No bound passes the limit

settled_sane : (m n x y target : ℕ) (bounds : List ℕ) → reduced_bound m ≤ limit_of m →
    ((r : ℕ) → bound_at m bounds r ≤ limit_of m) → (r : ℕ) →
    bound_at m (settled_to m n x y target bounds).bounds r ≤ limit_of m
settled_sane m zero x y target bounds le sane = sane
settled_sane m (suc n) x y target bounds le sane =
    let g = greater m x y bounds in
    let next = settled_sane m n x y target (slice_set bounds g (reduced_bound m)) le
    (set_sane m bounds g (reduced_bound m) le sane) in
    cond_both (nat_le (bound_at m bounds x + bound_at m bounds y) target) (record { before = []; bounds = bounds })
    (then_settled g (settled_to m n x y target (slice_set bounds g (reduced_bound m))))
    (λ (s : Settled). (r : ℕ) → bound_at m s.bounds r ≤ limit_of m) (λ _. sane) (λ _. next)

module _ (m : ℕ) (some : 0 < m) (below : m < 2 ^ 50) where
  low : reduced_bound m ≤ limit_of m
  low = reduced_sane m some below

  array_sane : (array : Array) → array_bound m array ≤ limit_of m
  array_sane arrays.X = omega arith
  array_sane arrays.Y = omega arith
  array_sane arrays.A = omega arith
  array_sane arrays.B = omega arith

  product_sane : (b : ℕ) → b ≤ limit_of m → product_bound m b ≤ limit_of m
  product_sane b le =
      let few : b ≤ 2 ^ 53 = omega arith in
      let times = mul-le-mul_right m few in
      omega arith

  made_sane : (r x : ℕ) (factor : ℤ) (bounds : List ℕ) → ((r : ℕ) → bound_at m bounds r ≤ limit_of m) → (q : ℕ) →
      bound_at m (product_noted m r x factor bounds).bounds q ≤ limit_of m
  made_sane r x factor bounds sane =
      let after = settled_sane m 2 x x (2 * most_of m) bounds low sane in
      set_sane m (settled_to m 2 x x (2 * most_of m) bounds).bounds r _ (product_sane _ (after x)) after

  stored_sane : (array : Array) (r : ℕ) (bounds : List ℕ) → ((r : ℕ) → bound_at m bounds r ≤ limit_of m) → (q : ℕ) →
      bound_at m (store_noted m array r bounds).bounds q ≤ limit_of m
  stored_sane arrays.X r bounds sane = sane
  stored_sane arrays.Y r bounds sane = sane
  stored_sane arrays.A r bounds sane = settled_sane m 2 r r (2 * (m + 1)) bounds low sane
  stored_sane arrays.B r bounds sane = settled_sane m 2 r r (2 * (m + 1)) bounds low sane

  noted_sane : (lanes : ℕ) (op : PlainOp) (bounds : List ℕ) → ((r : ℕ) → bound_at m bounds r ≤ limit_of m) →
      (r : ℕ) → bound_at m (noted m lanes op bounds).bounds r ≤ limit_of m
  noted_sane lanes (Load r array place) bounds sane = set_sane m bounds r (array_bound m array) (array_sane array) sane
  noted_sane lanes (Store array place r) bounds sane = stored_sane array r bounds sane
  noted_sane lanes (Zero r) bounds sane = set_sane m bounds r 0 (omega arith) sane
  noted_sane lanes (Add r x y) bounds sane =
      set_sane m (settled_to m 2 x y (limit_of m) bounds).bounds r _ (omega arith)
      (settled_sane m 2 x y (limit_of m) bounds low sane)
  noted_sane lanes (Sub r x y) bounds sane =
      set_sane m (settled_to m 2 x y (limit_of m) bounds).bounds r _ (omega arith)
      (settled_sane m 2 x y (limit_of m) bounds low sane)
  noted_sane lanes (Neg r x) bounds sane = set_sane m bounds r (bound_at m bounds x) (sane x) sane
  noted_sane lanes (MulConst r x factor) bounds sane = made_sane r x (centred m factor) bounds sane
  noted_sane lanes (MulTable r x table place step) bounds sane = made_sane r x (pos 0) bounds sane
  noted_sane lanes (Tile r x) bounds sane =
      tile_sane m lanes bounds r (greatest_bound m bounds lanes x) (greatest_sane m bounds lanes x sane) sane

  pub stmt_sane : (lanes regs : ℕ) (stmt : PlainStmt) (bounds : List ℕ) →
      ((r : ℕ) → bound_at m bounds r ≤ limit_of m) → (r : ℕ) →
      bound_at m (doubled_stmt (record { modulus = m; lanes = lanes; regs = regs }) stmt bounds).bounds r ≤ limit_of m
  stmt_sane lanes regs (plain.Loop count body) bounds sane = λ r. let e = loosest_is m regs r in omega (arith, e)
  stmt_sane lanes regs (plain.Do op) bounds sane = noted_sane lanes op bounds sane

-- What stands within the limits

pub loop_made : (h : Header) (count i : ℕ) (body items : List Stmt) (s : Stmt) (bounds : List ℕ)
    (made : Vec DoubleStmt Global) (after : List ℕ) → plain_stmt s ≡ plain.Loop count (plain_body body) → items ≡ body →
    length items ≤ i → AreMade (doubled_body h) i items (loosest h) made.items after →
    plain_double_stmt (variants.Loop count made) ≡ (doubled_stmt h (plain_stmt s) bounds).stmt
loop_made h count i body items s bounds made after is same le doubles =
    let whole = made-all (doubled_body h) i items (loosest h) made.items after le refl doubles in
    plain_double_stmt-Loop count made
    ∙ (ap (λ (b : DoubledBody). plain_doubles.Loop count b.body) (sym whole)
    ∙ (ap (λ ss. plain_doubles.Loop count (doubled_body h (plain_body ss) (loosest h)).body) same
    ∙ ap (λ p. (doubled_stmt h p bounds).stmt) (sym is)))
