-- Statements that are quickened one after another.
use Rattle.std.proofs.Common.{◌≡◌, ℕ, ◌+◌, ◌-◌, ◌*◌, ◌<◌, ◌≤◌, List, [], ◌∷◌, ◌++◌, Vec, Global}
use Rattle.std.proofs.Common.{length, drop, map, get_or, refl, sym, ap, ap₂, ◌∙◌, arith}
use Rattle.std.proofs.lemmas.List.{drop_all, map-append}
use Rattle.icode.specs.declared.program.Stmt.{Stmt}
use Rattle.icode.specs.Plain.{PlainOp, PlainStmt, PlainBody, Load, Store, Zero, Add, Sub, Neg, MulConst, MulTable, Tile}
use Rattle.icode.specs.Plain.{plain_stmt, plain_body}
use Rattle.icode.specs.Plain as plain
use Rattle.icode.specs.declared.program.Array.{Array}
use Rattle.icode.specs.declared.program.Array.TheVariants as arrays
use Rattle.word_code.specs.declared.program.WordStmt.{WordStmt}
use Rattle.word_code.specs.declared.program.WordStmt.TheVariants as words
use Rattle.word_code.specs.declared.program.WordStmt.TheOpen.{WordStmt-F}
use Rattle.word_code.specs.declared.program.WordStmt.TheFolds.{fold-roll-WordStmt}
use Rattle.word_code.specs.Words.{product_bound}
use Rattle.word_code.specs.WordProgram as plain_words
use Rattle.word_code.specs.Quicken.{PlainLaziness, Header, QuickStmt, QuickBody, bound_at, settled, array_bound}
use Rattle.word_code.specs.Quicken.{greatest_bound, noted, loosest, quick_stmt, quick_body, quick_and}
use Rattle.word_code.specs.Views.{word_body_of, word_stmt_view, plain_word_stmt, plain_word_body}
use Rattle.word_code.proofs.Operations.{set_sane, greatest_sane, tile_sane}
use Rattle.word_code.proofs.Reduce.{loosest_is}
use Rattle.word_code.proofs.Settling.{settled_sane}
use Rattle.icode.proofs.Steps.{drop_item}

pub plain_word_stmt-Loop : (count : ℕ) (body : Vec WordStmt Global) →
    plain_word_stmt (words.Loop count body) ≡ plain_words.Loop count (plain_word_body body.items)
plain_word_stmt-Loop count body =
    ap plain_word_stmt (sym (words.rolls-Loop count body)) ∙ fold-roll-WordStmt plain_words.WordStmt word_stmt_view (WordStmt-F.Loop count body)

-- What is made of statements one after another, where `go` says what is made of a body

-- these statements, and the rest
abbrev then_rest : List plain_words.WordStmt → QuickBody → QuickBody
then_rest [] rest = rest
then_rest (stmt ∷ stmts) rest = quick_and stmt (then_rest stmts rest)

rest-last : (stmts : List plain_words.WordStmt) (stmt : plain_words.WordStmt) (rest : QuickBody) →
    then_rest (stmts ++ stmt ∷ []) rest ≡ then_rest stmts (quick_and stmt rest)
rest-last [] stmt rest = refl
rest-last (s ∷ stmts) stmt rest = ap (quick_and s) (rest-last stmts stmt rest)

rest-none : (stmts : List plain_words.WordStmt) (bounds : List ℕ) →
    then_rest stmts (record { body = plain_words.NoStmts; bounds = bounds })
    ≡ record { body = word_body_of stmts; bounds = bounds }
rest-none [] bounds = refl
rest-none (s ∷ stmts) bounds = ap (quick_and s) (rest-none stmts bounds)

-- a number of statements is made, and the others lead to the rest
pub record AreMade (go : PlainBody → List ℕ → QuickBody) (i : ℕ) (body : List Stmt) (before : List ℕ)
    (made : List WordStmt) (after : List ℕ) : Type 0 where
  pub is : go (plain_body body) before ≡ then_rest (map plain_word_stmt made) (go (plain_body (drop i body)) after)

module _ (go : PlainBody → List ℕ → QuickBody) (i : ℕ) (body : List Stmt) (before : List ℕ) where
  pub made-more : (stmt : Stmt) (one : QuickStmt) (made new : List WordStmt) (word : WordStmt) (bounds after : List ℕ) →
      i < length body → stmt ≡ get_or body i stmt →
      go (plain_body (stmt ∷ drop (i + 1) body)) bounds ≡ quick_and one.stmt
      (go (plain_body (drop (i + 1) body)) one.bounds) →
      AreMade go i body before made bounds → plain_word_stmt word ≡ one.stmt → after ≡ one.bounds →
      new ≡ made ++ word ∷ [] → AreMade go (i + 1) body before new after
  made-more stmt one made new word bounds after lt e splits is same ends appended =
      let others : List ℕ → QuickBody = go (plain_body (drop (i + 1) body)) in
      let step : go (plain_body (drop i body)) bounds ≡ quick_and (plain_word_stmt word) (others after) =
      ap (λ ss. go (plain_body ss) bounds) (drop_item body i stmt lt e)
      ∙ (splits ∙ ap₂ (λ w bs. quick_and w (others bs)) (sym same) (sym ends)) in
      record {
        is =
            is.is
            ∙ (ap (then_rest (map plain_word_stmt made)) step
            ∙ (sym (rest-last (map plain_word_stmt made) (plain_word_stmt word) (others after))
            ∙ ap (λ ws. then_rest ws (others after))
            (sym (ap (map plain_word_stmt) appended ∙ map-append plain_word_stmt made (word ∷ [])))));
      }

  pub made-all : (made : List WordStmt) (after : List ℕ) → length body ≤ i →
      go plain.NoStmts after ≡ record { body = plain_words.NoStmts; bounds = after } →
      AreMade go i body before made after →
      go (plain_body body) before ≡ record { body = plain_word_body made; bounds = after }
  made-all made after le none is =
      is.is
      ∙ (ap (λ ss. then_rest (map plain_word_stmt made) (go (plain_body ss) after)) (drop_all i body le)
      ∙ (ap (then_rest (map plain_word_stmt made)) none ∙ rest-none (map plain_word_stmt made) after))

-- No bound passes the limit

module _ (z : PlainLaziness) (some : 1 ≤ z.limit) (of_a : z.kept.of_a ≤ z.limit) (of_b : z.kept.of_b ≤ z.limit)
    (product : product_bound z.width ≤ z.limit) where
  array_sane : (array : Array) → array_bound z.kept array ≤ z.limit
  array_sane arrays.A = of_a
  array_sane arrays.B = of_b
  array_sane _ = some

  noted_sane : (m lanes : ℕ) (op : PlainOp) (bounds : List ℕ) → ((r : ℕ) → bound_at z.limit bounds r ≤ z.limit) →
      (r : ℕ) → bound_at z.limit (noted z m lanes op bounds).bounds r ≤ z.limit
  noted_sane m lanes (Load r array place) bounds sane =
      set_sane z.limit bounds r (array_bound z.kept array) (array_sane array) sane
  noted_sane m lanes (Store array place r) bounds sane =
      settled_sane m z.limit (2 * z.limit) r r (2 * array_bound z.kept array) bounds sane
  noted_sane m lanes (Zero r) bounds sane = set_sane z.limit bounds r 1 some sane
  noted_sane m lanes (Add r x y) bounds sane =
      set_sane z.limit (settled m z.limit (2 * z.limit) x y z.limit bounds).bounds r _ (omega arith)
      (settled_sane m z.limit (2 * z.limit) x y z.limit bounds sane)
  noted_sane m lanes (Sub r x y) bounds sane =
      set_sane z.limit (settled m z.limit (2 * z.limit) x y z.limit bounds).bounds r _ (omega arith)
      (settled_sane m z.limit (2 * z.limit) x y z.limit bounds sane)
  noted_sane m lanes (Neg r x) bounds sane =
      set_sane z.limit (settled m z.limit (2 * z.limit) x x (2 * (z.limit - 1)) bounds).bounds r _ (omega arith)
      (settled_sane m z.limit (2 * z.limit) x x (2 * (z.limit - 1)) bounds sane)
  noted_sane m lanes (MulConst r x factor) bounds sane = set_sane z.limit bounds r (product_bound z.width) product sane
  noted_sane m lanes (MulTable r x table place step) bounds sane =
      set_sane z.limit bounds r (product_bound z.width) product sane
  noted_sane m lanes (Tile r x) bounds sane =
      tile_sane z.limit lanes bounds r (greatest_bound z.limit bounds lanes x)
      (greatest_sane z.limit bounds lanes x sane) sane

  pub stmt_sane : (h : Header) (stmt : PlainStmt) (bounds : List ℕ) → ((r : ℕ) → bound_at z.limit bounds r ≤ z.limit) →
      (r : ℕ) → bound_at z.limit (quick_stmt z h stmt bounds).bounds r ≤ z.limit
  stmt_sane h (plain.Loop count body) bounds sane = λ r. let e = loosest_is z.limit h.regs r in omega arith
  stmt_sane h (plain.Do op) bounds sane = noted_sane h.modulus h.lanes op bounds sane

-- What stands within the limits

pub loop_made : (z : PlainLaziness) (h : Header) (count i : ℕ) (body items : List Stmt) (s : Stmt) (bounds : List ℕ)
    (made : Vec WordStmt Global) (after : List ℕ) → plain_stmt s ≡ plain.Loop count (plain_body body) → items ≡ body →
    length items ≤ i → AreMade (quick_body z h) i items (loosest z h) made.items after →
    plain_word_stmt (words.Loop count made) ≡ (quick_stmt z h (plain_stmt s) bounds).stmt
loop_made z h count i body items s bounds made after is same le quick =
    let whole = made-all (quick_body z h) i items (loosest z h) made.items after le refl quick in
    plain_word_stmt-Loop count made
    ∙ (ap (λ (b : QuickBody). plain_words.Loop count b.body) (sym whole)
    ∙ (ap (λ ss. plain_words.Loop count (quick_body z h (plain_body ss) (loosest z h)).body) same
    ∙ ap (λ p. (quick_stmt z h p bounds).stmt) (sym is)))
