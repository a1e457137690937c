-- Pieces for rows and for columns.
use Rattle.std.proofs.Common.{◌≡◌, ℕ, zero, suc, ◌+◌, ◌*◌, ◌/◌, ◌%◌, ◌<◌, ◌≤◌, arith, refl, sym, ap, ap₂, ◌∙◌, List, []}
use Rattle.std.proofs.Common.{◌++◌, length, mul_comm, subst}
use Rattle.std.specs.Prelude.{slice_index}
use Rattle.std.proofs.Math.Nat.{zero-mul}
use Rattle.std.proofs.lemmas.List.FromFn.{fill_by_all}
use Rattle.operators.specs.Operator.{Operator, block, on_columns, on_each_block, stride}
use Rattle.operators.specs.Sum.{sum_below, list_below}
use Rattle.operators.proofs.Lists.{length-list_below, row-of, column-of}
use Rattle.operators.proofs.Places.{list_below-append, stride_below, on_columns-turned}
use Rattle.kernel_gen.specs.Making.{none_make, rows_make}
use Rattle.kernel_gen.specs.Kernel.{columns_make}
use Rattle.kernel_gen.proofs.Below.{length-joined}
use Rattle.kernel_gen.proofs.Pieces.{Does, Piece, piece, does-same, does-size, does-none, does-beside, does-as, picked}
use Rattle.kernel_gen.proofs.Pieces.{joined}

-- the rows one after another
abbrev rows_on : ℕ → ℕ → (ℕ → Operator) → Operator
rows_on zero s f x = []
rows_on (suc r) s f x = rows_on r s f x ++ f r (block s r x)

-- one more block
each_block_more : (r s : ℕ) (op : ℕ → Operator) (x : List ℕ) → ((y : List ℕ) → length y ≡ s → length (op r y) ≡ s) →
    on_each_block (suc r) s op x ≡ on_each_block r s op x ++ op r (block s r x)
each_block_more r s op x size =
    let rows : suc r * s ≡ r * s + s = omega arith in
    let item = λ (p : ℕ). slice_index (op (p / s) (block s (p / s) x)) (p % s) in
    ap (λ n. list_below n item) rows
    ∙ list_below-append (r * s) s item
    ∙ ap (λ l. on_each_block r s op x ++ l)
    (sym (fill_by_all (λ j. item (r * s + j)) (op r (block s r x)) s 0 (size (block s r x) (length-list_below _ _))
    (λ j below. sym (ap₂ (λ a b. slice_index (op a (block s a x)) b) (row-of r j s below) (column-of r j s below)))))

rows_on-each : (r s : ℕ) (f : ℕ → Operator) (x : List ℕ) → ((i : ℕ) (y : List ℕ) → i < r → length y ≡ s →
    length (f i y) ≡ s) → rows_on r s f x ≡ on_each_block r s f x
rows_on-each zero s f x size = ap (λ n. list_below n (λ p. slice_index (f (p / s) (block s (p / s) x)) (p % s))) (sym (zero-mul s))
rows_on-each (suc r) s f x size =
    ap (λ l. l ++ f r (block s r x)) (rows_on-each r s f x (λ i y below. size i y (omega arith)))
    ∙ sym (each_block_more r s f x (λ y. size r y (omega arith)))

pub sum_below-constant : (n c : ℕ) → sum_below n (λ _. c) ≡ n * c
sum_below-constant zero c = sym (zero-mul c)
sum_below-constant (suc n) c = omega (arith, sum_below-constant n c)

module _ (m weight : ℕ) where
  does-rows_on : (n r s : ℕ) (p : ℕ → Piece m weight s s) → r * s ≤ n →
      Does m weight n (r * s) (sum_below r (λ i. (p i).price)) (rows_make r s (λ i. (p i).make))
      (rows_on r s (λ i. (p i).op))
  does-rows_on n zero s p room =
      does-size m weight n n 0 (0 * s) 0 none_make (λ _. []) refl (sym (zero-mul s)) (does-none m weight n)
  does-rows_on n (suc r) s p room =
      let one : Piece m weight n s = joined m weight (picked m weight n s (λ j. r * s + j) (λ j below. omega arith)) (p r) in
      let make = rows_make (suc r) s (λ i. (p i).make) in
      let op = rows_on (suc r) s (λ i. (p i).op) in
      let price = sum_below r (λ i. (p i).price) in
      let cost = (p r).price in
      let first = does-rows_on n r s p (omega arith) in
      does-size m weight n n (r * s + s) (suc r * s) (price + cost) make op refl (omega arith)
      (does-same m weight n (r * s + s) (price + (0 + cost)) (price + cost) make op op (omega arith) (λ x size small. refl)
      (λ x size. length-joined (rows_on r s (λ i. (p i).op) x) _ ∙ ap₂ (λ a b. a + b) (first.width x size) (one.does.width x size))
      (does-beside m weight n (r * s) s price (0 + cost) (rows_make r s (λ i. (p i).make)) one.make (rows_on r s (λ i. (p i).op)) one.op first one.does))

  pub does-rows : (r s : ℕ) (p : ℕ → Piece m weight s s) →
      Does m weight (r * s) (r * s) (sum_below r (λ i. (p i).price)) (rows_make r s (λ i. (p i).make))
      (on_each_block r s (λ i. (p i).op))
  does-rows r s p =
      let price = sum_below r (λ i. (p i).price) in
      does-same m weight (r * s) (r * s) price price (rows_make r s (λ i. (p i).make)) (rows_on r s (λ i. (p i).op)) (on_each_block r s (λ i. (p i).op)) refl
      (λ x size small. rows_on-each r s (λ i. (p i).op) x (λ i y below. (p i).does.width y))
      (λ x size. length-list_below (r * s) _)
      (does-rows_on (r * s) r s p (omega arith))

  -- a piece on each of r rows of s inputs
  abbrev pub in_rows : (r s : ℕ) → (ℕ → Piece m weight s s) → Piece m weight (r * s) (r * s)
  in_rows r s p = piece m weight (does-rows r s p)

  pub does-columns : (r s : ℕ) (p : Piece m weight r r) → Does m weight (r * s) (r * s) (s * p.price)
      (columns_make r s p.make) (on_columns r s p.op)
  does-columns r s p =
      let whole : Piece m weight (s * r) (r * s) =
      joined m weight (picked m weight (s * r) (s * r) (stride s r) (λ i below. (stride_below s r i below).1))
      (joined m weight (in_rows s r (λ _. p)) (picked m weight (s * r) (r * s) (stride r s) (λ i below. subst (λ n. stride r s i < n) (mul_comm r s) (stride_below r s i below).1))) in
      does-size m weight (s * r) (r * s) (r * s) (r * s) (s * p.price) (columns_make r s p.make) (on_columns r s p.op) (mul_comm s r) refl
      (does-as m weight whole (s * p.price) (on_columns r s p.op)
      (let each = sum_below-constant s p.price in let all : 0 + (sum_below s (λ _. p.price) + 0) ≡ s * p.price = omega arith in all)
      (λ x size small. sym (on_columns-turned r s p.op x))
      (λ x size. length-list_below (r * s) _))

  -- a piece on each of s columns of r inputs
  abbrev pub in_columns : (r s : ℕ) → Piece m weight r r → Piece m weight (r * s) (r * s)
  in_columns r s p = piece m weight (does-columns r s p)
