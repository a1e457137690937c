-- The identities of tensors, place by place.
use Rattle.std.proofs.Common.{◌≡◌, ℕ, ◌+◌, ◌*◌, ◌<◌, arith, refl, sym, ◌/◌, ◌%◌, ap, ap₂, ◌∙◌, List, mul_assoc, subst}
use Rattle.std.specs.Prelude.{slice_index}
use Rattle.operators.specs.Identities.{HasSize, turn, TensorOfProduct, ColumnsInBlocks, TurnInBlocks, BlocksInBlocks}
use Rattle.operators.specs.Identities.{ColumnsInColumns, LanesAfterTurn, LanesOfBlocks, TilesFirst, TilesLast}
use Rattle.operators.specs.Identities.{DiagonalInBlocks}
use Rattle.operators.specs.Operator.{Operator, scale, column, block, on_columns, on_blocks}
use Rattle.operators.proofs.Lists.{at-list_below, length-list_below, list_below-same, list_below-same_rows}
use Rattle.operators.proofs.Lists.{at-on_columns, at-on_blocks, row-of, column-of, place_below}
use Rattle.operators.proofs.Places.{on_columns_at, on_blocks_at, turn_at, column_at, block_at, same_by_three}
use Rattle.operators.proofs.Places.{place_below_turned}
use Rattle.std.proofs.lemmas.List.FromFn.{fill_by_all}

-- a row of a row
block-block : (q n i j : ℕ) (x : List ℕ) → j < q → block n j (block (q * n) i x) ≡ block n (i * q + j) x
block-block q n i j x below =
    list_below-same n _ _ (λ k within.
    block_at (q * n) i x (j * n + k) (place_below j k q n below within) ∙ ap (slice_index x) (omega arith))

pub blocks_in_blocks : BlocksInBlocks
blocks_in_blocks p q n a x =
    same_by_three p q n _ _ (length-list_below _ _) (length-list_below _ _ ∙ sym (mul_assoc p q n)) (λ i j k h_i h_j h_k.
    on_blocks_at (p * q) n a x ((i * q + j) * n + k) (i * q + j) k (place_below i j p q h_i h_j) h_k refl
    ∙ sym (on_blocks_at p (q * n) (on_blocks q n a) x ((i * q + j) * n + k) i (j * n + k) h_i (place_below j k q n h_j h_k) (omega arith)
    ∙ on_blocks_at q n a (block (q * n) i x) (j * n + k) j k h_j h_k refl
    ∙ ap (λ y. slice_index (a y) k) (block-block q n i j x h_j)))

-- a column of a column
column-column : (r q v j k : ℕ) (x : List ℕ) → j < q → column r q j (column (r * q) v k x) ≡ column r (q * v)
    (j * v + k) x
column-column r q v j k x below =
    list_below-same r _ _ (λ i row.
    column_at (r * q) v k x (i * q + j) (place_below i j r q row below) ∙ ap (slice_index x) (omega arith))

pub columns_in_columns : ColumnsInColumns
columns_in_columns r q v a x =
    same_by_three r q v _ _ (length-list_below _ _ ∙ sym (mul_assoc r q v)) (length-list_below _ _) (λ i j k h_i h_j h_k.
    on_columns_at r (q * v) a x ((i * q + j) * v + k) i (j * v + k) h_i (place_below j k q v h_j h_k) (omega arith)
    ∙ sym (on_columns_at (r * q) v (on_columns r q a) x ((i * q + j) * v + k) (i * q + j) k (place_below i j r q h_i h_j) h_k refl
    ∙ on_columns_at r q a (column (r * q) v k x) (i * q + j) i j h_i h_j refl
    ∙ ap (λ y. slice_index (a y) i) (column-column r q v j k x h_j)))

pub turn_in_blocks : TurnInBlocks
turn_in_blocks p q n x =
    let y = on_columns (p * n) q (turn p n) x in
    same_by_three p q n _ _ (length-list_below _ _) (length-list_below _ _ ∙ sym (mul_assoc p q n)) (λ i j k h_i h_j h_k.
    turn_at (p * q) n x ((i * q + j) * n + k) (i * q + j) k (place_below i j p q h_i h_j) h_k refl
    ∙ ap (slice_index x) (omega arith)
    ∙ sym (on_blocks_at p (q * n) (turn q n) y ((i * q + j) * n + k) i (j * n + k) h_i (place_below j k q n h_j h_k) (omega arith)
    ∙ turn_at q n (block (q * n) i y) (j * n + k) j k h_j h_k refl
    ∙ block_at (q * n) i y (k * q + j) (place_below_turned k j n q h_k h_j)
    ∙ on_columns_at (p * n) q (turn p n) x (i * (q * n) + (k * q + j)) (i * n + k) j (place_below i k p n h_i h_k) h_j (omega arith)
    ∙ turn_at p n (column (p * n) q j x) (i * n + k) i k h_i h_k refl
    ∙ column_at (p * n) q j x (k * p + i) (place_below_turned k i n p h_k h_i)))

pub columns_in_blocks : ColumnsInBlocks
columns_in_blocks m p q a x =
    let z = on_columns (p * m) q (turn p m) x in
    let y = on_blocks p (m * q) (on_columns m q a) z in
    same_by_three m p q _ _ (length-list_below _ _ ∙ sym (mul_assoc m p q)) (length-list_below _ _) (λ k i j h_k h_i h_j.
    on_columns_at m (p * q) a x ((k * p + i) * q + j) k (i * q + j) h_k (place_below i j p q h_i h_j) (omega arith)
    ∙ sym (on_columns_at (m * p) q (turn m p) y ((k * p + i) * q + j) (k * p + i) j (place_below k i m p h_k h_i) h_j refl
    ∙ turn_at m p (column (m * p) q j y) (k * p + i) k i h_k h_i refl
    ∙ column_at (m * p) q j y (i * m + k) (place_below_turned i k p m h_i h_k)
    ∙ on_blocks_at p (m * q) (on_columns m q a) z ((i * m + k) * q + j) i (k * q + j) h_i (place_below k j m q h_k h_j) (omega arith)
    ∙ on_columns_at m q a (block (m * q) i z) (k * q + j) k j h_k h_j refl
    ∙ ap (λ l. slice_index (a l) k) (list_below-same m _ _ (λ k' row.
    block_at (m * q) i z (k' * q + j) (place_below k' j m q row h_j)
    ∙ on_columns_at (p * m) q (turn p m) x (i * (m * q) + (k' * q + j)) (i * m + k') j (place_below i k' p m h_i row) h_j (omega arith)
    ∙ turn_at p m (column (p * m) q j x) (i * m + k') i k' h_i row refl
    ∙ column_at (p * m) q j x (k' * p + i) (place_below_turned k' i m p row h_i)
    ∙ ap (slice_index x) (omega arith)))))

pub lanes_after_turn : LanesAfterTurn
lanes_after_turn q v s a x =
    let y = on_columns (q * s) v (turn q s) x in
    same_by_three q v s _ _ (length-list_below _ _) (length-list_below _ _ ∙ sym (mul_assoc q v s)) (λ i l j h_i h_l h_j.
    on_blocks_at (q * v) s a (turn (q * v) s x) ((i * v + l) * s + j) (i * v + l) j (place_below i l q v h_i h_l) h_j refl
    ∙ sym (on_blocks_at q (v * s) (λ z. turn v s (on_columns s v a z)) y ((i * v + l) * s + j) i (l * s + j) h_i (place_below l j v s h_l h_j) (omega arith)
    ∙ turn_at v s (on_columns s v a (block (v * s) i y)) (l * s + j) l j h_l h_j refl
    ∙ on_columns_at s v a (block (v * s) i y) (j * v + l) j l h_j h_l refl
    ∙ ap (λ z. slice_index (a z) j) (list_below-same s _ _ (λ j' row.
    block_at (v * s) i y (j' * v + l) (place_below_turned j' l s v row h_l)
    ∙ on_columns_at (q * s) v (turn q s) x (i * (v * s) + (j' * v + l)) (i * s + j') l (place_below i j' q s h_i row) h_l (omega arith)
    ∙ turn_at q s (column (q * s) v l x) (i * s + j') i j' h_i row refl
    ∙ column_at (q * s) v l x (j' * q + i) (place_below_turned j' i s q row h_i)
    ∙ ap (slice_index x) (omega arith)
    ∙ sym (turn_at (q * v) s x ((i * v + l) * s + j') (i * v + l) j' (place_below i l q v h_i h_l) row refl)))))

pub lanes_of_blocks : LanesOfBlocks
lanes_of_blocks q v s a x =
    same_by_three q v s _ _ (length-list_below _ _) (length-list_below _ _ ∙ sym (mul_assoc q v s)) (λ i l j h_i h_l h_j.
    on_blocks_at (q * v) s a x ((i * v + l) * s + j) (i * v + l) j (place_below i l q v h_i h_l) h_j refl
    ∙ sym (on_blocks_at q (v * s) (λ z. turn v s (on_columns s v a (turn s v z))) x ((i * v + l) * s + j) i (l * s + j) h_i (place_below l j v s h_l h_j) (omega arith)
    ∙ turn_at v s (on_columns s v a (turn s v (block (v * s) i x))) (l * s + j) l j h_l h_j refl
    ∙ on_columns_at s v a (turn s v (block (v * s) i x)) (j * v + l) j l h_j h_l refl
    ∙ ap (λ z. slice_index (a z) j) (list_below-same s _ _ (λ j' row.
    turn_at s v (block (v * s) i x) (j' * v + l) j' l row h_l refl
    ∙ block_at (v * s) i x (l * s + j') (place_below l j' v s h_l row)
    ∙ ap (slice_index x) (omega arith)))))

pub tiles_first : TilesFirst
tiles_first q v x =
    let y = on_blocks q (v * v) (turn v v) x in
    same_by_three v q v _ _ (length-list_below _ _ ∙ sym (mul_assoc v q v)) (length-list_below _ _) (λ i j k h_i h_j h_k.
    turn_at v (q * v) x ((i * q + j) * v + k) i (j * v + k) h_i (place_below j k q v h_j h_k) (omega arith)
    ∙ ap (slice_index x) (omega arith)
    ∙ sym (on_columns_at (v * q) v (turn v q) y ((i * q + j) * v + k) (i * q + j) k (place_below i j v q h_i h_j) h_k refl
    ∙ turn_at v q (column (v * q) v k y) (i * q + j) i j h_i h_j refl
    ∙ column_at (v * q) v k y (j * v + i) (place_below_turned j i q v h_j h_i)
    ∙ on_blocks_at q (v * v) (turn v v) x ((j * v + i) * v + k) j (i * v + k) h_j (place_below i k v v h_i h_k) (omega arith)
    ∙ turn_at v v (block (v * v) j x) (i * v + k) i k h_i h_k refl
    ∙ block_at (v * v) j x (k * v + i) (place_below k i v v h_k h_i)))

pub tiles_last : TilesLast
tiles_last q v x =
    let y = on_columns (q * v) v (turn q v) x in
    same_by_three q v v _ _ (length-list_below _ _) (length-list_below _ _ ∙ sym (mul_assoc q v v)) (λ i j k h_i h_j h_k.
    turn_at (q * v) v x ((i * v + j) * v + k) (i * v + j) k (place_below i j q v h_i h_j) h_k refl
    ∙ ap (slice_index x) (omega arith)
    ∙ sym (on_blocks_at q (v * v) (turn v v) y ((i * v + j) * v + k) i (j * v + k) h_i (place_below j k v v h_j h_k) (omega arith)
    ∙ turn_at v v (block (v * v) i y) (j * v + k) j k h_j h_k refl
    ∙ block_at (v * v) i y (k * v + j) (place_below k j v v h_k h_j)
    ∙ on_columns_at (q * v) v (turn q v) x (i * (v * v) + (k * v + j)) (i * v + k) j (place_below i k q v h_i h_k) h_j (omega arith)
    ∙ turn_at q v (column (q * v) v j x) (i * v + k) i k h_i h_k refl
    ∙ column_at (q * v) v j x (k * q + i) (place_below_turned k i v q h_k h_i)))

-- what an operator gives on a column, and on a row
column-on_columns : (n k j : ℕ) (b : Operator) (x : List ℕ) → HasSize n b → j < k →
    b (column n k j x) ≡ column n k j (on_columns n k b x)
column-on_columns n k j b x size below =
    fill_by_all _ (b (column n k j x)) n 0 (size (column n k j x)) (λ i row. sym (at-on_columns n k b x i j row below))

block-on_blocks : (k n i : ℕ) (b : Operator) (x : List ℕ) → HasSize n b → i < k →
    b (block n i x) ≡ block n i (on_blocks k n b x)
block-on_blocks k n i b x size row =
    fill_by_all _ (b (block n i x)) n 0 (size (block n i x)) (λ j below. sym (at-on_blocks k n b x i j row below))

pub tensor_of_product : TensorOfProduct
tensor_of_product n k a b x size = (
  list_below-same_rows n k _ _ (λ i j row below.
      ap (λ y. slice_index (a y) ((i * k + j) / k)) (column-on_columns n k ((i * k + j) % k) b x size (subst (λ c. c < k) (sym (column-of i j k below)) below))),
  list_below-same_rows k n _ _ (λ i j row below.
      ap (λ y. slice_index (a y) ((i * n + j) % n)) (block-on_blocks k n ((i * n + j) / n) b x size (subst (λ c. c < k) (sym (row-of i j n below)) row))),
)

pub diagonal_in_blocks : DiagonalInBlocks
diagonal_in_blocks m p q c x =
    list_below-same_rows p q _ _ (λ i j row below.
    ap₂ (λ n y. (c n * y) % m) refl (sym (block_at q i x j below))
    ∙ sym (at-list_below q (λ j. (c (i * q + j) * slice_index (block q i x) j) % m) j below)
    ∙ sym (ap₂ (λ u v. slice_index (scale m q (λ j. c (u * q + j)) (block q u x)) v) (row-of i j q below) (column-of i j q below)))
