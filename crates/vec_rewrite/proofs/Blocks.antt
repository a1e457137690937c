-- The identities of lanes and tiles in one block.
use Rattle.std.proofs.Common.{◌≡◌, ℕ, ◌+◌, ◌*◌, arith, refl, sym, ap, ap₂, ◌∙◌, List, mul_assoc, mul_comm}
use Rattle.std.specs.Prelude.{slice_index}
use Rattle.operators.specs.Identities.{turn}
use Rattle.operators.specs.Operator.{Operator, on_columns, on_blocks, column, block}
use Rattle.operators.specs.Sum.{list_below}
use Rattle.operators.proofs.Blocks.{tensor_of_product, lanes_of_blocks, tiles_first, tiles_last}
use Rattle.operators.proofs.Lists.{at-list_below, length-list_below, list_below-same, list_below-same_rows, row-of}
use Rattle.operators.proofs.Lists.{column-of, place_below, at-stride, on_blocks-same}
use Rattle.operators.proofs.Places.{on_columns_at, on_blocks_at, column_at, block_at, same_by_three}

-- blocks of columns are columns of blocks
pub blocks_of_columns : (k n v : ℕ) (a : Operator) (x : List ℕ) →
    on_blocks k (n * v) (on_columns n v a) x ≡ on_columns (k * n) v (on_blocks k n a) x
blocks_of_columns k n v a x =
    same_by_three k n v _ _ (length-list_below _ _ ∙ sym (mul_assoc k n v)) (length-list_below _ _) (λ i j l h_i h_j h_l.
    on_blocks_at k (n * v) (on_columns n v a) x ((i * n + j) * v + l) i (j * v + l) h_i (place_below j l n v h_j h_l) (omega arith)
    ∙ on_columns_at n v a (block (n * v) i x) (j * v + l) j l h_j h_l refl
    ∙ ap (λ y. slice_index (a y) j) (list_below-same n _ _ (λ m h_m.
    block_at (n * v) i x (m * v + l) (place_below m l n v h_m h_l)
    ∙ ap (slice_index x) (omega arith)
    ∙ sym (column_at (k * n) v l x (i * n + m) (place_below i m k n h_i h_m))))
    ∙ sym (on_columns_at (k * n) v (on_blocks k n a) x ((i * n + j) * v + l) (i * n + j) l (place_below i j k n h_i h_j) h_l refl
    ∙ on_blocks_at k n a (column (k * n) v l x) (i * n + j) i j h_i h_j refl))

-- the blocks' size by another name
pub resized : (k m n : ℕ) (a : Operator) (x : List ℕ) → m ≡ n → on_blocks k m a x ≡ on_blocks k n a x
resized k m n a x e = ap (λ s. on_blocks k s a x) e

-- a stride permutation undone
turn-back : (v s : ℕ) (y : List ℕ) → turn s v (turn v s y) ≡ list_below (s * v) (slice_index y)
turn-back v s y =
    list_below-same_rows s v _ _ (λ i j row below.
    ap₂ (λ b a. slice_index (turn v s y) (b * s + a)) (column-of i j v below) (row-of i j v below)
    ∙ at-stride v s y j i below row)

pub copied-blocks : (q n : ℕ) (y : List ℕ) → on_blocks q n (λ z. list_below n (slice_index z)) y ≡ list_below (q * n)
    (slice_index y)
copied-blocks q n y =
    list_below-same_rows q n _ _ (λ a b row below.
    ap₂ (λ i j. slice_index (list_below n (slice_index (block n i y))) j) (row-of a b n below) (column-of a b n below)
    ∙ at-list_below n _ b below
    ∙ block_at n a y b below)

pub into_groups-parted : (q v s : ℕ) (y : List ℕ) → on_blocks q (v * s) (turn s v) (on_blocks q (v * s) (turn v s) y)
    ≡ list_below (q * (v * s)) (slice_index y)
into_groups-parted q v s y =
    sym (tensor_of_product (v * s) q (turn s v) (turn v s) y (λ z. length-list_below _ _)).1
    ∙ on_blocks-same q (v * s) _ _ y (λ z. turn-back v s z ∙ ap (λ n. list_below n (slice_index z)) (mul_comm s v))
    ∙ copied-blocks q (v * s) y

-- a matrix on rows, by lanes
pub rows_by_lanes : (q v s : ℕ) (a : Operator) (y : List ℕ) →
    on_blocks (q * v) s a y ≡ on_blocks q (v * s) (turn v s)
    (on_columns (q * s) v (on_blocks q s a) (on_blocks q (v * s) (turn s v) y))
rows_by_lanes q v s a y =
    let n = v * s in
    let turned : s * v ≡ n = mul_comm s v in
    lanes_of_blocks q v s a y
    ∙ (tensor_of_product n q (turn v s) (λ z. on_columns s v a (turn s v z)) y (λ z. length-list_below _ _ ∙ turned)).1
    ∙ ap (on_blocks q n (turn v s))
    ((tensor_of_product n q (on_columns s v a) (turn s v) y (λ z. length-list_below _ _ ∙ turned)).1
    ∙ resized q n (s * v) (on_columns s v a) (on_blocks q n (turn s v) y) (sym turned)
    ∙ blocks_of_columns q s v a (on_blocks q n (turn s v) y))

-- tiles, and then their vectors
pub tiles_then_vectors : (q v t : ℕ) (y : List ℕ) →
    on_blocks q (v * (t * v)) (turn v (t * v)) y ≡ on_columns (q * (v * t)) v (on_blocks q (v * t) (turn v t))
    (on_blocks q (t * (v * v)) (on_blocks t (v * v) (turn v v)) y)
tiles_then_vectors q v t y =
    let n = v * (t * v) in
    let tiled : t * (v * v) ≡ n = omega arith in
    let wide : n ≡ v * t * v = omega arith in
    let inner = on_blocks q n (on_blocks t (v * v) (turn v v)) y in
    on_blocks-same q n _ _ y (λ z. tiles_first t v z)
    ∙ (tensor_of_product n q (on_columns (v * t) v (turn v t)) (on_blocks t (v * v) (turn v v)) y (λ z. length-list_below _ _ ∙ tiled)).1
    ∙ resized q n (v * t * v) (on_columns (v * t) v (turn v t)) inner wide
    ∙ blocks_of_columns q (v * t) v (turn v t) inner
    ∙ ap (on_columns (q * (v * t)) v (on_blocks q (v * t) (turn v t))) (resized q n (t * (v * v)) (on_blocks t (v * v) (turn v v)) y (sym tiled))

-- vectors, and then tiles
pub vectors_then_tiles : (q v t : ℕ) (y : List ℕ) →
    on_blocks q (v * (t * v)) (turn (t * v) v) y ≡ on_blocks q (t * (v * v)) (on_blocks t (v * v) (turn v v))
    (on_columns (q * (t * v)) v (on_blocks q (t * v) (turn t v)) y)
vectors_then_tiles q v t y =
    let n = v * (t * v) in
    let tiled : n ≡ t * (v * v) = omega arith in
    let wide : t * v * v ≡ n = omega arith in
    on_blocks-same q n _ _ y (λ z. tiles_last t v z)
    ∙ (tensor_of_product n q (on_blocks t (v * v) (turn v v)) (on_columns (t * v) v (turn t v)) y (λ z. length-list_below _ _ ∙ wide)).1
    ∙ resized q n (t * (v * v)) (on_blocks t (v * v) (turn v v)) (on_blocks q n (on_columns (t * v) v (turn t v)) y) tiled
    ∙ ap (on_blocks q (t * (v * v)) (on_blocks t (v * v) (turn v v)))
    (resized q n (t * v * v) (on_columns (t * v) v (turn t v)) y (sym wide) ∙ blocks_of_columns q (t * v) v (turn t v) y)
