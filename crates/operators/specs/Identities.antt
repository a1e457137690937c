-- The identities by which products of tensors are rewritten. Each holds for every matrix of the size shown.
use Rattle.std.specs.Prelude.{◌≡◌, ℕ, ◌+◌, ◌*◌, ◌/◌, ◌%◌, ◌<◌, List, length}
use Rattle.operators.specs.Operator.{Operator, gather, scale, on_columns, on_blocks, on_each_block, stride}

-- the operator gives lists of n items
abbrev pub HasSize : ℕ → Operator → Type 0
HasSize n a = (x : List ℕ) → length (a x) ≡ n

-- the stride permutation L(r * s, r)
abbrev pub turn : ℕ → ℕ → Operator
turn r s = gather (r * s) (stride r s)

-- `(A B) tensor I_k` is `(A tensor I_k) (B tensor I_k)`, and `I_k tensor (A B)` is `(I_k tensor A) (I_k tensor B)`
abbrev pub TensorOfProduct : Type 0
TensorOfProduct =
    (n k : ℕ) (a b : Operator) (x : List ℕ) → HasSize n b →
    (on_columns n k (λ y. a (b y)) x ≡ on_columns n k a (on_columns n k b x))
    × (on_blocks k n (λ y. a (b y)) x ≡ on_blocks k n a (on_blocks k n b x))

-- For n = p * q: `A tensor I_n` is `(L(m * p, m) tensor I_q) (I_p tensor (A tensor I_q)) (L(m * p, p) tensor I_q)`
abbrev pub ColumnsInBlocks : Type 0
ColumnsInBlocks =
    (m p q : ℕ) (a : Operator) (x : List ℕ) →
    on_columns m (p * q) a x ≡ on_columns (m * p) q (turn m p) (on_blocks p (m * q) (on_columns m q a) (on_columns (p * m) q (turn p m) x))

-- For m = p * q: `L(m * n, m)` is `(I_p tensor L(q * n, q)) (L(p * n, p) tensor I_q)`
abbrev pub TurnInBlocks : Type 0
TurnInBlocks =
    (p q n : ℕ) (x : List ℕ) →
    turn (p * q) n x ≡ on_blocks p (q * n) (turn q n) (on_columns (p * n) q (turn p n) x)

-- For m = p * q: `I_m tensor A` is `I_p tensor (I_q tensor A)`
abbrev pub BlocksInBlocks : Type 0
BlocksInBlocks =
    (p q n : ℕ) (a : Operator) (x : List ℕ) →
    on_blocks (p * q) n a x ≡ on_blocks p (q * n) (on_blocks q n a) x

-- For s = q * v: `A tensor I_s` is `(A tensor I_q) tensor I_v`
abbrev pub ColumnsInColumns : Type 0
ColumnsInColumns =
    (r q v : ℕ) (a : Operator) (x : List ℕ) →
    on_columns r (q * v) a x ≡ on_columns (r * q) v (on_columns r q a) x

-- For r = q * v: `(I_r tensor S) L(r * s, r)` is `(I_q tensor (L(s * v, v) (S tensor I_v))) (L(q * s, q) tensor I_v)`
abbrev pub LanesAfterTurn : Type 0
LanesAfterTurn =
    (q v s : ℕ) (a : Operator) (x : List ℕ) →
    on_blocks (q * v) s a (turn (q * v) s x) ≡ on_blocks q (v * s) (λ y. turn v s (on_columns s v a y)) (on_columns (q * s) v (turn q s) x)

-- For r = q * v: `I_r tensor S` is `I_q tensor (L(s * v, v) (S tensor I_v) L(s * v, s))`
abbrev pub LanesOfBlocks : Type 0
LanesOfBlocks =
    (q v s : ℕ) (a : Operator) (x : List ℕ) →
    on_blocks (q * v) s a x ≡ on_blocks q (v * s) (λ y. turn v s (on_columns s v a (turn s v y))) x

-- For s = q * v: `L(s * v, v)` is `(L(s, v) tensor I_v) (I_q tensor L(v * v, v))`
abbrev pub TilesFirst : Type 0
TilesFirst =
    (q v : ℕ) (x : List ℕ) →
    turn v (q * v) x ≡ on_columns (v * q) v (turn v q) (on_blocks q (v * v) (turn v v) x)

-- For s = q * v: `L(s * v, s)` is `(I_q tensor L(v * v, v)) (L(s, q) tensor I_v)`
abbrev pub TilesLast : Type 0
TilesLast =
    (q v : ℕ) (x : List ℕ) →
    turn (q * v) v x ≡ on_blocks q (v * v) (turn v v) (on_columns (q * v) v (turn q v) x)

-- A diagonal of p * q items is the direct sum of p diagonals of q items
abbrev pub DiagonalInBlocks : Type 0
DiagonalInBlocks =
    (m p q : ℕ) (c : ℕ → ℕ) (x : List ℕ) →
    scale m (p * q) c x ≡ on_each_block p q (λ i. scale m q (λ j. c (i * q + j))) x

-- the place from which `Q tensor I_k` takes its item, for a Q that takes the item f i to each place i
abbrev pub widened : ℕ → (ℕ → ℕ) → ℕ → ℕ
widened k f p = f (p / k) * k + p % k

-- A gather of n items by f moves whole lines of v items: what goes to a line is a line, item by item
abbrev pub MovesWholeLines : ℕ → ℕ → (ℕ → ℕ) → Type 0
MovesWholeLines v n f = (t l : ℕ) → l < v → t * v + l < n → (f (t * v) % v ≡ 0) × (f (t * v + l) ≡ f (t * v) + l)

-- For k = q * v: `Q tensor I_k`, for a permutation Q, moves whole lines of v items
abbrev pub WholeLines : Type 0
WholeLines =
    (m q v : ℕ) (f : ℕ → ℕ) (x : List ℕ) → ((i : ℕ) → i < m → f i < m) →
    (on_columns m (q * v) (gather m f) x ≡ gather (m * (q * v)) (widened (q * v) f) x)
    × MovesWholeLines v (m * (q * v)) (widened (q * v) f)
