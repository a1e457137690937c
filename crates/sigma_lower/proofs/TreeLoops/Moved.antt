-- Sums put together in another order: tensors that trade places, two tensors of columns as one, and a tensor of one copy.
use Rattle.sigma_lower.proofs.Words.{◌≡◌, ℕ, ◌-◌, ◌*◌, ◌≤◌, arith, sym, ap, ap₂, ◌∙◌, List, ◌∷◌, le-mul_of_pos_right}
use Rattle.sigma_lower.proofs.Words.{Fits, Sum, constant, variable, remainder, quotient, scaled, added, added-end}
use Rattle.sigma_lower.proofs.Words.{scaled-one, Blocks, Columns, Path, size_under, added-zero}
use Rattle.sigma_lower.proofs.TreeLoops.InCopies.{placed}

-- ---- the algebra of sums

pub added-assoc : (a b e : Sum) → added (added a b) e ≡ added a (added b e)
added-assoc (constant c) (constant d) (constant k) = ap constant (omega arith)
added-assoc (constant c) (constant d) (variable f v rest) = ap (variable f v) (added-assoc (constant c) (constant d) rest)
added-assoc (constant c) (constant d) (remainder f of m rest) = ap (remainder f of m) (added-assoc (constant c) (constant d) rest)
added-assoc (constant c) (constant d) (quotient f of m rest) = ap (quotient f of m) (added-assoc (constant c) (constant d) rest)
added-assoc (constant c) (variable f v rest) e = ap (variable f v) (added-assoc (constant c) rest e)
added-assoc (constant c) (remainder f of m rest) e = ap (remainder f of m) (added-assoc (constant c) rest e)
added-assoc (constant c) (quotient f of m rest) e = ap (quotient f of m) (added-assoc (constant c) rest e)
added-assoc (variable f v rest) b e = ap (variable f v) (added-assoc rest b e)
added-assoc (remainder f of m rest) b e = ap (remainder f of m) (added-assoc rest b e)
added-assoc (quotient f of m rest) b e = ap (quotient f of m) (added-assoc rest b e)

pub scaled-added : (k : ℕ) (a e : Sum) → scaled k (added a e) ≡ added (scaled k a) (scaled k e)
scaled-added k (constant c) (constant d) = ap constant (omega arith)
scaled-added k (constant c) (variable f v rest) = ap (variable (k * f) v) (scaled-added k (constant c) rest)
scaled-added k (constant c) (remainder f of m rest) = ap (remainder (k * f) of m) (scaled-added k (constant c) rest)
scaled-added k (constant c) (quotient f of m rest) = ap (quotient (k * f) of m) (scaled-added k (constant c) rest)
scaled-added k (variable f v rest) e = ap (variable (k * f) v) (scaled-added k rest e)
scaled-added k (remainder f of m rest) e = ap (remainder (k * f) of m) (scaled-added k rest e)
scaled-added k (quotient f of m rest) e = ap (quotient (k * f) of m) (scaled-added k rest e)

pub scaled-scaled : (j k : ℕ) (e : Sum) → scaled j (scaled k e) ≡ scaled (j * k) e
scaled-scaled j k (constant c) = ap constant (omega arith)
scaled-scaled j k (variable f v rest) = ap₂ (λ g r. variable g v r) (omega arith) (scaled-scaled j k rest)
scaled-scaled j k (remainder f of m rest) = ap₂ (λ g r. remainder g of m r) (omega arith) (scaled-scaled j k rest)
scaled-scaled j k (quotient f of m rest) = ap₂ (λ g r. quotient g of m r) (omega arith) (scaled-scaled j k rest)

-- ---- tensors

-- blocks of columns are columns of blocks
pub placed-swap : (b c : ℕ) (path : Path) (n : ℕ) (u w : Sum) (us : List Sum) (e : Sum) →
    placed (Blocks b ∷ Columns c ∷ path) n (u ∷ w ∷ us) e ≡ placed (Columns c ∷ Blocks b ∷ path) n (w ∷ u ∷ us) e
placed-swap b c path n u w us e =
    let inner = placed path n us e in
    let size = size_under path n in
    ap (λ g. added g (added (scaled c inner) w)) (ap (λ k. scaled k u) (omega arith) ∙ sym (scaled-scaled c size u))
    ∙ sym (added-assoc (scaled c (scaled size u)) (scaled c inner) w)
    ∙ ap (λ g. added g w) (sym (scaled-added c (scaled size u) inner))

-- columns of columns are columns
pub placed-columns : (b c : ℕ) (path : Path) (n : ℕ) (u w : Sum) (us : List Sum) (e : Sum) →
    placed (Columns b ∷ Columns c ∷ path) n (u ∷ w ∷ us) e ≡ placed (Columns (b * c) ∷ path) n
    (added (scaled b w) u ∷ us) e
placed-columns b c path n u w us e =
    let inner = placed path n us e in
    ap (λ g. added g u) (scaled-added b (scaled c inner) w ∙ ap (λ g. added g (scaled b w)) (scaled-scaled b c inner))
    ∙ added-assoc (scaled (b * c) inner) (scaled b w) u

-- ---- one copy

-- what runs below 1 is 0
pub fits-one : (e : Sum) (cs : ℕ → ℕ) → Fits 1 e cs → e ≡ constant 0
fits-one (constant c) cs f = ap constant (omega (arith, f.small))
fits-one (variable k d rest) cs f = absurd (let more : k ≤ k * (cs d - 1) = le-mul_of_pos_right {m = cs d - 1} k (omega (arith, f.proper.1)) in omega (arith, f.small, f.proper.0))
fits-one (remainder k of m rest) cs f = absurd (let more : k ≤ k * (m - 1) = le-mul_of_pos_right {m = m - 1} k (omega (arith, f.proper.1)) in omega (arith, f.small, f.proper.0))
fits-one (quotient k of m rest) cs f = absurd f.proper

pub placed-one_block : (path : Path) (n : ℕ) (us : List Sum) (e : Sum) →
    placed (Blocks 1 ∷ path) n (constant 0 ∷ us) e ≡ placed path n us e
placed-one_block path n us e = ap (λ k. added (constant k) (placed path n us e)) (omega arith) ∙ added-zero (placed path n us e)

pub placed-one_column : (path : Path) (n : ℕ) (us : List Sum) (e : Sum) →
    placed (Columns 1 ∷ path) n (constant 0 ∷ us) e ≡ placed path n us e
placed-one_column path n us e = added-end (scaled 1 (placed path n us e)) ∙ scaled-one (placed path n us e)
