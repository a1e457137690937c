-- The loops of a pass: how often they run, and how many they are.
use Rattle.sigma_lower.proofs.Words.{◌≡◌, ℕ, zero, suc, ◌*◌, ◌^◌, ◌<◌, ◌≤◌, arith, refl, sym, ap, List, [], ◌∷◌, length}
use Rattle.sigma_lower.proofs.Words.{inl, inr, subst, le-mul_of_pos_right, All, map, drop, pow-succ', pow_mono}
use Rattle.sigma_lower.proofs.Words.{cases_lt, All-nil, All-cons, All-tail, mul-le, AreSeveral, Path, copies_of}
use Rattle.sigma_lower.proofs.Words.{count_of, size_under-copies, le-times}
use Rattle.sigma_spl.proofs.Small.{size-positive}

-- what a loop's count may be
abbrev pub IsCount : ℕ → Type 0
IsCount k = (2 ≤ k) × (k ≤ 1048576)

pub loop-counts : (path : Path) → AreSeveral path → copies_of path ≤ 1048576 → All IsCount (map count_of path)
loop-counts [] wide high = All-nil IsCount
loop-counts (t ∷ path) wide high =
    let some : 0 < copies_of path = omega (arith, size-positive path 1 wide.1 (omega arith), size_under-copies path 1) in
    let count : count_of t ≤ count_of t * copies_of path = le-mul_of_pos_right {m = copies_of path} (count_of t) some in
    let rest : copies_of path ≤ count_of t * copies_of path =
    le-times (count_of t) (copies_of path) (omega (arith, wide.0)) in
    All-cons IsCount (count_of t) (map count_of path) (wide.0, omega arith) (loop-counts path wide.1 (omega arith))

pub counts-drop : (k : ℕ) (xs : List ℕ) → All IsCount xs → All IsCount (drop k xs)
counts-drop zero xs h = h
counts-drop (suc k) [] h = All-nil IsCount
counts-drop (suc k) (x ∷ xs) h = counts-drop k xs (All-tail IsCount x xs h)

pub length-drop : (k : ℕ) (xs : List ℕ) → length (drop k xs) ≤ length xs
length-drop (suc k) (x ∷ xs) = omega (arith, length-drop k xs)
length-drop _ _ = omega arith

pub length-tensors : (path : Path) → length (map count_of path) ≡ length path
length-tensors [] = refl
length-tensors (t ∷ path) = ap suc (length-tensors path)

twice : (k c size : ℕ) → 2 ≤ c → 2 ^ k ≤ size → 2 ^ suc k ≤ c * size
twice k c size two h = subst (λ p. p ≤ c * size) (sym (pow-succ' 2 k)) (mul-le 2 (2 ^ k) c size two h)

pub path-weight : (path : Path) → AreSeveral path → 2 ^ length path ≤ copies_of path
path-weight [] wide = omega arith
path-weight (t ∷ path) wide = twice (length path) (count_of t) (copies_of path) wide.0 (path-weight path wide.1)

pub weight-small : (k : ℕ) → 2 ^ k ≤ 1048576 → k ≤ 20
weight-small k h =
    elim (cases_lt 20 k) [
      | inl large ↦ let low : 2 ^ 21 ≤ 2 ^ k = pow_mono {i = 21} {j = k} (omega arith) in absurd (omega arith)
      | inr small ↦ small
    ]
