-- Rounds of a loop in groups of as many.
use Rattle.std.proofs.Common.{◌≡◌, ℕ, zero, suc, ◌+◌, ◌*◌, List, ◌∷◌, ◌++◌, flat_map, refl, ap, ap₂, ◌∙◌, arith}
use Rattle.std.specs.List.{range_with_len}
use Rattle.std.proofs.lemmas.List.Concat.{flat_map-append}

range-split : (a m n : ℕ) → range_with_len a (m + n) ≡ range_with_len a m ++ range_with_len (a + m) n
range-split a zero n =
    let one : zero + n ≡ n = omega arith in
    let two : a ≡ a + zero = omega arith in
    ap₂ range_with_len two one
range-split a (suc m) n =
    let one : suc m + n ≡ suc (m + n) = omega arith in
    let two : a + 1 + m ≡ a + suc m = omega arith in
    ap (range_with_len a) one
    ∙ ap (λ is. a ∷ is) (range-split (a + 1) m n ∙ ap (λ k. range_with_len (a + 1) m ++ range_with_len k n) two)

-- rounds that are counted from elsewhere
rounds-from : {X : Type 0} (f : ℕ → List X) (a b n : ℕ) →
    flat_map f (range_with_len (a + b) n) ≡ flat_map (λ i. f (a + i)) (range_with_len b n)
rounds-from f a b zero = refl
rounds-from f a b (suc n) =
    let next : a + b + 1 ≡ a + (b + 1) = omega arith in
    ap (λ xs. f (a + b) ++ xs) (ap (λ k. flat_map f (range_with_len k n)) next ∙ rounds-from f a (b + 1) n)

-- n groups of v rounds, from group a on
groups-from : {X : Type 0} (f : ℕ → List X) (v n a : ℕ) →
    flat_map f (range_with_len (v * a) (v * n)) ≡ flat_map (λ b. flat_map (λ l. f (v * b + l)) (range_with_len 0 v))
    (range_with_len a n)
groups-from f v zero a =
    let none : v * zero ≡ 0 = omega arith in
    ap (λ k. flat_map f (range_with_len (v * a) k)) none
groups-from f v (suc n) a =
    let many : v * suc n ≡ v + v * n = omega arith in
    let next : v * a + v ≡ v * (a + 1) = omega arith in
    let first : v * a ≡ v * a + 0 = omega arith in
    ap (λ k. flat_map f (range_with_len (v * a) k)) many
    ∙ ap (flat_map f) (range-split (v * a) v (v * n))
    ∙ flat_map-append f (range_with_len (v * a) v) (range_with_len (v * a + v) (v * n))
    ∙ ap₂ (λ xs ys. xs ++ ys)
    (ap (λ k. flat_map f (range_with_len k v)) first ∙ rounds-from f (v * a) 0 v)
    (ap (λ k. flat_map f (range_with_len k (v * n))) next ∙ groups-from f v n (a + 1))

pub in_groups : {X : Type 0} (f : ℕ → List X) (v n count : ℕ) → count ≡ v * n →
    flat_map f (range_with_len 0 count) ≡ flat_map (λ b. flat_map (λ l. f (v * b + l)) (range_with_len 0 v))
    (range_with_len 0 n)
in_groups f v n count many =
    let start : 0 ≡ v * 0 = omega arith in
    ap₂ (λ a n. flat_map f (range_with_len a n)) start many ∙ groups-from f v n 0
