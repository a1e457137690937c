-- A quotient that is estimated from the front of a number and from a reciprocal of the divisor.
use Rattle.std.proofs.Common.{◌≡◌, ℕ, ◌+◌, ◌-◌, ◌*◌, ◌/◌, ◌%◌, ◌<◌, ◌≤◌, arith, sym, ap, ◌∙◌, mul-le-mul_left, ⊎_elim}
use Rattle.std.proofs.lemmas.Nat.{div-add-mod', mul-le, mul-lt, div_below, mod-mul-add, mod_below, div-mul-add}
use Rattle.std.proofs.lemmas.Bool.{cases_lt}

div_under : (n k : ℕ) → n / k * k ≤ n
div_under n k = omega (arith, div-add-mod' n k)

div_over : (n k : ℕ) → 0 < k → n < (n / k + 1) * k
div_over n k pos = omega (arith, div-add-mod' n k, mod_below n k pos)

cancel_le : (a b c : ℕ) → 0 < c → a * c ≤ b * c → a ≤ b
cancel_le a b c pos h =
    ⊎_elim
    (λ (lt : b < a). absurd (omega (arith, h, mul-le-mul_left c (lt_is lt))))
    (λ (le : a ≤ b). le)
    (cases_lt b a)
  where
    lt_is : b < a → b + 1 ≤ a
    lt_is h = omega arith

cancel_lt : (a b c : ℕ) → a * c < b * c → a < b
cancel_lt a b c h =
    ⊎_elim
    (λ (lt : a < b). lt)
    (λ (le : b ≤ a). absurd (omega (arith, h, mul-le-mul_left c le)))
    (cases_lt a b)

-- front * reciprocal / back estimates x / m, where the reciprocal is front and back of one over m
module _ (A B m x : ℕ) (a : 0 < A) (b : 0 < B) (positive : 0 < m) (low : A ≤ m) (small : x < A * B) where
  abbrev front : ℕ
  front = x / A

  abbrev reciprocal : ℕ
  reciprocal = A * B / m

  abbrev estimate : ℕ
  estimate = front * reciprocal / B

  whole : 0 < A * B
  whole = mul-lt 0 0 A B a b

  pub estimate_under : estimate * m ≤ x
  estimate_under =
      let e1 : estimate * B * (m * A) ≤ front * reciprocal * (m * A) = mul-le _ _ _ _ (div_under (front * reciprocal) B) (refl_le (m * A)) in
      let e2 : front * A * (reciprocal * m) ≤ x * (A * B) = mul-le _ _ _ _ (div_under x A) (div_under (A * B) m) in
      cancel_le (estimate * m) x (A * B) whole (omega (arith, e1, e2))
    where
      refl_le : (n : ℕ) → n ≤ n
      refl_le n = omega arith

  front_small : front < B
  front_small = div_below x A B a (omega arith)

  reciprocal_small : reciprocal ≤ B
  reciprocal_small =
      let e1 : reciprocal * A ≤ reciprocal * m = mul-le-mul_left reciprocal low in
      cancel_le reciprocal B A a (omega (arith, e1, div_under (A * B) m))

  pub estimate_over : x < (estimate + 3) * m
  estimate_over =
      let e1 : x * (A * B) < (front + 1) * A * ((reciprocal + 1) * m) = mul-lt _ _ _ _ (div_over x A a) (div_over (A * B) m positive) in
      let e2 : (front + 1) * (reciprocal + 1) ≤ (estimate + 3) * B = omega (arith, div_over (front * reciprocal) B b, front_small, reciprocal_small) in
      let e3 : (A * m) * ((front + 1) * (reciprocal + 1)) ≤ (A * m) * ((estimate + 3) * B) = mul-le-mul_left (A * m) e2 in
      cancel_lt x ((estimate + 3) * m) (A * B) (omega (arith, e1, e3))

-- what the estimate leaves, less the divisor twice where that is no more
pub rest_is : (x m q once twice : ℕ) → q * m ≤ x → x < (q + 3) * m → (x - q * m < m → once ≡ x - q * m) →
    (m ≤ x - q * m → once + m ≡ x - q * m) → (once < m → twice ≡ once) → (m ≤ once → twice + m ≡ once) → twice ≡ x % m
rest_is x m q once twice under over b1 a1 b2 a2 =
    ⊎_elim
    (λ (lt : x - q * m < m).
    let e : once ≡ x - q * m = b1 lt in
    let e2 : twice ≡ once = b2 (omega arith) in
    found q (omega (arith, e, e2, under)) (omega (arith, e, e2)))
    (λ (le : m ≤ x - q * m).
    let e : once + m ≡ x - q * m = a1 le in
    ⊎_elim
    (λ (lt2 : once < m).
    let e2 : twice ≡ once = b2 lt2 in
    found (q + 1) (omega (arith, e, e2, under)) (omega (arith, e2)))
    (λ (le2 : m ≤ once).
    let e2 : twice + m ≡ once = a2 le2 in
    found (q + 2) (omega (arith, e, e2, under)) (omega (arith, e, e2, under, over)))
    (cases_lt once m))
    (cases_lt (x - q * m) m)
  where
    found : (k : ℕ) → x ≡ k * m + twice → twice < m → twice ≡ x % m
    found k e lt = sym (ap (λ n. n % m) e ∙ mod-mul-add k m twice lt)

-- the remainder of a product by a divisor that was scaled with a factor
pub scaled_rest : (a b m s : ℕ) → 0 < m → 0 < s → (a * s * b) % (m * s) / s ≡ (a * b) % m
scaled_rest a b m s pos p =
    let parts : a * s * b ≡ (a * b / m) * (m * s) + (a * b) % m * s = omega (arith, ap (λ n. n * s) (div-add-mod' (a * b) m)) in
    let small : (a * b) % m * s < m * s = mul-lt_factor ((a * b) % m) m s (mod_below (a * b) m pos) p in
    let zero_less : (a * b) % m * s + 0 ≡ (a * b) % m * s = omega arith in
    ap (λ n. n % (m * s) / s) parts
    ∙ (ap (λ n. n / s) (mod-mul-add (a * b / m) (m * s) ((a * b) % m * s) small ∙ sym zero_less)
    ∙ div-mul-add ((a * b) % m) s 0 p)
  where
    mul-lt_factor : (r m s : ℕ) → r < m → 0 < s → r * s < m * s
    mul-lt_factor r m s lt p = omega (arith, mul-le-mul_left s (more r m lt))
      where
        more : (r m : ℕ) → r < m → r + 1 ≤ m
        more r m lt = omega arith
