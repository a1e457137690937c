-- Lazy residues: words below a multiple of m that stand for residues.
use Rattle.std.proofs.Common.{◌≡◌, ℕ, ◌+◌, ◌-◌, ◌*◌, ◌/◌, ◌%◌, ◌<◌, ◌≤◌, arith, refl, sym, ap, ◌∙◌, subst}
use Rattle.std.proofs.Common.{mul-le-mul_left, ⊎_elim, inl, inr, min, cond, true, false, ap₂}
use Rattle.std.proofs.Math.Nat.{add-mod, add-mul-mod_self_left, mul-add-mod_self_right, mod-eq_of_lt, mod-mod}
use Rattle.std.proofs.Math.Nat.{min-eq_left, min-eq_right, div-mul-le_self}
use Rattle.std.proofs.lemmas.Nat.{div-add-mod', mul-lt, mul-mod_first, mod_below, div_below, le-div}
use Rattle.std.proofs.lemmas.Bool.{cases_lt}
use Rattle.ring_mod.specs.Residue.{sum_mod, difference_mod, negation_mod, product_mod}
use Rattle.ring_mod.proofs.Congruence.{same-add}
use Rattle.word_code.specs.Words.{Width, base_of, wrapped_sum, wrapped_difference, high, rough_high, high_of}
use Rattle.word_code.specs.Words.{quotient_of, lazy_product, product_bound, biased_difference, reduced}

div_over : (n k : ℕ) → 0 < k → n < (n / k + 1) * k
div_over n k pos = omega (arith, div-add-mod' n k, mod_below n k pos)

cancel_le : (a b c : ℕ) → 0 < c → a * c ≤ b * c → a ≤ b
cancel_le a b c pos h =
    ⊎_elim
    (λ (lt : b < a). absurd (let up : b + 1 ≤ a = omega arith in omega (arith, h, mul-le-mul_left c up)))
    (λ (le : a ≤ b). le)
    (cases_lt b a)

cancel_lt : (a b c : ℕ) → a * c < b * c → a < b
cancel_lt a b c h =
    ⊎_elim
    (λ (lt : a < b). lt)
    (λ (le : b ≤ a). absurd (omega (arith, h, mul-le-mul_left c le)))
    (cases_lt a b)

-- words wrap, and differences that fit are the plain ones
pub wraps_back : (base x y d : ℕ) → x ≡ y + d → d < base → wrapped_difference base (x % base) (y % base) ≡ d
wraps_back base x y d e small =
    sym (add-mul-mod_self_left (x % base + (base - y % base)) base (x / base))
    ∙ ap (λ n. n % base) whole
    ∙ add-mul-mod_self_left d base (y / base + 1)
    ∙ mod-eq_of_lt small
  where
    whole : x % base + (base - y % base) + base * (x / base) ≡ d + base * (y / base + 1)
    whole =
        let a = div-add-mod' x base in
        let b = div-add-mod' y base in
        let pos : 0 < base = omega arith in
        let c = mod_below y base pos in
        let f : base * (y / base + 1) ≡ y / base * base + base = omega arith in
        omega arith

-- the same of numbers that are below the base
pub plain_difference : (base x y : ℕ) → y ≤ x → x < base → wrapped_difference base x y ≡ x - y
plain_difference base x y le small =
    let small_y : y < base = omega arith in
    let small_d : x - y < base = omega arith in
    let e : x ≡ y + (x - y) = omega arith in
    let a = mod-eq_of_lt {n = x} {m = base} small in
    sym (ap (λ n. wrapped_difference base n y) (mod-eq_of_lt small)
    ∙ refl)
    ∙ ap (λ n. wrapped_difference base (x % base) n) (sym (mod-eq_of_lt small_y))
    ∙ wraps_back base x y (x - y) e small_d

-- The high half of a product, or what may be 2 below it

-- a product by its four parts
by_parts : (half a1 a0 b1 b0 a b : ℕ) → a1 * half + a0 ≡ a → b1 * half + b0 ≡ b →
    a * b ≡ a1 * b1 * (half * half) + half * (a1 * b0) + half * (a0 * b1) + a0 * b0
by_parts half a1 a0 b1 b0 a b ea eb = ap₂ (λ x y. x * y) (sym ea) (sym eb) ∙ omega arith

rough_under : (half a b : ℕ) → 0 < half → rough_high half a b ≤ high (half * half) a b
rough_under half a b pos =
    le-div (rough_high half a b) (a * b) (half * half) (mul-lt 0 0 half half pos pos) enough
  where
    enough : rough_high half a b * (half * half) ≤ a * b
    enough =
        let ea = div-add-mod' a half in
        let eb = div-add-mod' b half in
        parts (a / half) (a % half) (b / half) (b % half) a b ea eb
      where
        parts : (a1 a0 b1 b0 a b : ℕ) → a1 * half + a0 ≡ a → b1 * half + b0 ≡ b →
            (a1 * b1 + a1 * b0 / half + a0 * b1 / half) * (half * half) ≤ a * b
        parts a1 a0 b1 b0 a b ea eb =
            let u = mul-le-mul_left half (div-mul-le_self (a1 * b0) half) in
            let v = mul-le-mul_left half (div-mul-le_self (a0 * b1) half) in
            omega (arith, u, v, by_parts half a1 a0 b1 b0 a b ea eb)

rough_over : (half a b : ℕ) → 0 < half → high (half * half) a b ≤ rough_high half a b + 2
rough_over half a b pos =
    let less : high (half * half) a b < rough_high half a b + 3 = div_below (a * b) (half * half) (rough_high half a b + 3) (mul-lt 0 0 half half pos pos) enough in
    omega arith
  where
    enough : a * b < (rough_high half a b + 3) * (half * half)
    enough =
        parts (a / half) (a % half) (b / half) (b % half) a b (div-add-mod' a half) (div-add-mod' b half) (mod_below a half pos) (mod_below b half pos)
      where
        parts : (a1 a0 b1 b0 a b : ℕ) → a1 * half + a0 ≡ a → b1 * half + b0 ≡ b → a0 < half → b0 < half →
            a * b < (a1 * b1 + a1 * b0 / half + a0 * b1 / half + 3) * (half * half)
        parts a1 a0 b1 b0 a b ea eb sa sb =
            let pu : a1 * b0 ≤ (a1 * b0 / half + 1) * half = let s = div_over (a1 * b0) half pos in omega arith in
            let pv : a0 * b1 ≤ (a0 * b1 / half + 1) * half = let s = div_over (a0 * b1) half pos in omega arith in
            let u = mul-le-mul_left half pu in
            let v = mul-le-mul_left half pv in
            let low = mul-lt a0 b0 half half sa sb in
            omega (arith, u, v, low, by_parts half a1 a0 b1 b0 a b ea eb)

high_is : (w : Width) (a b : ℕ) → 0 < w.half → (high_of w a b ≤ high (base_of w) a b)
    × (high (base_of w) a b + 2 ≤ high_of w a b + product_bound w)
high_is w a b pos =
    elim w.rough as (λ r. (cond r (rough_high w.half a b) (high (base_of w) a b) ≤ high (base_of w) a b) × (high (base_of w) a b + 2 ≤ cond r (rough_high w.half a b) (high (base_of w) a b) + cond r 4 2)) [
      | true ↦ (rough_under w.half a b pos, let h = rough_over w.half a b pos in omega arith)
      | false ↦ (omega arith, omega arith)
    ]

pub two_at_least : (w : Width) → 2 ≤ product_bound w
two_at_least w = elim w.rough as (λ r. 2 ≤ cond r 4 2) [ true ↦ omega arith | false ↦ omega arith ]

-- A product by a known factor, with a quotient h that is up to bound - 2 too small
module _ (base m a c h bound : ℕ) (whole : 0 < base) (positive : 0 < m) (small : a < base) where
  abbrev q : ℕ
  q = quotient_of base m c

  product_under : h ≤ high base a q → h * m ≤ a * c
  product_under le =
      let e1 : h * base ≤ a * q = let x = mul-le-mul_left base le in omega (arith, x, div-mul-le_self (a * q) base) in
      let e2 = mul-le-mul_left m e1 in
      let e3 = mul-le-mul_left a (div-mul-le_self (c * base) m) in
      cancel_le (h * m) (a * c) base whole (omega (arith, e2, e3))

  product_over : high base a q + 2 ≤ h + bound → a * c < (h + bound) * m
  product_over le =
      let f1 : a * q + a + 1 ≤ (high base a q + 2) * base = let s = div_over (a * q) base whole in omega arith in
      let f2 = mul-le-mul_left m f1 in
      let f3 : c * base ≤ (q + 1) * m = let s = div_over (c * base) m positive in omega arith in
      let f4 = mul-le-mul_left a f3 in
      let f5 = mul-le-mul_left (m * base) le in
      cancel_lt (a * c) ((h + bound) * m) base (omega (arith, f2, f4, f5, positive))

-- it is congruent to the product, and below a number of times m
pub product_word : (w : Width) (m a c q : ℕ) → 0 < w.half → 0 < m → product_bound w * m ≤ base_of w → a < base_of w →
    q ≡ quotient_of (base_of w) m c →
    (product_mod m (a % m) c ≡ lazy_product w m a c q % m) × (lazy_product w m a c q < product_bound w * m)
product_word w m a c q pos positive room small is =
    let base = base_of w in
    let whole : 0 < base_of w = mul-lt 0 0 w.half w.half pos pos in
    let h = high_of w a (quotient_of (base_of w) m c) in
    let near = high_is w a (quotient_of (base_of w) m c) pos in
    let under : h * m ≤ a * c = product_under (base_of w) m a c h (product_bound w) whole positive small near.0 in
    let over : a * c < (h + product_bound w) * m = product_over (base_of w) m a c h (product_bound w) whole positive small near.1 in
    let e : a * c ≡ h * m + (a * c - h * m) = omega arith in
    let below : a * c - h * m < product_bound w * m = omega (arith, under, over) in
    let whole_a : lazy_product w m a c (quotient_of (base_of w) m c) ≡ wrapped_difference (base_of w) (a * c % base_of w) (h * m % base_of w) =
    ap (λ n. wrapped_difference (base_of w) (a * c % base_of w) (high_of w n (quotient_of (base_of w) m c) * m % base_of w)) (mod-eq_of_lt small) in
    let value : lazy_product w m a c q ≡ a * c - h * m = ap (lazy_product w m a c) is ∙ whole_a ∙ wraps_back (base_of w) (a * c) (h * m) (a * c - h * m) e (omega (arith, below, room)) in (
      mul-mod_first a c m ∙ ap (λ n. n % m) e ∙ mul-add-mod_self_right h m (a * c - h * m) ∙ sym (ap (λ n. n % m) value),
      subst (λ n. n < product_bound w * m) (sym value) below,
    )

-- Sums and differences

pub sum_word : (base m p q a b : ℕ) → p + q ≤ base → a < p → b < q →
    (sum_mod m (a % m) (b % m) ≡ wrapped_sum base a b % m) × (wrapped_sum base a b < p + q)
sum_word base m p q a b room lp lq =
    let small : a + b < base = omega arith in
    let value : wrapped_sum base a b ≡ a + b = mod-eq_of_lt small in
    (sym (add-mod a b m) ∙ sym (ap (λ n. n % m) value), subst (λ n. n < p + q) (sym value) (omega arith))

-- a multiple of m minus b is congruent to m minus b's residue
turned : (m k b : ℕ) → 0 < m → b < k * m → (m - b % m) % m ≡ (k * m - b) % m
turned m k b positive below =
    sym (add-mul-mod_self_left (m - b % m) m k)
    ∙ ap (λ n. n % m) whole
    ∙ add-mul-mod_self_left (k * m - b) m (b / m + 1)
  where
    whole : m - b % m + m * k ≡ k * m - b + m * (b / m + 1)
    whole =
        let a = div-add-mod' b m in
        let c = mod_below b m positive in
        let f : m * (b / m + 1) ≡ b / m * m + m = omega arith in
        omega arith

pub difference_word : (base m p k a b : ℕ) → 0 < m → p + k * m ≤ base → a < p → b < k * m →
    (difference_mod m (a % m) (b % m) ≡ biased_difference base (k * m) a b % m)
    × (biased_difference base (k * m) a b < p + k * m)
difference_word base m p k a b positive room lp lq =
    let small : a + k * m < base = omega arith in
    let value : biased_difference base (k * m) a b ≡ a + (k * m - b) =
    ap (λ n. wrapped_difference base n b) (mod-eq_of_lt small) ∙ plain_difference base (a + k * m) b (omega arith) small ∙ omega arith in (
      same-add m (a % m) a (m - b % m) (k * m - b) (mod-mod a m) (turned m k b positive lq) ∙ sym (ap (λ n. n % m) value),
      subst (λ n. n < p + k * m) (sym value) (omega arith),
    )

pub negation_word : (base m k b : ℕ) → 0 < m → (k + 1) * m ≤ base → b < k * m →
    (negation_mod m (b % m) ≡ wrapped_difference base (k * m) b % m) × (wrapped_difference base (k * m) b < (k + 1) * m)
negation_word base m k b positive room lq =
    let small : k * m < base = omega arith in
    let value : wrapped_difference base (k * m) b ≡ k * m - b = plain_difference base (k * m) b (omega arith) small in
    (turned m k b positive lq ∙ sym (ap (λ n. n % m) value), subst (λ n. n < (k + 1) * m) (sym value) (omega arith))

-- A reduction by half of a bound, or more

pub reduced_word : (base m h p a : ℕ) → 0 < m → p ≤ 2 * (h * m) → h * m < base → a < base → a < p →
    (a % m ≡ reduced base (h * m) a % m) × (reduced base (h * m) a < h * m)
reduced_word base m h p a positive enough room small lp =
    elim (cases_lt a (h * m)) [
      | inl lt ↦
          let fits : a + (base - h * m) < base = omega arith in
          let other : wrapped_difference base a (h * m) ≡ a + (base - h * m) = mod-eq_of_lt fits in
          let value : reduced base (h * m) a ≡ a = ap (min a) other ∙ min-eq_left (omega arith) in
          (ap (λ n. n % m) (sym value), subst (λ n. n < h * m) (sym value) lt)
      | inr le ↦
          let other : wrapped_difference base a (h * m) ≡ a - h * m = plain_difference base a (h * m) le small in
          let value : reduced base (h * m) a ≡ a - h * m = ap (min a) other ∙ min-eq_right (omega arith) in
          let e : a ≡ h * m + (a - h * m) = omega arith in (
            ap (λ n. n % m) e ∙ mul-add-mod_self_right h m (a - h * m) ∙ sym (ap (λ n. n % m) value),
            subst (λ n. n < h * m) (sym value) (omega arith),
          )
    ]
