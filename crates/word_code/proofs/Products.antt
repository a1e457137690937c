-- The product of two residues on words.
use Rattle.std.proofs.Common.{◌≡◌, ℕ, ◌+◌, ◌*◌, ◌/◌, ◌%◌, ◌<◌, ◌≤◌, Bool, true, false, refl, sym, ap, subst, ◌∙◌, arith}
use Rattle.std.proofs.Common.{mul-le-mul_left, ap₂}
use Rattle.std.specs.Prelude.{if◌then◌else◌}
use Rattle.std.proofs.Math.Nat.{add-mod, mod-eq_of_lt}
use Rattle.std.proofs.lemmas.Nat.{div-add-mod', div_below, mod_below, mul-lt, mul-mod_first}
use Rattle.ring_mod.proofs.Congruence.{same-add}
use Rattle.word_code.specs.Laws.{IsLazyWithin}
use Rattle.word_code.specs.Quicken.{PlainLaziness}
use Rattle.word_code.specs.Times.{residue_of, residue_by, times, TimesIsProduct}
use Rattle.word_code.specs.Words.{Width, base_of, sums_of, high, lazy_product, product_bound, quotient_of, reduced}
use Rattle.word_code.specs.Words.{wrapped_product}
use Rattle.word_code.proofs.Arithmetic.{product_word, reduced_word, two_at_least}

-- ---- residues of words that are below some times m

last_reduced : (base m a : ℕ) → 0 < m → 2 * m < base → a < 2 * m → reduced base m a ≡ a % m
last_reduced base m a pos room low =
    let one : 1 * m ≡ m = omega arith in
    let made : (a % m ≡ reduced base m a % m) × (reduced base m a < m) =
    subst (λ k. (a % m ≡ reduced base k a % m) × (reduced base k a < k)) one
    (reduced_word base m 1 (2 * m) a pos (omega arith) (omega (arith, room)) (omega (arith, room, low)) low) in
    sym (made.0 ∙ mod-eq_of_lt made.1)

both_reduced : (rough : Bool) (base m a : ℕ) → 0 < m → (if rough then 4 else 2) * m < base →
    a < (if rough then 4 else 2) * m →
    (if rough then reduced base m (reduced base (2 * m) a) else reduced base m a) ≡ a % m
both_reduced false base m a pos room low = last_reduced base m a pos room low
both_reduced true base m a pos room low =
    let first =
    reduced_word base m 2 (4 * m) a pos (omega arith) (omega (arith, room, pos)) (omega (arith, room, low)) low in
    last_reduced base m (reduced base (2 * m) a) pos (omega (arith, room, pos)) first.1 ∙ sym first.0

module _ (z : PlainLaziness) (m : ℕ) (lazy : IsLazyWithin z m) (pos : 0 < m) where
  -- products by known factors are below the base
  room : product_bound z.width * m < base_of z.width
  room =
      let up = mul-le-mul_left m lazy.product in
      let under = lazy.room in
      omega (arith, up, under)

  room_of_sums : product_bound z.width * m < sums_of z.width
  room_of_sums = let more = lazy.sums in let under = room in omega (arith, under, more)

  twice : 2 * m < sums_of z.width
  twice =
      let up = mul-le-mul_left m (two_at_least z.width) in
      let under = room_of_sums in
      omega (arith, up, under)

  -- a word times a factor
  by_factor : (a c : ℕ) → a < base_of z.width → residue_by z.width m a c ≡ a * c % m
  by_factor a c low =
      let base = base_of z.width in
      let q = quotient_of base m c in
      let under = room in
      let made = product_word z.width m a c q lazy.half pos (omega (arith, under)) low refl in
      both_reduced z.width.rough (sums_of z.width) m (lazy_product z.width m a c q) pos room_of_sums made.1
      ∙ sym made.0 ∙ mul-mod_first a c m

  -- ---- both parts of a product

  whole : (a b : ℕ) → let base = base_of z.width in (high base a b * (base % m) + a * b % base * 1) % m ≡ a * b % m
  whole a b =
      let base = base_of z.width in
      let h = a * b / base in
      let l = a * b % base in
      let turned : h * (base % m) ≡ base % m * h = omega arith in
      let back : base * h ≡ h * base = omega arith in
      let factor : h * (base % m) % m ≡ h * base % m =
      ap (λ n. n % m) turned ∙ mul-mod_first base h m ∙ ap (λ n. n % m) back in
      let one : l * 1 ≡ l = omega arith in
      same-add m (h * (base % m)) (h * base) (l * 1) l factor (ap (λ n. n % m) one)
      ∙ ap (λ n. n % m) (div-add-mod' (a * b) base)

  product : (a b : ℕ) → a < m → b < m → times z.width m a b ≡ a * b % m
  product a b la lb =
      let base = base_of z.width in
      let s = sums_of z.width in
      let under = room in
      let two = mul-le-mul_left m (two_at_least z.width) in
      let some : 0 < base = omega (arith, under) in
      let small : a * b < base * base = mul-lt a b base base (omega (arith, under, two, la)) (omega (arith, under, two, lb)) in
      let upper = by_factor (high base a b) (base % m) (div_below (a * b) base base some small) in
      let lower = by_factor (wrapped_product base a b) 1 (mod_below (a * b) base some) in
      let x = high base a b * (base % m) in
      let y = wrapped_product base a b * 1 in
      let sum = twice in
      let lx = mod_below x m pos in
      let ly = mod_below y m pos in
      let low : x % m + y % m < 2 * m = omega (arith, lx, ly) in
      let plain : (x % m + y % m) % s ≡ x % m + y % m = mod-eq_of_lt (omega (arith, low, sum)) in
      ap₂ (λ u v. reduced s m ((u + v) % s)) upper lower
      ∙ ap (reduced s m) plain
      ∙ last_reduced s m (x % m + y % m) pos sum low
      ∙ sym (add-mod x y m)
      ∙ whole a b

pub times_is_product : TimesIsProduct
times_is_product z m a b lazy la lb = product z m lazy (omega (arith, la)) a b la lb
