-- The bounds that are chosen for a modulus fit the words that take it.
use Rattle.std.proofs.Common.{◌≡◌, ℕ, ◌*◌, ◌/◌, ◌^◌, ◌<◌, ◌≤◌, Bool, true, false, refl, arith, ltb-true}
use Rattle.std.specs.Prelude.{nat_lt, if◌then◌else◌}
use Rattle.std.proofs.Common.{mul-le-mul_left}
use Rattle.std.proofs.Math.Nat.{min-le_right, le-min, div-mul-le_self}
use Rattle.std.proofs.lemmas.Nat.{le-div}
use Rattle.word_code.specs.declared.laziness.WordSize.{WordSize}
use Rattle.word_code.specs.declared.laziness.WordSize.TheVariants.{Of16, Of32, Of52, Of64}
use Rattle.word_code.specs.Laziness.{allows, laziness_for, lazy_within, limit_within, middle, narrow, short, wide}
use Rattle.word_code.specs.Laws.{IsLazyWithin}
use Rattle.word_code.specs.Words.{Width, base_of, sums_of, product_bound}
use Rattle.word_code.proofs.Arithmetic.{two_at_least}

-- as many times the modulus as products need are words
within : (w : Width) (greatest m : ℕ) → 0 < w.half → greatest < base_of w → base_of w ≤ sums_of w →
    product_bound w ≤ 16 → 0 < m → product_bound w * m ≤ greatest →
    IsLazyWithin (lazy_within w (limit_within greatest m)) m
within w greatest m half base sums few some enough =
    let product : product_bound w ≤ limit_within greatest m =
    le-min few (le-div (product_bound w) greatest m some enough) in
    let two = two_at_least w in
    let one : 1 ≤ product_bound w = omega (arith, two) in
    let up = mul-le-mul_left m (min-le_right 16 (greatest / m)) in
    let all = div-mul-le_self greatest m in
    record {
      half = half;
      room = omega (arith, up, all, base);
      sums = sums;
      product = product;
      of_a = (one, product);
      of_b = (one, product);
    }

short_within : (m : ℕ) → 2 ≤ m → m < 32768 → IsLazyWithin (short m) m
short_within m some small =
    within (record { half = 256; rough = false }) 65535 m (omega arith) (omega arith) (omega arith) (omega arith)
    (omega (arith, some)) (omega (arith, small))

narrow_within : (m : ℕ) → 2 ≤ m → m < 2147483648 → IsLazyWithin (narrow m) m
narrow_within m some small =
    within (record { half = 65536; rough = false }) 4294967295 m (omega arith) (omega arith) (omega arith) (omega arith)
    (omega (arith, some)) (omega (arith, small))

middle_within : (m : ℕ) → 2 ≤ m → m < 2251799813685248 → IsLazyWithin (middle m) m
middle_within m some small =
    within (record { half = 67108864; rough = false }) 4503599627370495 m (omega arith) (omega arith) (omega arith)
    (omega arith) (omega (arith, some)) (omega (arith, small))

wide_within : (rough : Bool) (m : ℕ) → 2 ≤ m → m < 2 ^ 62 →
    let w : Width = record { half = 4294967296; rough = rough } in
    IsLazyWithin (lazy_within w (limit_within 18446744073709551615 m)) m
wide_within true m some small =
    within (record { half = 4294967296; rough = true }) 18446744073709551615 m (omega arith) (omega arith) (omega arith)
    (omega arith) (omega (arith, some)) (omega (arith, small))
wide_within false m some small =
    within (record { half = 4294967296; rough = false }) 18446744073709551615 m (omega arith) (omega arith)
    (omega arith) (omega arith) (omega (arith, some)) (omega (arith, small))

pub lazy_for : (size : WordSize) (m lanes : ℕ) → 2 ≤ m → m < 2 ^ 62 → allows size m ≡ true →
    IsLazyWithin (laziness_for size m lanes) m
lazy_for Of16 m lanes some small allowed = short_within m some (ltb-true m 32768 allowed)
lazy_for Of32 m lanes some small allowed = narrow_within m some (ltb-true m 2147483648 allowed)
lazy_for Of52 m lanes some small allowed = middle_within m some (ltb-true m 2251799813685248 allowed)
lazy_for Of64 m lanes some small allowed = wide_within (nat_lt 1 lanes) m some small
