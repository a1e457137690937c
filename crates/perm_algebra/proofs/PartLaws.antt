-- One part of a sum, times a number, and bounds.
use Rattle.std.proofs.Common.{◌≡◌, ℕ, ◌+◌, ◌-◌, min, ◌*◌, ◌/◌, ◌%◌, ◌^◌, ◌<◌, ◌≤◌, arith}
use Rattle.perm_algebra.specs.Fits.{InRange}
use Rattle.std.proofs.lemmas.Nat.{le-div, div-add-mod', mod_below, mul-le, div_below, mul-add-lt}

pub quotient_le : (a b d : ℕ) → 1 ≤ d → a ≤ b → a / d ≤ b / d
quotient_le a b d pos h = le-div (a / d) b d pos (omega (arith, div-add-mod' a d))

pub most_part : (x b f rest h m n : ℕ) → x ≤ b → rest ≤ h → m ≡ min (f * b) (2 ^ 64 - 1) →
    n ≡ min (m + h) (2 ^ 64 - 1) → f * x + rest < 2 ^ 64 → f * x + rest ≤ n
most_part x b f rest h m n below others e k fits = let same : f ≤ f = omega arith in let part : f * x ≤ f * b = mul-le f x f b same below in omega arith

pub most_quotient : (of g d f rest h m n : ℕ) → 1 ≤ d → of ≤ g → rest ≤ h → m ≡ min (f * (g / d)) (2 ^ 64 - 1) →
    n ≡ min (m + h) (2 ^ 64 - 1) → f * (of / d) + rest < 2 ^ 64 → f * (of / d) + rest ≤ n
most_quotient of g d f rest h m n positive below others e k fits = most_part (of / d) (g / d) f rest h m n (quotient_le of g d positive below) others e k fits

-- the place of a stride permutation is below its size
pub turned_below : (r s i : ℕ) → 1 ≤ r → 1 ≤ s → i < r * s → r * (i % s) + i / s < r * s
turned_below r s i r1 s1 h = omega (arith, mul-add-lt (i % s) r (i / s) s (mod_below i s s1) (div_below i s r s1 h))

-- and so is that of two remainders
pub remainders_below : (r s i : ℕ) → 1 ≤ r → 1 ≤ s → s * (i % r) + i % s < r * s
remainders_below r s i r1 s1 =
    let below = mul-add-lt (i % r) s (i % s) r (mod_below i r r1) (mod_below i s s1) in
    let turned : r * s ≡ s * r = omega arith in omega (arith, below, turned)

pub in_range_at : (cs vs : ℕ → ℕ) (d : ℕ) → InRange cs vs → vs d ≤ cs d - 1
unfolding InRange
in_range_at cs vs d range = range d

pub in_range_from : (cs vs : ℕ → ℕ) → ((d : ℕ) → vs d ≤ cs d - 1) → InRange cs vs
unfolding InRange
in_range_from cs vs below = below
