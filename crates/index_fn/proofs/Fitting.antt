-- Products that stay words.
use Rattle.std.proofs.Common.{◌≡◌, ℕ, ◌*◌, ◌^◌, ◌<◌, ◌≤◌, ◌-◌, arith}
use Rattle.std.proofs.lemmas.Nat.{mul-le}

-- a factor is at most the product
part_of : (r s : ℕ) → 1 ≤ r → s ≤ r * s
part_of r s some = let most : 1 * s ≤ r * s = mul-le 1 s r s some (omega arith) in omega (arith, most)

pub left_fits : (r s b : ℕ) → 1 ≤ r → r * s < 2 ^ 32 → b < r * s → s * b < 2 ^ 64
left_fits r s b some small below =
    let part : s ≤ r * s = part_of r s some in
    let most : s * b ≤ (2 ^ 32 - 1) * (2 ^ 32 - 1) =
    mul-le s b (2 ^ 32 - 1) (2 ^ 32 - 1) (let p : s ≤ 2 ^ 32 - 1 = omega (arith, part, small) in p)
    (let q : b ≤ 2 ^ 32 - 1 = omega (arith, below, small) in q) in omega (arith, most)

pub right_fits : (r s b : ℕ) → 1 ≤ s → r * s < 2 ^ 32 → b < r * s → r * b < 2 ^ 64
right_fits r s b some small below =
    let turned : s * r ≡ r * s = omega arith in
    left_fits s r b some (omega (arith, turned, small)) (omega (arith, turned, below))
