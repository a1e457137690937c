-- What bounds the costs of trees.
use Rattle.std.proofs.Common.{◌≡◌, ℕ, ◌+◌, ◌-◌, ◌*◌, ◌^◌, ◌<◌, ◌≤◌, ap, arith, add-one}
use Rattle.std.proofs.Math.Nat.{mul-le-mul_left, mul-le-mul_right, mul-le-mul, mul-one, suc-mul}
use Rattle.operators.specs.Sum.{sum_below}
use Rattle.tree_model.specs.Cost.{IsModest}

-- one more row
pub rows_more : (k n : ℕ) → (k + 1) * n ≡ k * n + n
rows_more k n = rw (add-one k) (suc-mul k n)

-- one more term
pub sum_below-more : (n : ℕ) (f : ℕ → ℕ) → sum_below (n + 1) f ≡ sum_below n f + f n
sum_below-more n f = ap (λ x. sum_below x f) (add-one n)

pub sum_below-zero : (n : ℕ) (f : ℕ → ℕ) → n ≡ 0 → sum_below n f ≡ 0
sum_below-zero n f e = ap (λ x. sum_below x f) e

pub ruleset sums = (sum_below-zero, sum_below-more, rows_more)

pub le_square : (d : ℕ) → 1 ≤ d → d ≤ d * d
le_square d h = let more : d * 1 ≤ d * d = mul-le-mul_left d h in rw mul-one at more

-- a leaf that is straight-line code
pub modest_short : (d x y : ℕ) → 1 ≤ d → x ≡ d * (d - 1) + y → y ≤ 1000 * (d * d) → IsModest d x
modest_short d x y h e g =
    let square : d ≤ d * d = le_square d h in
    let less : d * (d - 1) ≤ d * d = mul-le-mul_left d (omega arith) in
    omega arith

-- a leaf that is a loop
pub modest_long : (d w x : ℕ) → 1 ≤ d → w ≤ 1000 → x ≡ d * d * (1 + w) → IsModest d x
modest_long d w x h low e =
    let square : d ≤ d * d = le_square d h in
    let weighted : d * d * w ≤ d * d * 1000 = mul-le-mul_left (d * d) low in
    omega arith

-- a sum of two factors is at most their product
pub sum_le_product : (r s : ℕ) → 2 ≤ r → 2 ≤ s → r + s ≤ r * s
sum_le_product r s hr hs =
    let left : 2 * s ≤ r * s = mul-le-mul_right s hr in
    let right : r * 2 ≤ r * s = mul-le-mul_left r hs in
    omega arith

-- a node whose rule adds at most its size
pub modest_node : (r s x y z : ℕ) → 2 ≤ r → 2 ≤ s → IsModest r x → IsModest s y → z ≤ 1000 * (r * s) →
    IsModest (r * s) (s * x + r * y + z)
modest_node r s x y z hr hs hx hy hz =
    let left : s * (x + 1000 * r) ≤ s * (2001 * (r * r)) = mul-le-mul_left s hx in
    let right : r * (y + 1000 * s) ≤ r * (2001 * (s * s)) = mul-le-mul_left r hy in
    let both : r * s * (r + s) ≤ r * s * (r * s) = mul-le-mul_left (r * s) (sum_le_product r s hr hs) in
    omega arith

-- a modest cost is a `u64`
pub modest_fits : (d x n : ℕ) → IsModest d x → d ≤ n → n ≤ 1048576 → x < 2 ^ 64
modest_fits d x n h le small =
    let small_size : d ≤ 1048576 = omega arith in
    let square : d * d ≤ 1048576 * 1048576 = mul-le-mul {n₁ = d} {m₁ = d} {n₂ = 1048576} {m₂ = 1048576} small_size small_size in
    omega arith

-- the sums on the way to a node's cost
pub node_fits : (r s x y z n : ℕ) → 2 ≤ r → 2 ≤ s → IsModest r x → IsModest s y → z ≤ 1000 * (r * s) → r * s ≤ n →
    n ≤ 1048576 → s * x + r * y + z < 2 ^ 64
node_fits r s x y z n hr hs hx hy hz le small =
    modest_fits (r * s) (s * x + r * y + z) n (modest_node r s x y z hr hs hx hy hz) le small
