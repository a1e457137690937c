-- The places of the permutations are places.
use Rattle.std.proofs.Common.{ℕ, ◌+◌, ◌*◌, ◌/◌, ◌%◌, ◌<◌, arith, mod-lt, mul_comm, mul-le-mul_left, div-lt_iff_lt-mul}
use Rattle.std.proofs.Math.Nat.{div-add-mod'}
use Rattle.operators.specs.Operator.{good_thomas_in}
use Rattle.operators.proofs.Lists.{place_below, factor_positive}

-- the parts of a place of GTIN are below the size
pub good_thomas_in_parts : (r s p : ℕ) → p < r * s → (0 < s) × (0 < r * s) × (s * (p / s) < r * s)
    × (r * (p % s) < r * s) × (good_thomas_in r s p < r * s)
good_thomas_in_parts r s p below =
    let some : 0 < s = factor_positive r s p below in
    let some_rows : 0 < r = factor_positive s r p (rw (mul_comm s r) below) in
    let whole = div-add-mod' p s in
    let row : p / s < r = (div-lt_iff_lt-mul some).1 below in
    let column : p % s < s = mod-lt p some in
    let a = mul-le-mul_left s row in
    let b = mul-le-mul_left r column in
    (some, omega arith, omega arith, omega arith, mod-lt _ (omega arith))

pub good_thomas_out_parts : (r s k : ℕ) → k < r * s → (0 < r) × (0 < s) × ((k % r) * s + k % s < r * s)
good_thomas_out_parts r s k below =
    let some_columns : 0 < s = factor_positive r s k below in
    let some_rows : 0 < r = factor_positive s r k (rw (mul_comm s r) below) in
    (some_rows, some_columns, place_below (k % r) (k % s) r s (mod-lt k some_rows) (mod-lt k some_columns))
