-- Sums and differences up to 2 ^ 53 are doubles.
use Rattle.std.proofs.Common.{arith, ◌+ℤ◌, ◌-ℤ◌}
use Rattle.std.proofs.lemmas.Int.{ints}
use Rattle.double_code.specs.Sums.{DoubleSums}
use Rattle.double_code.proofs.Signed.{abs_parts, small_double}

pub double_sums : DoubleSums
double_sums x y le =
    let a = abs_parts x in
    let b = abs_parts y in
    let c = abs_parts (x +ℤ y) in
    let d = abs_parts (x -ℤ y) in
    (small_double (x +ℤ y) (omega (arith, ints)), small_double (x -ℤ y) (omega (arith, ints)))
