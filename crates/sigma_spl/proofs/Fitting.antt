-- Paths and factors of lists within the limit have sizes that are words.
use Rattle.std.proofs.Common.{ℕ, ◌*◌, ◌^◌, ◌<◌, ◌≤◌, ◌≡◌, arith, [], ◌∷◌, le-mul_of_pos_right}
use Rattle.sigma_spl.specs.Nest.{PlainFactors, values, twiddles, repeated, spread, factor_count}
use Rattle.sigma_spl.specs.Room.{HasCount, HasRoom}
use Rattle.sigma_spl.proofs.Keeps.{left_positive, right_positive}
use Rattle.operators.specs.declared.paths.Tensor.TheVariants.{Blocks, Columns}
use Rattle.operators.specs.Paths.Tensors.{Path, size_under}

pub le-times : (a b : ℕ) → 0 < a → b ≤ a * b
le-times a b h = let more : b ≤ b * a = le-mul_of_pos_right {m = a} b h in omega arith

pub part_some : (path : Path) (n : ℕ) → 0 < size_under path n → 0 < n
part_some [] n h = h
part_some (Blocks c ∷ path) n h = part_some path n (right_positive c (size_under path n) h)
part_some (Columns c ∷ path) n h = part_some path n (left_positive (size_under path n) c h)

pub part_high : (path : Path) (n : ℕ) → 0 < size_under path n → size_under path n ≤ 2 ^ 20 → n ≤ 2 ^ 20
part_high [] n h high = high
part_high (Blocks c ∷ path) n h high =
    let within = le-times c (size_under path n) (left_positive c (size_under path n) h) in part_high path n (right_positive c (size_under path n) h) (omega (arith, within, high))
part_high (Columns c ∷ path) n h high =
    let turned : size_under path n * c ≡ c * size_under path n = omega arith in
    let within = le-times c (size_under path n) (right_positive (size_under path n) c h) in part_high path n (left_positive (size_under path n) c h) (omega (arith, within, turned, high))

pub part_room : (path : Path) (n : ℕ) → 0 < size_under path n → size_under path n ≤ 2 ^ 20 → HasRoom path n
part_room [] n h high = omega (arith, high)
part_room (Blocks c ∷ path) n h high =
    let within = le-times c (size_under path n) (left_positive c (size_under path n) h) in
    (omega (arith, high), part_room path n (right_positive c (size_under path n) h) (omega (arith, within, high)))
part_room (Columns c ∷ path) n h high =
    let turned : size_under path n * c ≡ c * size_under path n = omega arith in
    let within = le-times c (size_under path n) (right_positive (size_under path n) c h) in
    (omega (arith, high), part_room path n (left_positive (size_under path n) c h) (omega (arith, within, turned, high)))

count_fits : (factors : PlainFactors) → 0 < factor_count factors → factor_count factors ≤ 2 ^ 20 → HasCount factors
count_fits (values entries) some high = tt
count_fits (twiddles rows cols root) some high = omega (arith, high)
count_fits (repeated value count) some high = tt
count_fits (spread path factors) some high =
    (count_fits factors (part_some path (factor_count factors) some) (part_high path (factor_count factors) some high), part_room path (factor_count factors) some high)

pub has_count : (path : Path) (factors : PlainFactors) → 0 < size_under path (factor_count factors) →
    size_under path (factor_count factors) ≤ 2 ^ 20 → HasCount factors
has_count path factors some high = count_fits factors (part_some path (factor_count factors) some) (part_high path (factor_count factors) some high)
