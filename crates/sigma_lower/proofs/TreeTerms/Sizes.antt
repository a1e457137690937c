-- Sizes of matrices under the tensors of a path, and the room that they need.
use Rattle.sigma_lower.proofs.Words.{◌≡◌, ℕ, zero, suc, ◌*◌, ◌<◌, ◌≤◌, arith, sym, ap, ◌∙◌, [], ◌∷◌, mul_comm, zero-mul}
use Rattle.sigma_lower.proofs.Words.{Blocks, Columns, Path, size_under, copies_of, size_under-copies, right_positive}
use Rattle.sigma_lower.proofs.Words.{HasRoom}
use Rattle.std.proofs.Math.Nat.{suc-mul}

-- a part is at most the whole
pub part-le : (q d n : ℕ) → q * d ≡ n → 1 ≤ n → d ≤ n
part-le zero d n e h = absurd (let none : 0 * d ≡ 0 = zero-mul d in omega arith)
part-le (suc q) d n e h = omega (arith, suc-mul q d)

pub has_room : (path : Path) (n : ℕ) → 0 < size_under path n → size_under path n ≤ 1048576 → HasRoom path n
has_room [] n positive high = omega arith
has_room (Blocks c ∷ path) n positive high =
    let size = size_under path n in
    let within : size ≤ c * size = part-le c size (c * size) (ap (λ x. c * x) (omega arith)) (omega arith) in
    (omega arith, has_room path n (right_positive c size positive) (omega arith))
has_room (Columns c ∷ path) n positive high =
    let size = size_under path n in
    let turned : size * c ≡ c * size = mul_comm size c in
    let within : size ≤ c * size = part-le c size (c * size) (ap (λ x. c * x) (omega arith)) (omega arith) in
    (omega arith, has_room path n (right_positive c size (omega arith)) (omega arith))

-- what is under a path has at most the size of the whole
pub within_whole : (path : Path) (k n : ℕ) → 1 ≤ n → size_under path k ≡ n → k ≤ n
within_whole path k n some e = part-le (copies_of path) k n (sym (size_under-copies path k) ∙ e) some
