-- The places of a path's items can be made with words of 64 bits.
use Rattle.std.proofs.Common.{◌≡◌, ℕ, ◌+◌, ◌*◌, ◌^◌, ◌<◌, ◌≤◌, arith, [], ◌∷◌, length, max}
use Rattle.std.proofs.Math.Nat.{mul-le-mul_left}
use Rattle.perm_algebra.specs.Affine.{Sum, constant, variable, remainder, quotient, top, peak, scaled}
use Rattle.perm_algebra.specs.Room.{constant_of}
use Rattle.perm_algebra.proofs.AffineLaws.{top-scaled}
use Rattle.sigma_spl.specs.Limits.{AreSeveral}
use Rattle.sigma_spl.specs.Merge.{place_sum}
use Rattle.sigma_spl.proofs.Small.{HasCounts, place-small, max-lt}
use Rattle.sigma_spl.proofs.Within.{IsSmall}
use Rattle.sigma_spl.proofs.Fitting.{le-times}
use Rattle.sigma_spl.specs.Room.{HasRoom}
use Rattle.operators.specs.declared.paths.Tensor.TheVariants.{Blocks, Columns}
use Rattle.operators.specs.Paths.Tensors.{Path, size_under}
use Rattle.loop_nests.specs.Placed.{CanPlace}

pub constant-le-top : (e : Sum) (cs : ℕ → ℕ) → constant_of e ≤ top e cs
constant-le-top (constant c) cs = omega arith
constant-le-top (variable f d rest) cs = omega (arith, constant-le-top rest cs)
constant-le-top (remainder f of m rest) cs = omega (arith, constant-le-top rest cs)
constant-le-top (quotient f of m rest) cs = omega (arith, constant-le-top rest cs)

-- ---- a place

scale-low : (k e n w : ℕ) → e < n → k * n ≤ w → k * e ≤ w
scale-low k e n w below high = let more : k * e ≤ k * n = mul-le-mul_left k (omega (arith, below)) in omega (arith, more, high)

pub room-of : (path : Path) (n : ℕ) → AreSeveral path → size_under path n ≤ 2 ^ 20 → HasRoom path n
room-of [] n several high = omega (arith, high)
room-of (Blocks c ∷ path) n several high =
    let within : size_under path n ≤ c * size_under path n = le-times c (size_under path n) (omega (arith, several.0)) in (omega (arith, high), room-of path n several.1 (omega (arith, within, high)))
room-of (Columns c ∷ path) n several high =
    let turned : size_under path n * c ≡ c * size_under path n = omega arith in
    let within : size_under path n ≤ c * size_under path n = le-times c (size_under path n) (omega (arith, several.0)) in (omega (arith, high), room-of path n several.1 (omega (arith, within, turned, high)))

pub can-place : (r : ℕ) (cs : ℕ → ℕ) (path : Path) (n d : ℕ) (e : Sum) → AreSeveral path → HasCounts path d cs →
    0 < n → size_under path n ≤ 2 ^ 20 → d + length path < 2 ^ 64 → IsSmall r n cs e → CanPlace path n d e
can-place r cs [] n d e several counts some high word small = tt
can-place r cs (Blocks c ∷ path) n d e several counts some high word small =
    let size = size_under path n in
    let within : size ≤ c * size = le-times c size (omega (arith, several.0)) in
    let low : size ≤ 2 ^ 20 = omega (arith, within, high) in
    let inner = place-small path r n (d + 1) e cs several.1 counts.1 some low small in
    let place = place_sum path n (d + 1) e in
    let peaks = max-lt 1 0 2 (omega arith) (omega arith) in
    let none : size * 0 ≡ 0 = omega arith in (
      omega (arith, word),
      room-of path n several.1 low,
      can-place r cs path n (d + 1) e several.1 counts.1 some low (omega (arith, word)) small,
      (let more = mul-le-mul_left size (let p : max 1 0 ≤ 1 = omega (arith, peaks) in p) in
          let one : size * 1 ≡ size = omega arith in omega (arith, more, one, low)),
      omega (arith, constant-le-top place cs, inner.top, none, low),
    )
can-place r cs (Columns c ∷ path) n d e several counts some high word small =
    let size = size_under path n in
    let turned : size * c ≡ c * size = omega arith in
    let within : size ≤ c * size = le-times c size (omega (arith, several.0)) in
    let low : size ≤ 2 ^ 20 = omega (arith, within, turned, high) in
    let inner = place-small path r n (d + 1) e cs several.1 counts.1 some low small in
    let place = place_sum path n (d + 1) e in
    let tops : c * top place cs ≤ 2 ^ 20 =
    scale-low c (top place cs) size (2 ^ 20) inner.top (omega (arith, turned, high)) in
    let peaks : c * peak place ≤ 2 ^ 20 =
    scale-low c (peak place) size (2 ^ 20) inner.peak (omega (arith, turned, high)) in (
      omega (arith, word),
      room-of path n several.1 low,
      can-place r cs path n (d + 1) e several.1 counts.1 some low (omega (arith, word)) small,
      omega (arith, peaks),
      omega (arith, constant-le-top (scaled c place) cs, top-scaled c place cs, tops),
    )
