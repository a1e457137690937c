-- What trees cost that may stand in a request.
use Rattle.std.proofs.Common.{◌≡◌, ℕ, zero, suc, ◌*◌, ◌/◌, ◌≤◌, arith, ap, ◌∙◌}
use Rattle.std.proofs.Math.Nat.{mul-le-mul, mul-le-mul_left, mul-one, mul-zero}
use Rattle.matrix_meaning.specs.declared.Request.{Request}
use Rattle.matrix_meaning.specs.Parts.{forward_of}
use Rattle.tree_model.specs.Breakdown.{Breakdown, size_of}
use Rattle.tree_model.specs.Chosen.{StandsIn}
use Rattle.tree_model.specs.Cost.{IsModest}
use Rattle.tree_model.proofs.Splits.{product_div}
use Rattle.tree_model.proofs.WholeTrees.{forward_size}

-- ---- sizes

from_product : (n d q : ℕ) → 1 ≤ n → d * q ≡ n → d ≤ n
from_product n d zero some e = let none : d * 0 ≡ 0 = mul-zero d in absurd (omega (arith, some, e, none))
from_product n d (suc q) some e =
    let more : d * 1 ≤ d * suc q = mul-le-mul_left d (omega arith) in
    let one : d * 1 ≡ d = mul-one d in
    omega (arith, more, one, e)

pub stands_low : (c : Request) (t : Breakdown) → 1 ≤ c.size → StandsIn c t → size_of t ≤ c.size
stands_low c t some h = from_product c.size (size_of t) (c.size / size_of t) some (product_div c.size (size_of t) h.1)

pub stands_below : (c p : Request) (t : Breakdown) → p ≡ forward_of c → 1 ≤ c.size → StandsIn c t → size_of t ≤ p.size
stands_below c p t is some h =
    let low = stands_low c t some h in
    let size : p.size ≡ c.size = ap (λ (q : Request). q.size) is ∙ forward_size c in
    omega (arith, low, size)

-- ---- costs

pub part_small : (d n x : ℕ) → IsModest d x → d ≤ n → x ≤ 2001 * (n * n)
part_small d n x modest low =
    let square : d * d ≤ n * n = mul-le-mul low low in
    omega (arith, modest, square)
