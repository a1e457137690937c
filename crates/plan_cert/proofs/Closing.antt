-- What the products at the end cost beside the choices.
use Rattle.std.proofs.Common.{◌≡◌, ℕ, ◌*◌, ◌<◌, ◌≤◌, ◌^◌, true, refl, ap, subst, arith, ◌==◌, if◌then◌else◌}
use Rattle.std.proofs.Math.Nat.{mul-le-mul}
use Rattle.std.proofs.lemmas.Bool.{eq-eqb}
use Rattle.std.proofs.lemmas.Bool.Decides.{nat_tests}
use Rattle.matrix_meaning.specs.declared.Request.{Request}
use Rattle.tree_model.specs.Cost.{IsModest}
use Rattle.plan_cert.specs.Found.{closing_at, IsFound, IsRowCost}

pub pick_same : (n x y : ℕ) → (if n == n then x else y) ≡ x
pick_same n x y = let test : (n == n) ≡ true = eq-eqb n n refl in ap (λ t. if t then x else y) test

pub pick_other : (n k x y : ℕ) → n < k → (if n == k then x else y) ≡ y
pick_other n k x y less = grind (arith, nat_tests)

pub closing_whole : (c : Request) (closing : ℕ) → closing_at c closing c.size ≡ closing
closing_whole c closing = pick_same c.size closing 0

pub closing_inner : (c : Request) (closing d : ℕ) → d < c.size → closing_at c closing d ≡ 0
closing_inner c closing d less = pick_other d c.size closing 0 less

-- a row of a smaller size costs what is found
pub found_inner : (c : Request) (closing : ℕ) (costs : ℕ → ℕ) (d x : ℕ) → d < c.size → IsRowCost c closing costs d x
    → IsFound c costs d x
found_inner c closing costs d x less (least, found, e) =
    let same : least ≡ x = omega (arith, e, closing_inner c closing d less) in
    subst (λ (n : ℕ). IsFound c costs d n) same found

-- the cost of a node that is no larger than the size leaves room for the products at the end
pub modest_fits : (d n x : ℕ) → d ≤ n → n ≤ 1048576 → IsModest d x → x < 2 ^ 62
modest_fits d n x le small modest =
    let square : d * d ≤ 1048576 * 1048576 = mul-le-mul {n₁ = d} {m₁ = d} {n₂ = 1048576} {m₂ = 1048576} (omega arith) (omega arith) in
    omega arith
