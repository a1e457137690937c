-- The products by the entries of a matrix.
use Rattle.std.proofs.Common.{◌≡◌, ℕ, ◌+◌, ◌-◌, ◌*◌, ◌%◌, true, false, Bool, if◌then◌else◌, ◌==◌, refl, sym, ap, ◌∙◌}
use Rattle.std.proofs.Common.{arith, mul-zero, add-one}
use Rattle.std.proofs.Math.Nat.{mul-suc}
use Rattle.std.proofs.lemmas.Bool.{eq-eqb}
use Rattle.ring_mod.specs.Residue.{power_mod, product_mod}
use Rattle.ring_mod.proofs.Powers.{power_mod-zero, power_mod-add}
use Rattle.operators.proofs.Sums.{sum_below-same, sum_below-zeros}
use Rattle.std.specs.Prelude.{bit_and, count_ones}
use Rattle.matrix_meaning.specs.declared.Kind.{Kind}
use Rattle.matrix_meaning.specs.declared.Kind.TheVariants.{Wht}
use Rattle.matrix_meaning.specs.declared.Request.{Request}
use Rattle.matrix_meaning.specs.Kind.{sign}
use Rattle.tree_model.specs.Cost.{product_cost, products_cost, mul_cost_of}

-- the powers of a number, one after the other
pub row_start : (m w k p : ℕ) → p ≡ 1 % m → p ≡ power_mod m w (k * 0)
row_start m w k p e = e ∙ sym (power_mod-zero m w) ∙ ap (power_mod m w) (sym (mul-zero k))

pub row_next : (m w k l p step : ℕ) → p ≡ power_mod m w (k * l) → step ≡ power_mod m w k →
    product_mod m p step ≡ power_mod m w (k * (l + 1))
row_next m w k l p step e f =
    ap (λ x. (x * step) % m) e ∙ ap (λ x. (power_mod m w (k * l) * x) % m) f ∙ sym (power_mod-add m w (k * l) k)
    ∙ ap (power_mod m w) (sym (mul-suc k l) ∙ ap (λ x. k * x) (sym (add-one l)))

pick_free : (c : Request) (one minus : Bool) (x : ℕ) → (one ≡ false → minus ≡ true) →
    (if one then 0 else (if minus then 0 else x)) ≡ 0
pick_free c true minus x h = refl
pick_free c false minus x h = ap (λ (b : Bool). if b then 0 else x) (h refl)

sign_is : (even : Bool) (m : ℕ) → ((if even then 1 else m - 1) == 1) ≡ false →
    ((if even then 1 else m - 1) == m - 1) ≡ true
sign_is true m e = grind arith
sign_is false m e = eq-eqb (m - 1) (m - 1) refl

sign_is_free : (c : Request) (count : ℕ) → product_cost c 0 (sign c.modulus count) ≡ 0
sign_is_free c count =
    pick_free c (sign c.modulus count == 1) (sign c.modulus count == c.modulus - 1) (mul_cost_of c) (sign_is (count % 2 == 0) c.modulus)

signs_cost_nothing : (c : Request) (root rows columns : ℕ) → products_cost c Wht 0 root rows columns ≡ 0
signs_cost_nothing c root rows columns =
    sum_below-same rows _ (λ _. 0) (λ k h. sum_below-same columns _ (λ _. 0) (λ l g. sign_is_free c (count_ones (bit_and k l))) ∙ sum_below-zeros columns) ∙ sum_below-zeros rows

-- a leaf of the Walsh-Hadamard transform has no product that costs
pub signs_are_free : (c : Request) (kind : Kind) (root rows columns : ℕ) → kind ≡ Wht →
    0 ≡ products_cost c kind 0 root rows columns
signs_are_free c kind root rows columns e =
    sym (ap (λ (k : Kind). products_cost c k 0 root rows columns) e ∙ signs_cost_nothing c root rows columns)
