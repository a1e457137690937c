-- The numbers of places in tables of powers.
use Rattle.std.proofs.Common.{◌≡◌, ℕ, ◌+◌, ◌*◌, ◌%◌, ◌^◌, ◌<◌, List, [], ◌∷◌, ◌++◌, length, ap, ap₂, sym, ◌∙◌, arith}
use Rattle.std.proofs.Common.{length-append, subst, slice_index}
use Rattle.std.proofs.Math.Seq.{get_or-append_seam}
use Rattle.std.proofs.lemmas.List.{get_or_append_left}
use Rattle.std.proofs.lemmas.Nat.{mul-lt}
use Rattle.icode.specs.Expression.{Numbers, alone, with_sum, with_part, with_factor, sum_numbers}
use Rattle.code_gen.specs.PassCode.Statements.{loop_value, product_place}

last-value : (vs : List ℕ) (depth v : ℕ) → length vs ≡ depth → slice_index (vs ++ v ∷ []) depth ≡ v
last-value vs depth v size = ap (slice_index (vs ++ v ∷ [])) (sym size) ∙ get_or-append_seam vs v [] 0

outer-value : (vs : List ℕ) (depth k l : ℕ) → length vs ≡ depth → slice_index ((vs ++ k ∷ []) ++ l ∷ []) depth ≡ k
outer-value vs depth k l size =
    get_or_append_left (vs ++ k ∷ []) (l ∷ []) 0 depth (omega (arith, length-append vs (k ∷ []))) ∙ last-value vs depth k size

inner-value : (vs : List ℕ) (depth k l : ℕ) → length vs ≡ depth → slice_index ((vs ++ k ∷ []) ++ l ∷ []) (depth + 1) ≡ l
inner-value vs depth k l size = last-value (vs ++ k ∷ []) (depth + 1) l (omega (arith, length-append vs (k ∷ [])))

-- the numbers of a remainder of a product
pub product_numbers : ℕ → ℕ → Numbers
product_numbers both count =
    with_sum 0 (with_part (with_factor (with_sum 0 (with_part (with_factor (alone both) both 1) (alone 0))) ((0 + (both * 1 + 0)) % count) 1) (alone 0))

product_numbers-value : (both count : ℕ) → (product_numbers both count).value ≡ both % count
unfolding product_numbers
product_numbers-value both count =
    let inside : 0 + (both * 1 + 0) ≡ both = omega arith in
    let outside : 0 + (((0 + (both * 1 + 0)) % count) * 1 + 0) ≡ (0 + (both * 1 + 0)) % count = omega arith in
    outside ∙ ap (λ n. n % count) inside

product_numbers-peak : (both count : ℕ) → both < 2 ^ 64 → 0 < count → count < 2 ^ 32 →
    (product_numbers both count).peak < 2 ^ 64
unfolding product_numbers
product_numbers-peak both count small some few =
    let rest : (0 + (both * 1 + 0)) % count < count = omega arith in omega arith

-- the place of an entry
pub product-numbers : (count depth k l q : ℕ) (vs : List ℕ) → length vs ≡ depth →
    sum_numbers (product_place depth count) ((vs ++ k ∷ []) ++ l ∷ []) q ≡ product_numbers (k * l) count
unfolding product_numbers
product-numbers count depth k l q vs size = ap (λ n. product_numbers n count) (ap₂ (λ a b. a * b) (outer-value vs depth k l size) (inner-value vs depth k l size))

pub product-value : (count depth k l q : ℕ) (vs : List ℕ) → length vs ≡ depth →
    (sum_numbers (product_place depth count) ((vs ++ k ∷ []) ++ l ∷ []) q).value ≡ (k * l) % count
product-value count depth k l q vs size = ap (λ (z : Numbers). z.value) (product-numbers count depth k l q vs size) ∙ product_numbers-value (k * l) count

pub product-peak : (count depth k l q : ℕ) (vs : List ℕ) → length vs ≡ depth → k < count → l < count → count < 2 ^ 32 →
    (sum_numbers (product_place depth count) ((vs ++ k ∷ []) ++ l ∷ []) q).peak < 2 ^ 64
product-peak count depth k l q vs size row column few =
    let product : k * l < 2 ^ 32 * 2 ^ 32 = mul-lt k l (2 ^ 32) (2 ^ 32) (omega arith) (omega arith) in
    subst (λ (z : Numbers). z.peak < 2 ^ 64) (sym (product-numbers count depth k l q vs size)) (product_numbers-peak (k * l) count (omega arith) (omega arith) few)

-- the value of the outer of two loops
pub loop-value : (depth k l q : ℕ) (vs : List ℕ) → length vs ≡ depth →
    (sum_numbers (loop_value depth) ((vs ++ k ∷ []) ++ l ∷ []) q).value ≡ k
loop-value depth k l q vs size =
    let one : 0 + (k * 1 + 0) ≡ k = omega arith in
    ap (λ n. 0 + (n * 1 + 0)) (outer-value vs depth k l size) ∙ one

pub loop-peak : (depth k l q : ℕ) (vs : List ℕ) → length vs ≡ depth → k < 2 ^ 64 →
    (sum_numbers (loop_value depth) ((vs ++ k ∷ []) ++ l ∷ []) q).peak < 2 ^ 64
loop-peak depth k l q vs size low =
    let at : slice_index ((vs ++ k ∷ []) ++ l ∷ []) depth ≡ k = outer-value vs depth k l size in omega arith
