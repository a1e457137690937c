-- The functions that lead to factors can be simplified at every word.
use Rattle.std.proofs.Common.{◌≡◌, ℕ, ◌*◌, ◌/◌, ◌%◌, ◌^◌, ◌<◌, ◌≤◌, arith, sym, List, [], ◌∷◌, ◌++◌, subst, mod-lt}
use Rattle.std.proofs.Common.{div-lt_iff_lt-mul}
use Rattle.std.proofs.Math.Nat.{mul-le-mul_right}
use Rattle.index_fn.specs.Mapping.{Mapping, at, IsDefinedAt}
use Rattle.operators.proofs.Lists.{factor_positive}
use Rattle.sigma_spl.specs.Merge.{back_of, backs_of, factor_places}
use Rattle.sigma_spl.specs.Nest.{PlainFactors, factor_count, inner_of}
use Rattle.sigma_spl.proofs.Keeps.{inner-below, inner-formed, left_positive, right_positive}
use Rattle.loop_nests.specs.Limits.Leading.{CanCarry}
use Rattle.operators.specs.declared.paths.Tensor.TheVariants.{Blocks, Columns}
use Rattle.operators.specs.Paths.Tensors.{Path, size_under}
use Rattle.loop_nests.specs.Places.Known.{AreSteps}

few : (path : Path) (n : ℕ) → 0 < size_under path n → n ≤ size_under path n
few [] n some = omega arith
few (Blocks c ∷ path) n some =
    let inner = few path n (right_positive c (size_under path n) some) in
    let more : 1 * size_under path n ≤ c * size_under path n = mul-le-mul_right (size_under path n) (left_positive c (size_under path n) some) in omega (arith, inner, more)
few (Columns c ∷ path) n some =
    let inner = few path n (left_positive (size_under path n) c some) in
    let more : 1 * size_under path n ≤ c * size_under path n = mul-le-mul_right (size_under path n) (right_positive (size_under path n) c some) in
    let turned : size_under path n * c ≡ c * size_under path n = omega arith in omega (arith, inner, more, turned)

inner-defined : (path : Path) (n : ℕ) → n ≤ 2 ^ 20 → (i : ℕ) → i < size_under path n → IsDefinedAt (inner_of path n) i
inner-defined [] n high i below = tt
inner-defined (Blocks c ∷ path) n high i below =
    let positive : 0 < size_under path n = factor_positive c (size_under path n) i below in
    (tt, inner-defined path n high (i % size_under path n) (mod-lt i positive), omega (arith, inner-below (Blocks c ∷ path) n i below))
inner-defined (Columns c ∷ path) n high i below =
    let positive : 0 < c = factor_positive (size_under path n) c i below in
    (inner-defined path n high (i / c) ((div-lt_iff_lt-mul positive).1 below), tt, omega (arith, inner-below (Columns c ∷ path) n i below))

carry-append : (n : ℕ) (fs gs : List Mapping) → CanCarry n fs → CanCarry n gs → CanCarry n (fs ++ gs)
carry-append n [] gs h k = k
carry-append n (f ∷ fs) gs h k = (h.0, h.1, carry-append n fs gs h.2 k)

carry-backs : (n : ℕ) (fs : List Mapping) → AreSteps n fs → CanCarry n (backs_of fs)
carry-backs n [] h = tt
carry-backs n (f ∷ fs) h = carry-append n (backs_of fs) (back_of f ∷ []) (carry-backs n fs h.1) (h.0.moves.back, h.0.numbers.back, tt)

pub carry-places : (n : ℕ) (fs : List Mapping) (path : Path) (factors : PlainFactors) → 0 < n → n ≤ 2 ^ 20 →
    AreSteps n fs → size_under path (factor_count factors) ≡ n → CanCarry n (factor_places fs path factors)
carry-places n fs path factors some low h is =
    let k = factor_count factors in
    let small : k ≤ 2 ^ 20 = omega (arith, few path k (subst (λ z. 0 < z) (sym is) some), is, low) in
    carry-append n (backs_of fs) (inner_of path k ∷ []) (carry-backs n fs h)
    (inner-formed path k (subst (λ z. 0 < z) (sym is) some), λ i below. inner-defined path k small i (subst (λ z. i < z) (sym is) below), tt)
