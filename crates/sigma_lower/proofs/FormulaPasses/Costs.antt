-- The operations and loads of a formula's passes.
use Rattle.std.proofs.Common.{◌≡◌, ℕ, zero, suc, ◌+◌, ◌-◌, ◌*◌, ◌/◌, ◌≤◌, Bool, true, false, List, [], ◌∷◌, length, map}
use Rattle.std.proofs.Common.{sym, subst, ap, arith, if◌then◌else◌, ◌==◌, nat_le, nat_lt}
use Rattle.std.proofs.Math.Nat.{mul-le-mul_left, mul-le-mul_right}
use Rattle.sigma_lower.specs.Operations as formulas
use Rattle.sigma_lower.specs.Terms.{halvings}
use Rattle.tree_model.specs.KernelCosts.{AllowsRoot, product_cost, products_cost}
use Rattle.matrix_meaning.specs.declared.Kind.{Kind}
use Rattle.matrix_meaning.specs.declared.Kind.TheVariants.{Dft}
use Rattle.matrix_meaning.specs.Kind.{entry_of}
use Rattle.operators.specs.Sum.{sum_below}
use Rattle.sigma_spl.specs.Shared.Costs.{pass_cost, pass_loads, work_cost, work_loads}
use Rattle.sigma_spl.specs.Counts.{copies_in, multiplier_cost}
use Rattle.sigma_spl.specs.Nest.{PlainNest, copies_of}
use Rattle.sigma_spl.specs.Work.{PlainWork, rows, tile, work_size}
use Rattle.sigma_spl.proofs.Counting.{items_of}
use Rattle.sigma_spl.proofs.Walk.{chosen}
use Rattle.spl_ast.specs.Formula.{Formula, Fourier, Hadamard, Twiddles, Diagonal, Product, TensorLeft, TensorRight}
use Rattle.spl_ast.specs.Formula.{DirectSum, Pending, size_of, parts_of}
use Rattle.spl_ast.specs.Shape.{IsShaped}
use Rattle.tree_model.specs.Breakdown.{leaf}
use Rattle.sigma_lower.proofs.FormulaPasses.Merging.{IsFormulaWork, AreMade}
use Rattle.kernel_gen.proofs.KernelSizes.{sum_below-le}

-- ---- kernels of leaves

price-le : (a b : Bool) → (if a then 0 else (if b then 0 else 1)) ≤ 1
price-le true b = omega arith
price-le false true = omega arith
price-le false false = omega arith

products-le : (m d : ℕ) (e : ℕ → ℕ → ℕ) → products_cost 1 m 0 e d d ≤ d * d
products-le m d e =
    sum_below-le d d (λ k. sum_below d (λ l. product_cost 1 m 0 (e k l))) (λ k. let row = sum_below-le d 1 (λ l. product_cost 1 m 0 (e k l)) (λ l. price-le (e k l == 1) (e k l == m - 1)) in omega (arith, row))

leaf-size : (d x : ℕ) → x ≤ d * d → d * (d - 1) + x + d ≤ 2 * (d * d)
leaf-size zero x h = omega (arith, h)
leaf-size (suc d) x h =
    let next : suc d - 1 + 1 ≡ suc d = omega arith in
    let square : suc d * (suc d - 1 + 1) ≡ suc d * suc d = ap (λ n. suc d * n) next in
    omega (arith, h, next, square)

pub leaf-root : (m root d : ℕ) (kind : Kind) → AllowsRoot m root kind (leaf d)
leaf-root m root d Dft = tt
leaf-root m root d _ = tt

-- ---- operations and loads

square-le : (n : ℕ) → n ≤ n * n
square-le zero = omega arith
square-le (suc n) = omega arith

-- each copy loads at most as many words as it has operations and items
loads-le : (m : ℕ) (w : PlainWork) → IsFormulaWork w → work_loads w ≤ work_cost 1 m w + work_size w
loads-le m (rows root d) work = absurd work
loads-le m (tile v) work = absurd work
loads-le m _ work = omega arith

pub pass-loads-le : (m : ℕ) (zs : List PlainNest) → AreMade m zs →
    pass_loads zs ≤ pass_cost 1 m zs + items_of (map (copies_of m) zs)
pass-loads-le m [] made = omega arith
pass-loads-le m (z ∷ zs) made =
    let copies = copies_in z.counts in
    let cost = work_cost 1 m z.work + multiplier_cost 1 z.multiplier z.work in
    let one = loads-le m z.work made.0.work in
    let each : work_loads z.work ≤ cost + work_size z.work = omega (arith, one) in
    let first : copies * work_loads z.work ≤ copies * (cost + work_size z.work) = mul-le-mul_left copies each in
    let cut : copies * (cost + work_size z.work) ≡ copies * cost + copies * work_size z.work = omega arith in
    let rest = pass-loads-le m zs made.1 in
    omega (arith, first, cut, rest)

-- ---- operations of a formula

halvings-le : (b n : ℕ) → halvings b n ≤ b
halvings-le zero n = omega arith
halvings-le (suc b) n =
    let rest = halvings-le b (n / 2) in
    chosen (λ k. k ≤ suc b) (nat_lt n 2) 0 (suc (halvings b (n / 2))) (λ _. omega arith) (omega (arith, rest))

under-le : (k s p x : ℕ) → x ≤ 2 * (s * s) * p → k * x ≤ 2 * ((k * s) * (k * s)) * p
under-le k s p x h =
    let one : k * x ≤ k * (2 * (s * s) * p) = mul-le-mul_left k h in
    let more : k * (2 * (s * s) * p) ≤ k * k * (2 * (s * s) * p) = mul-le-mul_right (2 * (s * s) * p) (square-le k) in
    let turned : k * k * (2 * (s * s) * p) ≡ 2 * ((k * s) * (k * s)) * p = omega arith in
    omega (arith, one, more, turned)

-- for each of its parts at most twice as many as a matrix of its size has entries
pub operations-le : (m : ℕ) (f : Formula) → IsShaped f → formulas.operations 1 m f
    ≤ 2 * (size_of f * size_of f) * (parts_of f + 1)
operations-le m (Fourier n w) shaped =
    let short = leaf-size n (products_cost 1 m 0 (entry_of Dft m n w) n n) (products-le m n (entry_of Dft m n w)) in
    chosen (λ k. k ≤ 2 * (n * n) * (0 + 1)) (nat_le n 8) (n * (n - 1) + products_cost 1 m 0 (entry_of Dft m n w) n n)
    ((1 + 1) * n * n) (λ _. omega (arith, short)) (omega arith)
operations-le m (Hadamard n) shaped = let each : n * halvings n n ≤ n * n = mul-le-mul_left n (halvings-le n n) in omega (arith, each)
operations-le m (Twiddles n s w) shaped = let square = square-le n in omega (arith, square)
operations-le m (Diagonal c) shaped = let square = square-le (length c) in omega (arith, square)
operations-le m (Product a b) shaped =
    let first = operations-le m a shaped.0 in
    let second = subst (λ n. formulas.operations 1 m b ≤ 2 * (n * n) * (parts_of b + 1)) (sym shaped.2) (operations-le m b shaped.1) in
    omega (arith, first, second)
operations-le m (TensorLeft a k) shaped = let all = under-le k (size_of a) (parts_of a + 1) (formulas.operations 1 m a) (operations-le m a shaped.0) in omega (arith, all)
operations-le m (TensorRight k a) shaped = let all = under-le k (size_of a) (parts_of a + 1) (formulas.operations 1 m a) (operations-le m a shaped.1) in omega (arith, all)
operations-le m (DirectSum a b) shaped =
    let first = operations-le m a shaped.0 in
    let second = operations-le m b shaped.1 in
    omega (arith, first, second)
operations-le m (Pending a) shaped = let inner = operations-le m a shaped in omega (arith, inner)
operations-le m _ shaped = omega arith
