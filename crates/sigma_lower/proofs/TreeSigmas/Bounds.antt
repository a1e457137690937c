-- How many actions the loops of a tree have at most.
use Rattle.sigma_lower.proofs.Words.{◌≡◌, ℕ, zero, suc, ◌+◌, ◌*◌, ◌^◌, ◌≤◌, List, [], ◌∷◌, length, refl, sym, ap, ◌∙◌}
use Rattle.sigma_lower.proofs.Words.{arith, Option, Some, None, mul-le-mul_left, All, map, mul-le-mul, All-nil}
use Rattle.sigma_lower.proofs.Words.{All-cons, All-head, All-tail, Target, Path, copies_of, count_of, size_under-copies}
use Rattle.sigma_lower.proofs.Words.{copies_in, multiplier_cost, PlainLoop, nest_of, one_nest, PlainMultiplier}
use Rattle.sigma_lower.proofs.Words.{pass_cost, pass_loads, work_cost, IsHost, PlainWork, kernel, rows, tile, work_size}
use Rattle.sigma_lower.proofs.Words.{trees_of, PlainPass, loop_of, trees_size, most_actions}
use Rattle.kernel_gen.proofs.KernelSizes.{trees-few}
use Rattle.sigma_spl.specs.Shared.Costs.{work_loads}
use Rattle.sigma_lower.proofs.TreeLoops.Shaped.{IsShapedWork}
use Rattle.sigma_lower.proofs.TreeSigmas.Known.{AllKnown, IsKnown}
use Rattle.sigma_lower.proofs.TreeSigmas.Ready.{n-small}

pub copies-are : (path : Path) → copies_in (map count_of path) ≡ copies_of path
copies-are [] = refl
copies-are (t ∷ path) = ap (λ n. count_of t * n) (copies-are path)

multiplier-le : (weight : ℕ) (o : Option PlainMultiplier) (w : PlainWork) →
    multiplier_cost weight o w ≤ weight * work_size w
multiplier-le weight None w = omega arith
multiplier-le weight (Some d) w = omega arith

-- for each item twice as many operations as there are items, and one for a diagonal
spread : (copies n size cost more loads : ℕ) → copies * n ≡ size → size ≤ 1048576 → n ≤ 1048576 → cost ≤ 2 * (n * n) →
    more ≤ 1 * n → loads ≤ n * n → copies * (cost + more) + 0 + (copies * loads + 0) + 2 * size ≤ 2 ^ 44
spread copies n size cost more loads whole high small low one each =
    let all : cost + more + loads ≤ n * (3 * n + 1) = omega (arith, low, one, each) in
    let product : copies * (cost + more + loads) ≤ copies * (n * (3 * n + 1)) = mul-le-mul_left copies all in
    let turned : copies * (n * (3 * n + 1)) ≡ copies * n * (3 * n + 1) = omega arith in
    let same : copies * n * (3 * n + 1) ≡ size * (3 * n + 1) = ap (λ x. x * (3 * n + 1)) whole in
    let bound : size * (3 * n + 1) ≤ 1048576 * 3145729 = mul-le-mul {n₁ = size} {m₁ = 3 * n + 1} {n₂ = 1048576}
    {m₂ = 3145729} high (omega (arith, small)) in
    let cut : copies * (cost + more + loads) ≡ copies * (cost + more) + copies * loads = omega arith in
    omega (arith, product, turned, same, bound, cut, high)

module _ (c : Target) where
  -- operations and loads of one copy
  record IsModest (n : ℕ) (w : PlainWork) : Type 0 where
    operations : work_cost 1 c.modulus w ≤ 2 * (n * n)
    loads : work_loads w ≤ n * n

  square-le : (n : ℕ) → n ≤ n * n
  square-le zero = omega arith
  square-le (suc n) = omega arith

  modest : (w : PlainWork) → IsShapedWork c.modulus w → IsModest (work_size w) w
  modest (kernel k) shaped =
      let price = trees-few c.modulus (trees_of k) shaped.1.trees in
      record { operations = omega (arith, price); loads = square-le (trees_size (trees_of k)) }
  modest (rows root size) shaped = record { operations = omega arith; loads = omega arith }
  modest (tile v) shaped = record { operations = omega arith; loads = square-le (v * v) }
  modest _ shaped = absurd shaped

  -- a loop over all words, of such copies
  pub record IsBounded (p : PlainLoop) : Type 0 where
    pub fills : copies_in (map count_of p.path) * work_size p.work ≡ c.size
    pub items : work_size p.work ≤ 1048576
    pub operations : work_cost 1 c.modulus p.work ≤ 2 * (work_size p.work * work_size p.work)
    pub loads : work_loads p.work ≤ work_size p.work * work_size p.work

  module _ (host : IsHost c) where
    bounded : (p : PlainPass) → IsKnown c p → IsBounded (loop_of p)
    bounded p known =
        let m = modest p.work known.shaped.work in
        record {
          fills =
              ap (λ x. x * work_size p.work) (copies-are p.path)
              ∙ sym (size_under-copies p.path (work_size p.work))
              ∙ known.shaped.fills;
          items = n-small c p host known;
          operations = m.operations;
          loads = m.loads;
        }

    pub all-bounded : (ps : List PlainPass) → AllKnown c ps → All IsBounded (map loop_of ps)
    all-bounded [] known = All-nil IsBounded
    all-bounded (p ∷ ps) known =
        All-cons IsBounded (loop_of p) (map loop_of ps) (bounded p known.0) (all-bounded ps known.1)

    loop-actions : (p : PlainLoop) → IsBounded p →
        pass_cost 1 c.modulus (one_nest p) + pass_loads (one_nest p) + 2 * c.size ≤ 2 ^ 44
    loop-actions p is =
        let z = nest_of p in
        spread (copies_in (map count_of p.path)) (work_size p.work) c.size (work_cost 1 c.modulus p.work)
        (multiplier_cost 1 z.multiplier p.work) (work_loads p.work) is.fills host.size.1 is.items is.operations
        (multiplier-le 1 z.multiplier p.work) is.loads

    pub actions-few : (ps : List PlainLoop) → All IsBounded ps → most_actions c (map one_nest ps) ≤ 2 ^ 44 * length ps
    actions-few [] all = omega arith
    actions-few (p ∷ ps) all =
        let first = loop-actions p (All-head IsBounded p ps all) in
        let rest = actions-few ps (All-tail IsBounded p ps all) in
        omega (arith, first, rest)
