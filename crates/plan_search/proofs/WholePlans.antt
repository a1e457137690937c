-- Plans of whole requests.
use Rattle.std.proofs.Common.{◌≡◌, ◌≢◌, ℕ, ◌+◌, ◌*◌, ◌^◌, ◌<◌, ◌≤◌, Option, Some, None, IsSome}
use Rattle.std.proofs.Common.{sym, ap, ap₂, ◌∙◌, subst, arith}
use Rattle.std.proofs.Math.Nat.{mul-le-mul, mul-le-mul_right}
use Rattle.matrix_meaning.specs.declared.Dimensions.TheVariants.{One}
use Rattle.matrix_meaning.specs.declared.Kind.{Kind}
use Rattle.matrix_meaning.specs.declared.Kind.TheVariants.{Dft, Wht, Idft}
use Rattle.matrix_meaning.specs.declared.Request.{Request}
use Rattle.matrix_meaning.specs.Parts.{first_of, forward_of, rest_of}
use Rattle.matrix_meaning.specs.Valid.{IsInRange}
use Rattle.matrix_meaning.proofs.Parts.{parts_size}
use Rattle.operators.specs.Sizes.{max_size}
use Rattle.tree_model.specs.declared.tree.Rule.TheVariants.{Dim}
use Rattle.tree_model.specs.Breakdown.{breakdown_of, node}
use Rattle.tree_model.specs.Chosen.{CanDivideWhole, IsWholeChosen, IsWholeLeast, closing_by, closing_cost, whole_cost}
use Rattle.tree_model.specs.Cost.{IsModest, node_cost}
use Rattle.tree_model.proofs.ChosenParts.{chosen_of_parts}
use Rattle.tree_model.proofs.SeveralParts.{IsPlainDft, dft_forward, dim_cost}
use Rattle.tree_model.proofs.WholeTrees.{chosen_of_one, closing_none, cost_of_one, forward_size}
use Rattle.plan_search.specs.declared.plan.Plan.{Plan}
use Rattle.plan_search.specs.Search.{IsBest, AnyTree}
use Rattle.plan_search.specs.WholePlan.{IsWholePlan}
use Rattle.plan_search.proofs.Chosen.{chosen_of_best}
use Rattle.plan_search.proofs.WholeChosen.{whole_is_least}

-- ---- what the products at the end cost

closing_high : (kind : Kind) (c : Request) → c.weight ≤ 1000 → closing_by kind c ≤ 1000 * c.size
closing_high Dft c low = omega arith
closing_high Wht c low = omega arith
closing_high Idft c low = mul-le-mul_right c.size low

pub closing_at_most : (c : Request) → IsInRange c → closing_cost c ≤ 1000 * c.size
closing_at_most c range = closing_high c.kind c range.weight.1

-- ---- small costs

square_fits : (n : ℕ) → n ≤ max_size → 2001 * (n * n) + 1000 * n < 2 ^ 64
square_fits n low =
    let square : n * n ≤ 1048576 * 1048576 = mul-le-mul {n₁ = n} {m₁ = n} {n₂ = 1048576} {m₂ = 1048576} low low in
    omega (arith, square, low)

-- with the products at the end a modest cost is a `u64`
pub closed_fits : (n x closing : ℕ) → n ≤ max_size → IsModest n x → closing ≤ 1000 * n → x + closing < 2 ^ 64
closed_fits n x closing low modest high = let fits = square_fits n low in omega (arith, modest, high, fits)

pub small_of_plan : (c : Request) (plan : Plan) → IsInRange c → IsWholePlan c plan →
    plan.cost ≤ 2001 * (c.size * c.size)
small_of_plan c plan range h = let high = closing_at_most c range in omega (arith, h.small, high)

-- a part has no products at its end
pub modest_part : (p : Request) (plan : Plan) → IsPlainDft p → IsWholePlan p plan → IsModest p.size plan.cost
modest_part p plan part h =
    let none = closing_none p (dft_forward p part.kind) in omega (arith, h.small, none)

-- ---- plans

pub some_where_found : (o : Option Plan) → o ≡ None → IsSome o → ⊥
some_where_found None e h = grind arith
some_where_found (Some plan) e h = grind arith

-- the plan of the forward request of one size, with the products at the end
pub closed_plan : (c f : Request) (plan new : Plan) (closing : ℕ) → f ≡ forward_of c → c.dimensions ≡ One →
    IsBest f f.size AnyTree plan → closing ≡ closing_cost c → breakdown_of new.tree ≡ breakdown_of plan.tree →
    new.cost ≡ plan.cost + closing → IsWholePlan c new
closed_plan c f plan new closing forward one h closes tree cost =
    let best : IsBest (forward_of c) (forward_of c).size AnyTree plan =
    subst (λ (r : Request). IsBest r r.size AnyTree plan) forward h in
    let chosen = (chosen_of_one c (breakdown_of plan.tree) one).1 (chosen_of_best (forward_of c) plan best) in
    let total : plan.cost + closing ≡ whole_cost c (breakdown_of plan.tree) =
    ap₂ (λ x y. x + y) best.valid.cost closes ∙ sym (cost_of_one c (breakdown_of plan.tree) one chosen.tree) in
    let modest : IsModest c.size plan.cost =
    subst (λ (n : ℕ). IsModest n plan.cost) (forward_size c) best.valid.modest in
    record {
      tree = subst (λ t. IsWholeChosen c t) (sym tree) chosen;
      cost = cost ∙ total ∙ ap (λ t. whole_cost c t) (sym tree);
      small = omega (arith, modest, cost, closes);
    }

-- the plan of several dimensions, from those of the first one and of the others
pub dim_plan : (c : Request) (a b new : Plan) → IsInRange c → c.dimensions ≢ One → CanDivideWhole c →
    IsWholePlan (first_of c) a → IsWholePlan (rest_of c) b →
    breakdown_of new.tree ≡ node Dim (breakdown_of a.tree) (breakdown_of b.tree) →
    new.cost ≡ node_cost c Dim (first_of c).size (rest_of c).size a.cost b.cost →
    IsModest ((first_of c).size * (rest_of c).size) new.cost → IsWholePlan c new
dim_plan c a b new range several can h k tree cost modest =
    let first = breakdown_of a.tree in
    let rest = breakdown_of b.tree in
    let r = (first_of c).size in
    let s = (rest_of c).size in
    let whole : IsModest c.size new.cost =
    subst (λ (n : ℕ). IsModest n new.cost) (sym (parts_size c range several)) modest in
    let sum : node_cost c Dim r s a.cost b.cost ≡ s * a.cost + r * b.cost = omega arith in
    let costs : s * a.cost + r * b.cost ≡ whole_cost c (node Dim first rest) =
    ap₂ (λ x y. s * x + r * y) h.cost k.cost ∙ sym (dim_cost c first rest range several h.tree.tree k.tree.tree) in
    let chosen = (chosen_of_parts c first rest range several can).1 (h.tree, k.tree) in
    record {
      tree = subst (λ t. IsWholeChosen c t) (sym tree) chosen;
      cost = cost ∙ sum ∙ costs ∙ ap (λ t. whole_cost c t) (sym tree);
      small = omega (arith, whole);
    }

-- its cost is the least
pub least_of_plan : (c : Request) (plan : Plan) → IsWholePlan c plan → IsWholeLeast c plan.cost
least_of_plan c plan h =
    subst (λ (n : ℕ). IsWholeLeast c n) (sym h.cost) (whole_is_least c (breakdown_of plan.tree) h.tree)
