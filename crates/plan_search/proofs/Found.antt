-- Where the request divides, a search finds a plan.
use Rattle.std.proofs.Common.{◌≡◌, ◌≢◌, ℕ, subst, rules, Option, Some, None, IsSome, Result, Ok, Err, IfOk}
use Rattle.memory.specs.declared.NoMemory.{NoMemory}
use Rattle.matrix_meaning.specs.declared.Kind.TheVariants.{Idft}
use Rattle.matrix_meaning.specs.declared.Request.{Request}
use Rattle.matrix_meaning.specs.Valid.{IsValid}
use Rattle.tree_model.specs.Admissible.{CanDivide}
use Rattle.plan_search.specs.declared.plan.Plan.{Plan}
use Rattle.plan_search.specs.Search.{IsBestOf, AnyTree}
use Rattle.plan_search.proofs.Existence.{some_tree}

pub found_where_divided : (c : Request) → IsValid c → (result : Result (Option Plan) NoMemory) →
    IfOk result (λ o. IsBestOf c c.size AnyTree o) → CanDivide c → c.kind ≢ Idft → IfOk result (λ plan. IsSome plan)
found_where_divided c valid (Ok None) h can proper =
    let tree = some_tree c proper valid.in_range.size.0 valid.in_range.shape can in absurd (h tree.0 tree.1 tt)
found_where_divided c valid (Ok (Some plan)) h can proper = search rules
found_where_divided c valid (Err e) h can proper = search rules

pub best_at_size : (c : Request) (n : ℕ) (result : Result (Option Plan) NoMemory) → n ≡ c.size →
    IfOk result (λ o. IsBestOf c n AnyTree o) → IfOk result (λ o. IsBestOf c c.size AnyTree o)
best_at_size c n result e h = subst (λ (m : ℕ). IfOk result (λ o. IsBestOf c m AnyTree o)) e h
