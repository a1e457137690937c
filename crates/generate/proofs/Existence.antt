-- Each request in range has a tree, or a first cause to be refused.
use Rattle.std.proofs.Common.{◌≡◌, ◌⊎◌, ℕ, refl, inl, inr, Option, None, Some, Result, Ok, Err}
use Rattle.std.proofs.lemmas.Bool.{cases_Bool, cases_lt}
use Rattle.matrix_meaning.specs.declared.Dimensions.{Dimensions}
use Rattle.matrix_meaning.specs.declared.Dimensions.TheVariants.{One}
use Rattle.matrix_meaning.specs.declared.Request.{Request}
use Rattle.matrix_meaning.specs.Parts.{bad_power, first_of, rest_of}
use Rattle.matrix_meaning.specs.Valid.{IsInRange}
use Rattle.generate_faults.specs.declared.generate_fault.GenerateFault.{GenerateFault}
use Rattle.generate_faults.specs.declared.generate_fault.GenerateFault.TheVariants.{Root, NoDivide, OverBudget}
use Rattle.plan_search.proofs.Decisions.{IsDecidable, decided_divide, decided_fits}
use Rattle.plan_search.proofs.WholeChosen.{whole_exists, whole_is_least}
use Rattle.tree_model.specs.Breakdown.{Breakdown}
use Rattle.tree_model.specs.Chosen.{CanDivideBy, CanDivideWhole, IsWholeChosen, SharesDimensions, whole_cost}
use Rattle.tree_model.specs.Cost.{is_plain}
use Rattle.generate.specs.Planned.{IsPlanned, IsRooted}

-- there is a power that is wrong, or there is none
pub wrong_or_none : (power : Option ℕ) → ((w : ℕ) × (power ≡ Some w)) ⊎ (power ≡ None)
wrong_or_none None = inr refl
wrong_or_none (Some w) = inl (w, refl)

-- whether processors and lanes share several dimensions is decided
decided_shares : (r : Request) → IsDecidable (SharesDimensions r)
decided_shares r = elim (cases_Bool (is_plain r)) [
  | inl plain ↦ inl (inl plain)
  | inr spread ↦ elim (decided_fits r (first_of r).size (rest_of r).size) [
    | inl fits ↦ inl (inr fits)
    | inr not ↦ inr (λ can. elim can [ inl plain ↦ absurd (cc) | inr fits ↦ not fits ])
  ]
]

-- and so is whether some tree is admitted
decided_whole : (r : Request) → IsDecidable (CanDivideWhole r)
decided_whole r = by r.dimensions
  where
    by : (ds : Dimensions) → IsDecidable (CanDivideBy r ds)
    by One = decided_divide r
    by _ = decided_shares r

within_budget_or_not : (r : Request) (t : Breakdown) → IsRooted r → IsWholeChosen r t →
    (answer : Result Breakdown GenerateFault) × IsPlanned r answer
within_budget_or_not r t rooted chosen = elim (cases_lt r.budget (whole_cost r t)) [
  | inl over ↦ (Err (OverBudget (whole_cost r t) r.budget), (rooted, whole_is_least r t chosen, refl, over))
  | inr within ↦ (Ok t, (rooted, chosen, within))
]

pub plan_exists : (r : Request) → IsInRange r → (answer : Result Breakdown GenerateFault) × IsPlanned r answer
plan_exists r range = elim (wrong_or_none (bad_power r)) [
  | inl wrong ↦ (Err (Root wrong.0), wrong.1)
  | inr rooted ↦ elim (decided_whole r) [
    | inr none ↦ (Err NoDivide, (rooted, none))
    | inl can ↦ let tree = whole_exists r range can in within_budget_or_not r tree.0 rooted tree.1
  ]
]
