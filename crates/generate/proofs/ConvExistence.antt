-- Each request for convolutions has a tree, or a first cause to be refused.
use Rattle.std.proofs.Common.{◌≡◌, ◌⊎◌, ℕ, zero, suc, ◌<◌, ◌≤◌, refl, inl, inr, subst, arith, Result, Ok, Err}
use Rattle.std.proofs.lemmas.Bool.{and_from, cases_eq, cases_lt, eq-eqb}
use Rattle.matrix_meaning.specs.Convolution.{IsFirstBadPower, power_sum}
use Rattle.matrix_meaning.specs.Convolving.{IsConvRequest}
use Rattle.generate.proofs.Existence.{wrong_or_none}
use Rattle.generate.specs.Planned.{IsRooted}
use Rattle.matrix_meaning.specs.Parts.{bad_power}
use Rattle.matrix_meaning.specs.declared.Request.{Request}
use Rattle.generate_faults.specs.declared.conv_fault.ConvFault.{ConvFault}
use Rattle.generate_faults.specs.declared.conv_fault.ConvFault.TheVariants.{Root, NotPrincipal, OverBudget}
use Rattle.plan_search.proofs.WholeChosen.{divides_plain, whole_exists, whole_is_least}
use Rattle.plan_search.proofs.Parts.{next_cases}
use Rattle.tree_model.specs.Breakdown.{Breakdown}
use Rattle.tree_model.specs.Chosen.{IsWholeChosen, whole_cost}
use Rattle.generate.specs.ConvPlanned.{HasPrincipalRoot, IsConvPlanned, conv_cost}

-- the power sums below k are 0, or there is a first one that is not
first_bad_or_none : (m n w k : ℕ) → k ≤ n → ((j : ℕ) → 1 ≤ j → j < k → power_sum m n w j ≡ 0)
    ⊎ ((i : ℕ) × IsFirstBadPower m n w i)
first_bad_or_none m n w zero within = inl (λ j low less. absurd (omega arith))
first_bad_or_none m n w (suc k) within = elim (first_bad_or_none m n w k (omega arith)) [
  | inr found ↦ inr found
  | inl none ↦ elim (cases_lt k 1) [
    | inl few ↦ inl (λ j low less. absurd (omega arith))
    | inr some ↦ elim (cases_eq (power_sum m n w k) 0) [
      | inr bad ↦ inr (k, record { from = some; below = omega arith; bad = bad; first = none })
      | inl good ↦ inl (λ j low less. elim (next_cases j k (omega arith)) [
        | inl before ↦ none j low before
        | inr here ↦ subst (λ (i : ℕ). power_sum m n w i ≡ 0) (let back : k ≡ j = omega arith in back) good
      ])
    ]
  ]
]

within_budget_or_not : (r : Request) (t : Breakdown) → IsRooted r → HasPrincipalRoot r → IsWholeChosen r t →
    (answer : Result Breakdown ConvFault) × IsConvPlanned r answer
within_budget_or_not r t rooted principal chosen = elim (cases_lt r.budget (conv_cost r t)) [
  | inl over ↦ (Err (OverBudget (conv_cost r t) r.budget), (rooted, principal, (whole_cost r t, whole_is_least r t chosen, refl), refl, over))
  | inr within ↦ (Ok t, (rooted, principal, chosen, within))
]

pub conv_plan_exists : (r : Request) → IsConvRequest r → (answer : Result Breakdown ConvFault) × IsConvPlanned r answer
conv_plan_exists r h = elim (wrong_or_none (bad_power r)) [
  | inl wrong ↦ (Err (Root wrong.0), wrong.1)
  | inr rooted ↦ elim (first_bad_or_none r.modulus r.size r.root r.size (omega arith)) [
    | inr bad ↦ (Err (NotPrincipal bad.0), (rooted, bad.1))
    | inl principal ↦
        let plain = and_from _ _ (eq-eqb r.procs 1 h.procs) (eq-eqb r.lanes 1 h.lanes) in
        let tree = whole_exists r h.in_range (divides_plain r plain) in
        within_budget_or_not r tree.0 rooted principal tree.1
  ]
]
