-- What is decided: which rows a certificate has to have, and whether these are they.
use Rattle.std.proofs.Common.{◌≡◌, ◌⊎◌, ℕ, zero, suc, ◌+◌, ◌*◌, ◌%◌, ◌<◌, ◌≤◌, List, length, get_or, Option, None, Some}
use Rattle.std.proofs.Common.{subst, inl, inr, arith}
use Rattle.std.proofs.lemmas.Bool.{cases_eq, cases_lt}
use Rattle.matrix_meaning.specs.declared.Request.{Request}
use Rattle.tree_model.specs.declared.tree.Rule.{Rule}
use Rattle.plan_search.proofs.Decisions.{IsDecidable, decided_as, decided_both, decided_le, decided_leaf, decided_node}
use Rattle.plan_search.proofs.Decisions.{decided_where}
use Rattle.plan_cert.specs.declared.certificate.Row.{Row}
use Rattle.plan_cert.specs.Certificate.{AllowsChoice, HasRows, HasRowsBelow, IsRowFor, IsWanted}
use Rattle.plan_cert.proofs.RightRows.{blank}
use Rattle.plan_cert.proofs.Wanted.{next_size, no_next_row, none_below, other_row, other_size, row_past}
use Rattle.plan_cert.proofs.Wanted.{rows_below}

-- ---- rows

pub decided_wanted : (c : Request) (d : ℕ) → IsDecidable (IsWanted c d)
decided_wanted c d =
    decided_as (λ h. record { low = h.0; divisor = h.1.0; one = h.1.1 }) (λ h. (h.low, (h.divisor, h.one)))
    (decided_both (decided_le 1 d)
    (decided_both (cases_eq (c.size % d) 0) (decided_where (cases_eq d 1) (cases_eq c.size 1))))

decided_choice : (c : Request) (d : ℕ) (o : Option Rule) (r s : ℕ) → IsDecidable (AllowsChoice c d o r s)
decided_choice c d None r s =
    decided_as (λ h. (h.0, h.1.0, h.1.1)) (λ h. (h.0, (h.1, h.2)))
    (decided_both (decided_leaf c d) (decided_both (cases_eq r 0) (cases_eq s 0)))
decided_choice c d (Some rule) r s = decided_both (decided_node c rule r s) (cases_eq (r * s) d)

decided_row : (c : Request) (d : ℕ) (row : Row) → IsDecidable (IsRowFor c d row)
decided_row c d row =
    decided_as (λ h. record { size = h.0; allowed = h.1 }) (λ h. (h.size, h.allowed))
    (decided_both (cases_eq row.size d) (decided_choice c row.size row.rule row.left row.right))

module _ (c : Request) (rows : List Row) where
  -- the first rows are those of the wanted sizes below d, or the rows are not the wanted ones
  abbrev HasFirst : ℕ → Type 0
  HasFirst d = ((i : ℕ) × HasRowsBelow c rows d i) ⊎ (HasRows c rows → ⊥)

  row_at : (d i : ℕ) → IsWanted c d → HasRowsBelow c rows d i → i < length rows → HasFirst (d + 1)
  row_at d i wanted below inside = elim (decided_row c d (get_or rows i blank)) [
    | inl row ↦ inl (i + 1, next_size c rows d i blank wanted inside row below)
    | inr other ↦ inr (other_row c rows d i blank wanted inside other below)
  ]

  row_for : (d i : ℕ) → HasRowsBelow c rows d i → HasFirst (d + 1)
  row_for d i below = elim (decided_wanted c d) [
    | inr other ↦ inl (i, other_size c rows d i other below)
    | inl wanted ↦ elim (cases_lt i (length rows)) [
      | inl inside ↦ row_at d i wanted below inside
      | inr past ↦
          let within : i ≤ length rows = below.within in
          inr (no_next_row c rows d i wanted (omega (arith, within, past)) below)
    ]
  ]

  first_rows : (n : ℕ) → HasFirst (n + 1)
  first_rows zero = inl (0, none_below c rows)
  first_rows (suc n) =
      let next : n + 1 + 1 ≡ suc n + 1 = omega arith in
      subst HasFirst next (elim (first_rows n) [ inl first ↦ row_for (n + 1) first.0 first.1 | inr other ↦ inr other ])

  all_rows : 1 ≤ c.size → HasFirst (c.size + 1) → IsDecidable (HasRows c rows)
  all_rows low (inr other) = inr other
  all_rows low (inl (i, below)) = elim (cases_lt i (length rows)) [
    | inl inside ↦ inr (row_past c rows (c.size + 1) i blank low (omega arith) inside below)
    | inr past ↦
        inl (rows_below c rows (c.size + 1) i low (omega arith)
        (let within : i ≤ length rows = below.within in omega (arith, within, past)) below)
  ]

  pub decided_rows : 1 ≤ c.size → IsDecidable (HasRows c rows)
  decided_rows low = all_rows low (first_rows c.size)
