-- Each text has a verdict.
use Rattle.std.proofs.Common.{◌≡◌, ◌⊎◌, ℕ, zero, suc, ◌+◌, ◌/◌, ◌%◌, ◌<◌, ◌≤◌, List, [], ◌∷◌, All, length, get_or, true}
use Rattle.std.proofs.Common.{false, true≢false, Option, None, Some, refl, sym, subst, ◌∙◌, inl, inr, arith}
use Rattle.std.proofs.lemmas.Bool.{cases_Bool, cases_eq, cases_lt}
use Rattle.std.proofs.lemmas.Str.{IsUtf8-from_is_utf8, is_utf8-from_IsUtf8}
use Rattle.std.specs.Str.{is_utf8}
use Rattle.serde_json.specs.Data.{Data, Items, no_items, item}
use Rattle.serde_json.specs.Find.{as_array}
use Rattle.serde_json.specs.Read.{read}
use Rattle.matrix_meaning.specs.declared.Dimensions.{Dimensions}
use Rattle.matrix_meaning.specs.declared.Dimensions.TheVariants.{One}
use Rattle.matrix_meaning.specs.declared.Request.{Request}
use Rattle.matrix_meaning.specs.Parts.{first_of, forward_of, parts_of, rest_of}
use Rattle.matrix_meaning.specs.Valid.{IsInRange}
use Rattle.matrix_meaning.proofs.Parts.{first_in_range, parts_by_first}
use Rattle.tree_model.specs.declared.tree.Rule.{Rule}
use Rattle.tree_model.specs.Admissible.{AllowsLeafAt, AllowsNodeAt}
use Rattle.tree_model.specs.Cost.{leaf_cost, node_cost}
use Rattle.tree_model.specs.Chosen.{closing_cost}
use Rattle.tree_model.proofs.Splits.{product_div}
use Rattle.tree_model.proofs.WholeTrees.{forward_size}
use Rattle.plan_search.specs.Search.{IsBestRule}
use Rattle.plan_search.proofs.Decisions.{best_rule_of, decided_leaf}
use Rattle.plan_cert.specs.declared.certificate.Row.{Row}
use Rattle.plan_cert.specs.declared.certificate.WrongRow.{WrongRow}
use Rattle.plan_cert.specs.declared.verdict.Verdict.{Verdict}
use Rattle.plan_cert.specs.declared.verdict.Verdict.TheVariants.{Least, Unread, Wrong}
use Rattle.plan_cert.specs.Certificate.{AllowsChoice, HasFirstWrong, HasRows, IsChoiceCostBelow, IsFoundBelow}
use Rattle.plan_cert.specs.Certificate.{IsRightRow, IsWrong, choice_cost, chosen_cost, cost_at}
use Rattle.plan_cert.specs.Document.{IsCertificate, IsJson, document_rows}
use Rattle.plan_cert.specs.Found.{IsChoiceCost, IsFound, IsRowCost, closing_at}
use Rattle.plan_cert.specs.Laws.{VerdictsExist}
use Rattle.plan_cert.specs.Verdict.{IsItemsVerdict, IsOptionVerdict, IsTextVerdict, IsValueVerdict, IsWholeVerdict}
use Rattle.plan_cert.specs.Verdict.{combined, size_of_all}
use Rattle.plan_cert.proofs.ByParts.{by_parts, one_part}
use Rattle.plan_cert.proofs.Choices.{best_rule_bound, found_all, found_more, found_skip, no_rule_bound}
use Rattle.plan_cert.proofs.Decided.{decided_rows}
use Rattle.plan_cert.proofs.OneVerdict.{verdict_of_json}
use Rattle.plan_cert.proofs.RightRows.{blank, first_wrong, prefix_more}

-- ---- the least cost of a size that has a choice

module _ (c : Request) (costs : ℕ → ℕ) (d : ℕ) where
  abbrev HasFound : ℕ → Type 0
  HasFound r = (x : ℕ) × IsFoundBelow c costs d r x

  -- a left part has two places at least
  below_leaf : (x : ℕ) → (AllowsLeafAt c d → x ≤ leaf_cost c d) → (y : ℕ) → IsChoiceCostBelow c costs d 2 y → x ≤ y
  below_leaf x least y (inl (leaf, is)) = omega (arith, least leaf, is)
  below_leaf x least y (inr (rule, k, s, h, small)) =
      let two : 2 ≤ k = h.allowed.split.left in absurd (omega (arith, two, small))

  first_found : (x : ℕ) → IsChoiceCost c costs d x → HasFound 2
  first_found x some = elim (decided_leaf c d) [
    | inl leaf ↦ elim (cases_lt x (leaf_cost c d)) [
      | inl less ↦ (x, record { reached = some; bound = below_leaf x (λ _. omega (arith, less)) })
      | inr more ↦ (
        leaf_cost c d,
        record { reached = inl (leaf, refl); bound = below_leaf (leaf_cost c d) (λ _. omega arith) },
      )
    ]
    | inr none ↦ (x, record { reached = some; bound = below_leaf x (λ leaf. absurd (none leaf)) })
  ]

  -- with a left part of size r
  module _ (r x : ℕ) (low : 2 ≤ r) (old : IsFoundBelow c costs d r x) where
    with_best : (rule : Rule) → d % r ≡ 0 → IsBestRule c r (d / r) rule → HasFound (r + 1)
    with_best rule divides best =
        let cost : ℕ = node_cost c rule r (d / r) (costs r) (costs (d / r)) in
        let bound = best_rule_bound c costs d r rule low best in
        elim (cases_lt cost x) [
          | inl less ↦ (
            cost,
            found_more c costs d r x cost old (omega (arith, less))
                (inr (inr (
                  rule,
                  r,
                  d / r,
                  record { allowed = best.allowed; product = product_div d r divides; cost = refl },
                ))) bound,
          )
          | inr more ↦ (
            x,
            found_more c costs d r x x old (omega arith) (inl refl)
                (λ other s z k. let least : cost ≤ z = bound other s z k in omega (arith, more, least)),
          )
        ]

    with_none : ((rule : Rule) → AllowsNodeAt c rule r (d / r) → ⊥) → HasFound (r + 1)
    with_none none = (
      x,
      found_more c costs d r x x old (omega arith) (inl refl)
          (λ rule s z k. absurd (no_rule_bound c costs d r low none rule s z k)),
    )

    more_found : HasFound (r + 1)
    more_found = elim (cases_eq (d % r) 0) [
      | inr other ↦ (x, found_skip c costs d r x old other)
      | inl divides ↦ elim (best_rule_of c r (d / r)) [
        | inl best ↦ with_best best.0 divides best.1
        | inr none ↦ with_none none
      ]
    ]

  found_below : (x : ℕ) → IsChoiceCost c costs d x → (n : ℕ) → HasFound (n + 2)
  found_below x some zero = first_found x some
  found_below x some (suc n) =
      let old = found_below x some n in
      let next : n + 2 + 1 ≡ suc n + 2 = omega arith in
      subst HasFound next (more_found (n + 2) old.0 (omega arith) old.1)

  pub least_found : (x : ℕ) → IsChoiceCost c costs d x → (y : ℕ) × IsFound c costs d y
  least_found x some =
      let all = found_below x some d in (all.0, found_all c costs d (d + 2) all.0 (omega arith) all.1)

-- ---- rows

module _ (c : Request) (closing : ℕ) (costs : ℕ → ℕ) where
  cost_of_choice : (d : ℕ) (o : Option Rule) (r s : ℕ) → AllowsChoice c d o r s →
      IsChoiceCost c costs d (choice_cost c costs d o r s)
  cost_of_choice d None r s h = inl (h.0, refl)
  cost_of_choice d (Some rule) r s h = inr (rule, r, s, record { allowed = h.0; product = h.1; cost = refl })

  abbrev wrong_by : Row → ℕ → WrongRow
  wrong_by row found = record { size = row.size; given = row.cost; found = found }

  abbrev IsJudgedRow : Row → Type 0
  IsJudgedRow row = IsRightRow c closing costs row ⊎ ((found : ℕ) × IsWrong c closing costs row (wrong_by row found))

  by_choice : (row : Row) → IsRowCost c closing costs row.size row.cost → IsJudgedRow row
  by_choice row right = elim (cases_eq (chosen_cost c closing costs row) row.cost) [
    | inl same ↦ inl (record { found = right; chosen = same })
    | inr other ↦ inr (chosen_cost c closing costs row, (refl, refl, other, inr (right, refl)))
  ]

  pub judged_row : (row : Row) → AllowsChoice c row.size row.rule row.left row.right → IsJudgedRow row
  judged_row row allowed =
      let least = least_found c costs row.size _ (cost_of_choice row.size row.rule row.left row.right allowed) in
      let cost : ℕ = least.0 + closing_at c closing row.size in
      let is : IsRowCost c closing costs row.size cost = (least.0, least.1, refl) in
      elim (cases_eq cost row.cost) [
        | inl same ↦ by_choice row (subst (IsRowCost c closing costs row.size) same is)
        | inr other ↦ inr (cost, (refl, refl, other, inl is))
      ]

module _ (c : Request) (closing : ℕ) (rows : List Row)
    (allowed : All (λ (row : Row). AllowsChoice c row.size row.rule row.left row.right) rows) where
  abbrev AreRight : ℕ → Type 0
  AreRight n = (k : ℕ) (x : Row) → k < n → IsRightRow c closing (cost_at rows) (get_or rows k x)

  abbrev HasWrong : Type 0
  HasWrong = (size : ℕ) × (given : ℕ) × (found : ℕ) ×
      HasFirstWrong c closing rows (record { size = size; given = given; found = found })

  found_wrong : (n found : ℕ) → n < length rows → AreRight n →
      IsWrong c closing (cost_at rows) (get_or rows n blank)
      (record { size = (get_or rows n blank).size; given = (get_or rows n blank).cost; found = found }) → HasWrong
  found_wrong n found inside before wrong =
      let row : Row = get_or rows n blank in
      let named : WrongRow = record { size = row.size; given = row.cost; found = found } in
      (row.size, row.cost, found, first_wrong c closing rows named n blank inside before wrong)

  next_row : (n : ℕ) → n < length rows → AreRight n → AreRight (n + 1) ⊎ HasWrong
  next_row n inside before = elim (judged_row c closing (cost_at rows) (get_or rows n blank) (allowed n blank inside)) [
    | inl right ↦ inl (prefix_more (λ row. IsRightRow c closing (cost_at rows) row) rows n blank inside before right)
    | inr wrong ↦ inr (found_wrong n wrong.0 inside before wrong.1)
  ]

  judged_below : (n : ℕ) → n ≤ length rows → AreRight n ⊎ HasWrong
  judged_below zero le = inl (λ k x less. absurd (omega arith))
  judged_below (suc n) le =
      let next : n + 1 ≡ suc n = omega arith in
      subst (λ k. AreRight k ⊎ HasWrong) next
      (elim (judged_below n (omega (arith, le))) [
        | inl before ↦ next_row n (omega (arith, le)) before
        | inr wrong ↦ inr wrong
      ])

  pub judged_rows : All (IsRightRow c closing (cost_at rows)) rows ⊎ HasWrong
  judged_rows = judged_below (length rows) (omega arith)

-- ---- values

module _ (c : Request) (d : Data) (low : 1 ≤ c.size) where
  abbrev SomeValue : Type 0
  SomeValue = (v : Verdict) × IsValueVerdict c d v

  with_rows : (rows : List Row) → IsCertificate c d rows → SomeValue
  with_rows rows h = elim (judged_rows (forward_of c) (closing_cost c) rows h.wanted.allowed) [
    | inl right ↦ (Least (cost_at rows c.size), (rows, record { certificate = h; right = right; whole = refl }))
    | inr (size, given, found, first) ↦ (Wrong size given found, (rows, record { certificate = h; first = first }))
  ]

  no_rows : document_rows c.size c.weight d ≡ None → (rows : List Row) → IsCertificate c d rows → ⊥
  no_rows none rows h = let same : None ≡ Some rows = sym none ∙ h.reads in cc

  other_rows : (rows others : List Row) → document_rows c.size c.weight d ≡ Some rows →
      (HasRows (forward_of c) rows → ⊥) → IsCertificate c d others → ⊥
  other_rows rows others reads not h =
      let same : Some others ≡ Some rows = sym h.reads ∙ reads in
      let own : others ≡ rows = cc in
      not (subst (HasRows (forward_of c)) own h.wanted)

  some : (o : Option (List Row)) → document_rows c.size c.weight d ≡ o → SomeValue
  some None none = (Unread, no_rows none)
  some (Some rows) reads = elim (decided_rows (forward_of c) rows (subst (λ n. 1 ≤ n) (sym (forward_size c)) low)) [
    | inl wanted ↦ with_rows rows (record { reads = reads; wanted = wanted })
    | inr not ↦ (Unread, λ others h. other_rows rows others reads not h)
  ]

  pub some_value : (v : Verdict) × IsValueVerdict c d v
  some_value = some (document_rows c.size c.weight d) refl

-- ---- of several dimensions

abbrev SomeItems : List Request → Type 0
SomeItems ps = (xs : Items) → (v : Verdict) × IsItemsVerdict ps xs v

no_more : SomeItems []
no_more no_items = (Least 0, refl)
no_more (item x xs) = (Unread, refl)

one_more : (p : Request) (ps : List Request) → 1 ≤ p.size → SomeItems ps → SomeItems (p ∷ ps)
one_more p ps low others no_items = (Unread, refl)
one_more p ps low others (item x xs) =
    let here = some_value p x low in
    let rest = others xs in
    (combined p.size (size_of_all ps) here.0 rest.0, (here.0, rest.0, here.1, rest.1, refl))

some_items : (c : Request) → IsInRange c → SomeItems (parts_of c)
some_items =
    by_parts (λ c. SomeItems (parts_of c))
    (λ c range one. subst SomeItems (sym (one_part c one)) (one_more c [] range.size.0 no_more))
    (λ c range several others. subst SomeItems (sym (parts_by_first c several))
    (one_more (first_of c) (parts_of (rest_of c)) (first_in_range c range several).size.0 others))

some_option : (c : Request) → IsInRange c → (o : Option Items) → (v : Verdict) × IsOptionVerdict (parts_of c) o v
some_option c range None = (Unread, refl)
some_option c range (Some xs) = some_items c range xs

some_whole : (c : Request) (ds : Dimensions) (d : Data) → IsInRange c → (v : Verdict) × IsWholeVerdict c ds d v
some_whole c One d range = some_value c d range.size.0
some_whole c ds d range = some_option c range (as_array d)

-- ---- texts

module _ (judged : Data → Verdict → Type 0) (each : (d : Data) → (v : Verdict) × judged d v) (text : List ℕ) where
  abbrev SomeText : Type 0
  SomeText = (v : Verdict) × IsTextVerdict judged text v

  not_read : read text ≡ None → (d : Data) → IsJson text d → ⊥
  not_read none d h = let same : None ≡ Some d = sym none ∙ h.reads in cc

  not_utf8 : is_utf8 text ≡ false → (d : Data) → IsJson text d → ⊥
  not_utf8 other d h = true≢false (sym (is_utf8-from_IsUtf8 text h.utf8) ∙ other)

  as_read : is_utf8 text ≡ true → (o : Option Data) → read text ≡ o → SomeText
  as_read utf8 None none = (Unread, λ d h. absurd (not_read none d h))
  as_read utf8 (Some d) reads =
      let found = each d in
      let json : IsJson text d = record { utf8 = IsUtf8-from_is_utf8 text utf8; reads = reads } in
      (found.0, verdict_of_json judged text d found.0 json found.1)

  pub some_text : (v : Verdict) × IsTextVerdict judged text v
  some_text = elim (cases_Bool (is_utf8 text)) [
    | inl utf8 ↦ as_read utf8 (read text) refl
    | inr other ↦ (Unread, λ d h. absurd (not_utf8 other d h))
  ]

pub some_verdict : VerdictsExist
some_verdict c text range = some_text (IsWholeVerdict c c.dimensions) (λ d. some_whole c c.dimensions d range) text
