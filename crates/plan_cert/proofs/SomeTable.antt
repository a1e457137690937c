-- Each request that admits a tree has a certificate.
use Rattle.std.proofs.Common.{◌≡◌, ◌≢◌, ℕ, zero, suc, ◌+◌, ◌*◌, ◌^◌, ◌<◌, ◌≤◌, ◌==◌, ◌++◌, List, [], ◌∷◌, All}
use Rattle.std.proofs.Common.{length, Bool, true, false, if◌then◌else◌, Option, None, Some, refl, sym, subst, inl, inr}
use Rattle.std.proofs.Common.{arith}
use Rattle.serde_json.specs.Data.{Data, Items, array, no_items, item}
use Rattle.serde_json.specs.Written.{compact_text}
use Rattle.matrix_meaning.specs.declared.Dimensions.{Dimensions}
use Rattle.matrix_meaning.specs.declared.Dimensions.TheVariants.{One}
use Rattle.matrix_meaning.specs.declared.Kind.TheVariants.{Idft}
use Rattle.matrix_meaning.specs.declared.Request.{Request}
use Rattle.matrix_meaning.specs.Parts.{first_of, forward_of, parts_of, rest_of}
use Rattle.matrix_meaning.specs.Valid.{IsInRange, IsValid}
use Rattle.matrix_meaning.proofs.Parts.{first_is_one, first_is_valid, parts_by_first, rest_is_valid}
use Rattle.matrix_meaning.proofs.Requests.{forward_is_valid, forward_kind}
use Rattle.tree_model.specs.declared.tree.Rule.{Rule}
use Rattle.tree_model.specs.Admissible.{CanDivide, IsChosenFor}
use Rattle.tree_model.specs.Breakdown.{Breakdown, HasWordSizes, leaf, node, size_of}
use Rattle.tree_model.specs.Chosen.{CanDivideWhole, closing_cost}
use Rattle.tree_model.specs.Cost.{IsModest, cost_of}
use Rattle.tree_model.proofs.Sizes.{word_sizes}
use Rattle.tree_model.proofs.SeveralParts.{first_part}
use Rattle.tree_model.proofs.Sharing.{divide_of_whole}
use Rattle.tree_model.proofs.WholeTrees.{forward_size}
use Rattle.plan_search.proofs.WholeChosen.{divides_plain, forward_divides, rest_divides}
use Rattle.plan_search.proofs.WholePlans.{closing_at_most}
use Rattle.plan_cert.specs.declared.certificate.Row.{Row}
use Rattle.plan_cert.specs.Certificate.{HasRowsBelow, IsWanted}
use Rattle.plan_cert.specs.Found.{closing_at}
use Rattle.plan_cert.specs.Laws.{CertificatesExist}
use Rattle.plan_cert.specs.Table.{AreTables, IsChosenRow, IsListOfTables, IsRootOf, IsTable, IsTableOf, IsWholeTable}
use Rattle.plan_cert.specs.Table.{table_data}
use Rattle.plan_cert.proofs.ByParts.{by_parts, one_part}
use Rattle.plan_cert.proofs.Chosen.{chosen_added, row_added, row_allowed, some_chosen}
use Rattle.plan_cert.proofs.Closing.{modest_fits}
use Rattle.plan_cert.proofs.Decided.{decided_wanted}
use Rattle.plan_cert.proofs.Listed.{certificate_written, whole_written}
use Rattle.plan_cert.proofs.Modest.{tree_modest}
use Rattle.plan_cert.proofs.RightRows.{size_le}
use Rattle.plan_cert.proofs.Wanted.{none_below, other_size, rows_below}
use Rattle.plan_cert.proofs.Written.{written_line}

-- ---- rows

-- the rule of a tree's root with the sizes of its parts
abbrev HasRoot : Breakdown → Type 0
HasRoot t =
    (rule : Option Rule) × (left : ℕ) × (right : ℕ) × IsRootOf t rule left right × (left < 2 ^ 64) × (right < 2 ^ 64)

size_word : (t : Breakdown) → HasWordSizes t → size_of t < 2 ^ 64
size_word (leaf d) h = h
size_word (node rule a b) h = h.2

root_of : (t : Breakdown) → HasWordSizes t → HasRoot t
root_of (leaf d) h = (None, 0, 0, (refl, refl, refl), omega arith, omega arith)
root_of (node rule a b) h = (Some rule, size_of a, size_of b, (refl, refl, refl), size_word a h.0, size_word b h.1)

closing_low : (c : Request) (closing d : ℕ) → closing_at c closing d ≤ closing
closing_low c closing d = of (d == c.size)
  where
    of : (whole : Bool) → (if whole then closing else 0) ≤ closing
    of true = omega arith
    of false = omega arith

module _ (c : Request) (closing : ℕ) (valid : IsValid c) (forward : c.kind ≢ Idft) (can : CanDivide c)
    (few : closing ≤ 1000 * c.size) where
  row_for : (d : ℕ) (t : Breakdown) → d ≤ c.size → IsChosenFor c d t
      → (row : Row) × (row.size ≡ d) × IsChosenRow c closing row
  row_for d t high chosen =
      let size = valid.in_range.size.1 in
      let candidate = chosen.candidate in
      let fits : size_of t < 2 ^ 64 = omega (arith, high, size, candidate.size) in
      let root = root_of t (word_sizes c.kind t candidate.well_formed fits) in
      let modest : IsModest d (cost_of c t) =
      subst (λ n. IsModest n (cost_of c t)) candidate.size
      (tree_modest c valid.in_range.weight.1 t candidate.well_formed) in
      let cost : cost_of c t < 2 ^ 62 = modest_fits d c.size (cost_of c t) high size modest in
      let more : closing_at c closing d ≤ closing = closing_low c closing d in (
        record {
          size = d;
          cost = cost_of c t + closing_at c closing d;
          rule = root.0;
          left = root.1;
          right = root.2;
        },
        refl,
        (
          t,
          record {
            chosen = chosen;
            cost = refl;
            root = root.3;
            words = record {
              size = omega (arith, high, size);
              cost = omega (arith, cost, more, few, size);
              left = root.4;
              right = root.5;
            };
          },
        ),
      )

  -- the rows of the wanted sizes below d
  record HasTable (d : ℕ) : Type 0 where
    rows : List Row
    below : HasRowsBelow c rows d (length rows)
    chosen : All (IsChosenRow c closing) rows

  with_row : (d : ℕ) → IsWanted c d → HasTable d → HasTable (d + 1)
  with_row d wanted old =
      let high = size_le c d valid.in_range.size.0 wanted in
      let tree = some_chosen c d valid forward can wanted.low high wanted.divisor in
      let new = row_for d tree.0 high tree.1 in
      let row = new.0 in
      record {
        rows = old.rows ++ row ∷ [];
        below = row_added c old.rows (old.rows ++ row ∷ []) row d refl wanted
            (row_allowed c d closing row wanted.low high new.1 new.2) old.below;
        chosen = chosen_added c closing old.rows (old.rows ++ row ∷ []) row refl new.2 old.chosen;
      }

  next_table : (d : ℕ) → HasTable d → HasTable (d + 1)
  next_table d old = elim (decided_wanted c d) [
    | inl wanted ↦ with_row d wanted old
    | inr other ↦ record {
      rows = old.rows;
      below = other_size c old.rows d (length old.rows) other old.below;
      chosen = old.chosen;
    }
  ]

  table_below : (n : ℕ) → HasTable (n + 1)
  table_below zero = record { rows = []; below = none_below c []; chosen = λ k x less. absurd (omega arith) }
  table_below (suc n) =
      let next : n + 1 + 1 ≡ suc n + 1 = omega arith in
      subst HasTable next (next_table (n + 1) (table_below n))

  pub some_table : (rows : List Row) × IsTable c closing rows
  some_table =
      let all = table_below c.size in (
        all.rows,
        record {
          wanted =
              rows_below c all.rows (c.size + 1) (length all.rows) valid.in_range.size.0 (omega arith) refl all.below;
          chosen = all.chosen;
        },
      )

-- ---- values

one_value : (c : Request) → IsValid c → c.dimensions ≡ One → CanDivideWhole c → (d : Data) × IsTableOf c d
one_value c valid one can =
    let few = closing_at_most c valid.in_range in
    let table =
    some_table (forward_of c) (closing_cost c) (forward_is_valid c valid) (forward_kind c)
    (forward_divides c (divide_of_whole c one can))
    (subst (λ n. closing_cost c ≤ 1000 * n) (sym (forward_size c)) few) in
    (table_data c.size c.weight table.0, (table.0, table.1, refl))

-- the request has a list of certificates, one for each dimension
abbrev SomeTables : Request → Type 0
SomeTables c = IsValid c → CanDivideWhole c → (ds : Items) × AreTables (parts_of c) ds

last_tables : (c : Request) → c.dimensions ≡ One → SomeTables c
last_tables c one valid can =
    let here = one_value c valid one can in
    (item here.0 no_items, subst (λ ps. AreTables ps (item here.0 no_items)) (sym (one_part c one)) (here.1, tt))

both_tables : (c : Request) → IsInRange c → c.dimensions ≢ One → SomeTables (rest_of c) → SomeTables c
both_tables c range several others valid can =
    let first =
    one_value (first_of c) (first_is_valid c valid several) (first_is_one c several)
    (divides_plain (first_of c) (first_part c several).plain) in
    let rest = others (rest_is_valid c valid several) (rest_divides c several) in
    let both = item first.0 rest.0 in
    (both, subst (λ ps. AreTables ps both) (sym (parts_by_first c several)) (first.1, rest.1))

some_tables : (c : Request) → IsInRange c → SomeTables c
some_tables = by_parts SomeTables (λ c range one. last_tables c one) both_tables

some_list : (c : Request) → IsValid c → CanDivideWhole c → (d : Data) × IsListOfTables c d
some_list c valid can = let all = some_tables c valid.in_range valid can in (array all.0, (all.0, refl, all.1))

some_whole : (c : Request) (ds : Dimensions) → c.dimensions ≡ ds → IsValid c → CanDivideWhole c
    → (d : Data) × IsWholeTable c ds d
some_whole c One one valid can = one_value c valid one can
some_whole c ds is valid can = some_list c valid can

-- ---- texts

pub some_certificate : CertificatesExist
some_certificate c valid can =
    let value = some_whole c c.dimensions refl valid can in
    let written = whole_written c c.dimensions value.0 valid.in_range value.1 in
    let text = compact_text value.0 ++ 10 ∷ [] in
    (text, certificate_written c value.0 text valid.in_range value.1 (written_line 4 value.0 written))
