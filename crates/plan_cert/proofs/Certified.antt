-- The certificate of a request is judged to be of its least cost.
use Rattle.std.proofs.Common.{◌≡◌, ◌≢◌, ℕ, ◌+◌, ◌*◌, ◌≤◌, List, [], ◌∷◌, refl, sym, ap, subst, ◌∙◌, arith}
use Rattle.matrix_meaning.specs.declared.Dimensions.{Dimensions}
use Rattle.matrix_meaning.specs.declared.Dimensions.TheVariants.{One}
use Rattle.matrix_meaning.specs.declared.Request.{Request}
use Rattle.matrix_meaning.specs.Parts.{first_of, forward_of, parts_of, rest_of}
use Rattle.matrix_meaning.specs.Valid.{IsInRange}
use Rattle.matrix_meaning.proofs.Parts.{first_is_one, first_at_least_two, parts_by_first}
use Rattle.serde_json.specs.Data.{Data, Items, no_items, item}
use Rattle.tree_model.specs.Chosen.{CanDivideWhole, IsWholeLeast, closing_cost}
use Rattle.tree_model.proofs.ChosenParts.{least_of_parts}
use Rattle.tree_model.proofs.WholeTrees.{forward_size, least_of_one}
use Rattle.plan_search.proofs.WholeChosen.{rest_divides}
use Rattle.plan_cert.specs.declared.verdict.Verdict.TheVariants.{Least}
use Rattle.plan_cert.specs.Certificate.{cost_at, IsClosedLeast}
use Rattle.plan_cert.specs.Document.{document_rows}
use Rattle.plan_cert.specs.Laws.{RightCostsAreLeast}
use Rattle.plan_cert.specs.Table.{AreTables, IsListOfTables, IsTableOf, IsTableText, IsWholeTable}
use Rattle.plan_cert.specs.Verdict.{combined, size_of_all, IsItemsVerdict, IsListVerdict, IsValueVerdict, IsVerdict}
use Rattle.plan_cert.specs.Verdict.{IsWholeVerdict}
use Rattle.plan_cert.proofs.ByParts.{by_parts, one_part, size_of_rest}
use Rattle.plan_cert.proofs.Least.{least_of_right}
use Rattle.plan_cert.proofs.OneVerdict.{verdict_of_json}
use Rattle.plan_cert.proofs.RightRows.{least_of_rows}
use Rattle.plan_cert.proofs.RightTable.{right_of_table}
use Rattle.plan_cert.proofs.Texts.{table_back}

-- ---- of one size

-- the least cost of the forward request with that of the products at the end is the request's
pub least_of_closed : (c : Request) (k : ℕ) → c.dimensions ≡ One → IsClosedLeast (forward_of c) (closing_cost c) k
    → IsWholeLeast c k
least_of_closed c k one (least, is, e) = subst (IsWholeLeast c) (sym e) ((least_of_one c least one).0 is)

pub right_costs : RightCostsAreLeast
right_costs c costs one right =
    least_of_closed c (costs c.size) one
    (subst (λ n. IsClosedLeast (forward_of c) (closing_cost c) (costs n)) (forward_size c)
    (least_of_right (forward_of c) (closing_cost c) costs right))

pub value_right : (c : Request) (d : Data) → 1 ≤ c.size → c.dimensions ≡ One → IsTableOf c d
    → (k : ℕ) × IsValueVerdict c d (Least k) × IsWholeLeast c k
value_right c d low one (rows, table, is) =
    let some : 1 ≤ (forward_of c).size = subst (λ n. 1 ≤ n) (sym (forward_size c)) low in
    let right = right_of_table (forward_of c) (closing_cost c) rows some table in
    let least = least_of_rows (forward_of c) (closing_cost c) rows some table.wanted right in (
      cost_at rows c.size,
      (
        rows,
        record {
          certificate = record {
            reads = ap (document_rows c.size c.weight) is ∙ table_back c.size c.weight rows;
            wanted = table.wanted;
          };
          right = right;
          whole = refl;
        },
      ),
      least_of_closed c (cost_at rows c.size) one
          (subst (λ n. IsClosedLeast (forward_of c) (closing_cost c) (cost_at rows n)) (forward_size c) least),
    )

-- ---- of several dimensions

-- the certificates of these parts are judged to be of the request's least cost
abbrev AreRight : Request → List Request → Type 0
AreRight c ps = (xs : Items) → AreTables ps xs → (k : ℕ) × IsItemsVerdict ps xs (Least k) × IsWholeLeast c k

last_right : (c : Request) → IsInRange c → c.dimensions ≡ One → AreRight c (c ∷ [])
last_right c range one no_items h = absurd h
last_right c range one (item x no_items) h =
    let here = value_right c x range.size.0 one h.0 in
    let same : here.0 ≡ 1 * here.0 + c.size * 0 = omega arith in
    (1 * here.0 + c.size * 0, (Least here.0, Least 0, here.1, refl, refl), subst (IsWholeLeast c) same here.2)
last_right c range one (item x (item y ys)) h = absurd h.1

both_right : (c : Request) → IsInRange c → c.dimensions ≢ One → CanDivideWhole c
    → AreRight (rest_of c) (parts_of (rest_of c))
    → AreRight c (first_of c ∷ parts_of (rest_of c))
both_right c range some divides others no_items h = absurd h
both_right c range some divides others (item x xs) h =
    let two = first_at_least_two c range some in
    let here = value_right (first_of c) x (omega (arith, two)) (first_is_one c some) h.0 in
    let rest = others xs h.1 in
    let n = (first_of c).size in
    let whole = (rest_of c).size * here.0 + n * rest.0 in
    let verdict : Least whole ≡ combined n (size_of_all (parts_of (rest_of c))) (Least here.0) (Least rest.0) =
    ap (λ s. combined n s (Least here.0) (Least rest.0)) (sym (size_of_rest c some)) in (
      whole,
      (Least here.0, Least rest.0, here.1, rest.1, verdict),
      (least_of_parts c whole range some divides).1 (here.0, rest.0, here.2, rest.2, refl),
    )

pub tables_right : (c : Request) → IsInRange c → CanDivideWhole c → AreRight c (parts_of c)
tables_right =
    by_parts (λ c. CanDivideWhole c → AreRight c (parts_of c))
    (λ c range one divides. subst (AreRight c) (sym (one_part c one)) (last_right c range one))
    (λ c range some others divides.
    subst (AreRight c) (sym (parts_by_first c some)) (both_right c range some divides (others (rest_divides c some))))

-- ---- of any request

list_right : (c : Request) (d : Data) → IsInRange c → CanDivideWhole c → IsListOfTables c d
    → (k : ℕ) × IsListVerdict c d (Least k) × IsWholeLeast c k
list_right c d range divides (xs, is, tables) =
    let right = tables_right c range divides xs tables in
    (right.0, subst (λ (x : Data). IsListVerdict c x (Least right.0)) (sym is) right.1, right.2)

whole_right : (c : Request) (ds : Dimensions) (d : Data) → c.dimensions ≡ ds → IsInRange c → CanDivideWhole c
    → IsWholeTable c ds d
    → (k : ℕ) × IsWholeVerdict c ds d (Least k) × IsWholeLeast c k
whole_right c One d e range divides h = value_right c d range.size.0 e h
whole_right c ds d e range divides h = list_right c d range divides h

pub certificate_right : (c : Request) (text : List ℕ) → IsInRange c → CanDivideWhole c → IsTableText c text
    → (k : ℕ) × IsVerdict c text (Least k) × IsWholeLeast c k
certificate_right c text range divides (d, table, line) =
    let right = whole_right c c.dimensions d refl range divides table in
    (right.0, verdict_of_json (IsWholeVerdict c c.dimensions) text d (Least right.0) line.json right.1, right.2)
