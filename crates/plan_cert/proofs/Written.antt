-- The line of a certificate reads back as its value.
use Rattle.std.proofs.Common.{◌≡◌, ℕ, suc, ◌^◌, ◌<◌, ◌≤◌, ◌++◌, List, [], ◌∷◌, All, Bool, true, false, Option, Some}
use Rattle.std.proofs.Common.{None, codes, decimal, max, option_and_then, option_map, IsUtf8, refl, sym, ap, ap₂, subst}
use Rattle.std.proofs.Common.{◌∙◌, ◌||◌, arith, append-nil}
use Rattle.std.proofs.lemmas.Fmt.{IsAscii-decimal}
use Rattle.std.proofs.lemmas.Str.{IsUtf8-append, IsUtf8-from_ascii}
use Rattle.json.specs.Json as json
use Rattle.json.specs.Lex.{tokens}
use Rattle.json.specs.Print.{quoted}
use Rattle.json.specs.Tree as tree
use Rattle.json.proofs.Printed.Decimals.{IsNumber-decimal}
use Rattle.json.proofs.Printed.Tokens.{tokens-print}
use Rattle.json.proofs.Printed.Trees.{ArePrintable-json_tokens, value-json_tokens}
use Rattle.json.proofs.Printed.Utf8.{IsUtf8-are_ascii, IsUtf8-quoted}
use Rattle.serde_json.specs.Data.{Data, null, boolean, number, string, array, object, Items, no_items, item, Members}
use Rattle.serde_json.specs.Data.{no_members, member, depth, items_depth, members_depth}
use Rattle.serde_json.specs.Read.{max_depth, of_items, of_json, read}
use Rattle.serde_json.specs.Written.{comma_if, compact_text, has_float, items_have_float, items_outline, items_text}
use Rattle.serde_json.specs.Written.{members_outline, members_text, outline}
use Rattle.serde_json.proofs.Numbers.{number_of-decimal}
use Rattle.serde_json.proofs.Texts.{print-outline}
use Rattle.matrix_meaning.specs.declared.Request.{Request}
use Rattle.tree_model.specs.declared.tree.Rule.{Rule}
use Rattle.tree_model.specs.declared.tree.Rule.TheVariants.{Gt, Ct, Split, Dim}
use Rattle.plan_cert.specs.declared.certificate.Row.{Row}
use Rattle.plan_cert.specs.Table.{HasWords, IsChosenRow, IsLineOf, IsPlain, choice_name, row_data, rows_data}
use Rattle.plan_cert.specs.Table.{table_data}
use Rattle.plan_cert.specs.Table as spec
use Rattle.plan_cert.proofs.Texts.{line_written}

-- ---- what is written reads back

abbrev mutual
  outline_depth : (d : Data) → tree.depth (outline d) ≡ depth d
  outline_depth null = refl
  outline_depth (boolean b) = refl
  outline_depth (number n) = refl
  outline_depth (string s) = refl
  outline_depth (array ds) = ap suc (items_outline_depth ds)
  outline_depth (object ms) = ap suc (members_outline_depth ms)

  items_outline_depth : (ds : Items) → tree.items_depth (items_outline ds) ≡ items_depth ds
  items_outline_depth no_items = refl
  items_outline_depth (item d ds) = ap₂ max (outline_depth d) (items_outline_depth ds)

  members_outline_depth : (ms : Members) → tree.members_depth (members_outline ms) ≡ members_depth ms
  members_outline_depth no_members = refl
  members_outline_depth (member k d ms) = ap₂ max (outline_depth d) (members_outline_depth ms)

-- the value's text is UTF-8, its outline is the value's, no number is a float, and lists nest no deeper than this
pub record IsWritten (deep : ℕ) (d : Data) : Type 0 where
  pub utf8 : IsUtf8 (compact_text d)
  pub back : of_json (outline d) ≡ Some d
  pub whole : has_float d ≡ false
  pub numbers : tree.HasNumbers (outline d)
  pub low : depth d ≤ deep

pub plain_of : (deep : ℕ) (d : Data) → IsWritten deep d → deep ≤ max_depth → IsPlain d
plain_of deep d w le =
    let low = w.low in record { whole = w.whole; numbers = w.numbers; shallow = omega (arith, low, le) }

pub written_line : (deep : ℕ) (d : Data) → IsWritten deep d → IsPlain d → IsLineOf d (compact_text d ++ 10 ∷ [])
written_line deep d written plain =
    let text : tokens (compact_text d) ≡ tree.json_tokens (outline d) =
    ap tokens (sym (print-outline d))
    ∙ tokens-print (tree.json_tokens (outline d)) (ArePrintable-json_tokens (outline d) plain.numbers) in
    let low : tree.depth (outline d) ≤ max_depth = subst (λ n. n ≤ max_depth) (sym (outline_depth d)) plain.shallow in
    let reads : read (compact_text d) ≡ Some d =
    ap (λ o. option_and_then of_json (option_and_then (λ p. json.if_last p.0 p.1) o))
    (ap (json.value max_depth) (text ∙ sym (append-nil (tree.json_tokens (outline d))))
    ∙ value-json_tokens (outline d) max_depth [] low)
    ∙ written.back in
    line_written d (compact_text d) (compact_text d ++ 10 ∷ []) (λ _. refl) written.utf8 (λ _. reads) refl plain

-- ---- members of a list

comma_utf8 : (later : Bool) → IsUtf8 (comma_if later)
comma_utf8 true = IsUtf8-are_ascii (44 ∷ []) refl
comma_utf8 false = IsUtf8-are_ascii [] refl

-- the same of the members of a list, with a comma before the first or without
pub record AreWritten (deep : ℕ) (ds : Items) : Type 0 where
  pub utf8 : (later : Bool) → IsUtf8 (items_text later ds)
  pub back : of_items (items_outline ds) ≡ Some ds
  pub whole : items_have_float ds ≡ false
  pub numbers : tree.ItemsHaveNumbers (items_outline ds)
  pub low : items_depth ds ≤ deep

pub none_written : (deep : ℕ) → AreWritten deep no_items
none_written deep = record {
  utf8 = λ later. IsUtf8-are_ascii (93 ∷ []) refl;
  back = refl;
  whole = refl;
  numbers = tt;
  low = omega arith;
}

pub more_written : (deep : ℕ) (d : Data) (ds : Items) → IsWritten deep d → AreWritten deep ds
    → AreWritten deep (item d ds)
more_written deep d ds first others =
    let low = first.low in
    let rest = others.low in
    record {
      utf8 = λ later.
          IsUtf8-append (comma_if later) _ (comma_utf8 later)
          (IsUtf8-append (compact_text d) _ first.utf8 (others.utf8 true));
      back = rw (first.back, others.back) refl;
      whole = ap₂ (λ a b. a || b) first.whole others.whole;
      numbers = (first.numbers, others.numbers);
      low = omega (arith, low, rest);
    }

pub list_written : (deep : ℕ) (ds : Items) → AreWritten deep ds → IsWritten (suc deep) (array ds)
list_written deep ds written =
    let low = written.low in
    record {
      utf8 = IsUtf8-append (91 ∷ []) (items_text false ds) (IsUtf8-are_ascii (91 ∷ []) refl) (written.utf8 false);
      back = rw written.back refl;
      whole = written.whole;
      numbers = written.numbers;
      low = omega (arith, low);
    }

number_written : (deep n : ℕ) → n < 2 ^ 64 → IsWritten deep (spec.whole n)
number_written deep n fits = record {
  utf8 = IsUtf8-from_ascii (decimal n) (IsAscii-decimal n fits);
  back = ap (option_map number) (number_of-decimal n fits);
  whole = refl;
  numbers = IsNumber-decimal n fits;
  low = omega arith;
}

name_utf8 : (o : Option Rule) → IsUtf8 (choice_name o)
name_utf8 None = IsUtf8-are_ascii (codes "leaf") refl
name_utf8 (Some Gt) = IsUtf8-are_ascii (codes "gt") refl
name_utf8 (Some Ct) = IsUtf8-are_ascii (codes "ct") refl
name_utf8 (Some Split) = IsUtf8-are_ascii (codes "split") refl
name_utf8 (Some Dim) = IsUtf8-are_ascii (codes "dim") refl

name_written : (deep : ℕ) (o : Option Rule) → IsWritten deep (string (choice_name o))
name_written deep o = record {
  utf8 = IsUtf8-quoted (choice_name o) (name_utf8 o);
  back = refl;
  whole = refl;
  numbers = tt;
  low = omega arith;
}

row_written : (deep : ℕ) (row : Row) → HasWords row → IsWritten (suc deep) (row_data row)
row_written deep row words =
    list_written deep _
    (more_written deep (spec.whole row.size) _ (number_written deep row.size words.size)
    (more_written deep (spec.whole row.cost) _ (number_written deep row.cost words.cost)
    (more_written deep (string (choice_name row.rule)) _ (name_written deep row.rule)
    (more_written deep (spec.whole row.left) _ (number_written deep row.left words.left)
    (more_written deep (spec.whole row.right) no_items (number_written deep row.right words.right)
    (none_written deep))))))

rows_written : (deep : ℕ) (c : Request) (closing : ℕ) (rows : List Row) → All (IsChosenRow c closing) rows
    → AreWritten (suc deep) (rows_data rows)
rows_written deep c closing [] h = none_written (suc deep)
rows_written deep c closing (row ∷ rows) h =
    more_written (suc deep) (row_data row) (rows_data rows) (row_written deep row (h 0 row (omega arith)).1.words)
    (rows_written deep c closing rows (λ k x less. h (suc k) x (omega arith)))

-- ---- tables

-- a member after another one
more_members : (key : List ℕ) (d : Data) (ms : Members) (later : Bool) → IsUtf8 key → IsUtf8 (compact_text d)
    → IsUtf8 (members_text true ms) → IsUtf8 (members_text later (member key d ms))
more_members key d ms later named first others =
    IsUtf8-append (comma_if later) _ (comma_utf8 later)
    (IsUtf8-append (quoted key) _ (IsUtf8-quoted key named)
    (IsUtf8-append (58 ∷ []) _ (IsUtf8-are_ascii (58 ∷ []) refl) (IsUtf8-append (compact_text d) _ first others)))

pub table_written : (deep : ℕ) (c : Request) (closing n weight : ℕ) (rows : List Row) → n < 2 ^ 64 → weight < 2 ^ 64
    → All (IsChosenRow c closing) rows → IsWritten (suc (suc (suc deep))) (table_data n weight rows)
table_written deep c closing n weight rows fits small chosen =
    let list = list_written (suc deep) (rows_data rows) (rows_written deep c closing rows chosen) in
    let size = number_written 0 n fits in
    let two = number_written 0 2 (omega arith) in
    let weighs = number_written 0 weight small in
    let low : depth (array (rows_data rows)) ≤ suc (suc deep) = list.low in
    let fourth : Members = member (codes "weight") (spec.whole weight) no_members in
    let third : Members = member (codes "version") (spec.whole 2) fourth in
    let second : Members = member (codes "size") (spec.whole n) third in
    let front : IsUtf8 (members_text false (member (codes "rows") (array (rows_data rows)) second)) =
    more_members (codes "rows") (array (rows_data rows)) second false (IsUtf8-are_ascii (codes "rows") refl) list.utf8
    (more_members (codes "size") (spec.whole n) third true (IsUtf8-are_ascii (codes "size") refl) size.utf8
    (more_members (codes "version") (spec.whole 2) fourth true (IsUtf8-are_ascii (codes "version") refl) two.utf8
    (more_members (codes "weight") (spec.whole weight) no_members true (IsUtf8-are_ascii (codes "weight") refl)
    weighs.utf8 (IsUtf8-are_ascii (125 ∷ []) refl)))) in
    record {
      utf8 = IsUtf8-append (123 ∷ []) _ (IsUtf8-are_ascii (123 ∷ []) refl) front;
      back = rw (list.back, size.back, two.back, weighs.back) refl;
      whole = rw list.whole refl;
      numbers = (list.numbers, (size.numbers, (two.numbers, (weighs.numbers, tt))));
      low = omega (arith, low);
    }
