-- A text has a byte for each entry of a table, so no table has more entries than a word can count.
use Rattle.std.proofs.Common.{◌≡◌, ℕ, ◌+◌, ◌<◌, ◌≤◌, ◌^◌, List, [], ◌∷◌, ◌++◌, refl, arith, length, true}
use Rattle.std.proofs.Common.{ap, length-append}
use Rattle.std.proofs.lemmas.Bool.{and_from, lt-ltb}
use Rattle.std.specs.Prelude.{codes, decimal, flat_map, nat_lt}
use Rattle.std.specs.List.{list_all}
use Rattle.icode.specs.Plain.{PlainProgram}
use Rattle.listing_text.specs.Wording.{header_of, phases_text, tables_text}
use Rattle.c_print.specs.CText.{c_table_text, c_text_of, c_wording, joined_text}
use Rattle.c_print.specs.CTexts.{HasShortTables}

-- an entry as it stands behind another one
abbrev behind : ℕ → List ℕ
behind c = codes "," ++ decimal c

behind-long : (cs : List ℕ) → length cs ≤ length (flat_map behind cs)
behind-long [] = omega arith
behind-long (c ∷ cs) =
    let rest = behind-long cs in
    let both = length-append (behind c) (flat_map behind cs) in
    let one = length-append (codes ",") (decimal c) in
    let mark : length (codes ",") ≡ 1 = refl in
    let whole : length (flat_map behind (c ∷ cs)) ≡ length (behind c ++ flat_map behind cs) = refl in
    omega (arith, rest, both, one, mark, whole)

joined-long : (cs : List ℕ) → length cs ≤ length (joined_text cs) + 1
joined-long [] = omega arith
joined-long (c ∷ cs) =
    let rest = behind-long cs in
    let both = length-append (decimal c) (flat_map behind cs) in
    let whole : length (joined_text (c ∷ cs)) ≡ length (decimal c ++ flat_map behind cs) = refl in
    omega (arith, rest, both, whole)

-- what stands around the entries
abbrev before_entries : ℕ → List ℕ → List ℕ
before_entries number entries =
    codes "static const uint64_t t" ++ decimal number ++ codes "[" ++ decimal (length entries) ++ codes "] = {"

table-parts : (number : ℕ) (entries : List ℕ) →
    c_table_text number entries ≡ before_entries number entries ++ joined_text entries ++ codes "};\n"
unfolding c_table_text
table-parts number entries = refl

table-long : (number : ℕ) (entries : List ℕ) → length entries ≤ length (c_table_text number entries)
table-long number entries =
    let parts = ap length (table-parts number entries) in
    let whole = length-append (before_entries number entries ++ joined_text entries) (codes "};\n") in
    let first = length-append (before_entries number entries) (joined_text entries) in
    let ends : length (codes "};\n") ≡ 3 = refl in
    let joined = joined-long entries in
    omega (arith, parts, whole, first, ends, joined)

table-some : (number : ℕ) (entries : List ℕ) → 1 ≤ length (c_table_text number entries)
table-some number entries =
    let parts = ap length (table-parts number entries) in
    let whole = length-append (before_entries number entries ++ joined_text entries) (codes "};\n") in
    let ends : length (codes "};\n") ≡ 3 = refl in
    omega (arith, parts, whole, ends)

tables-few : (number : ℕ) (tables : List (List ℕ)) → length tables ≤ length (tables_text c_wording number tables)
tables-few number [] = omega arith
tables-few number (entries ∷ tables) =
    let rest = tables-few (number + 1) tables in
    let both = length-append (c_table_text number entries) (tables_text c_wording (number + 1) tables) in
    let some = table-some number entries in
    let all : length (tables_text c_wording number (entries ∷ tables))
    ≡ length (c_table_text number entries ++ tables_text c_wording (number + 1) tables) = refl in
    omega (arith, rest, both, some, all)

tables-short : (number : ℕ) (tables : List (List ℕ)) → length (tables_text c_wording number tables) < 2 ^ 64 →
    list_all (λ entries. nat_lt (length entries) (2 ^ 64)) tables ≡ true
tables-short number [] short = refl
tables-short number (entries ∷ tables) short =
    let both = length-append (c_table_text number entries) (tables_text c_wording (number + 1) tables) in
    let long = table-long number entries in
    let all : length (tables_text c_wording number (entries ∷ tables))
    ≡ length (c_table_text number entries ++ tables_text c_wording (number + 1) tables) = refl in
    and_from (nat_lt (length entries) (2 ^ 64)) (list_all (λ entries. nat_lt (length entries) (2 ^ 64)) tables)
    (lt-ltb (length entries) (2 ^ 64) (omega (arith, short, both, long, all)))
    (tables-short (number + 1) tables (omega (arith, short, both, all)))

-- the tables' part of a text is no longer than the text
text-tables : (p : PlainProgram) → length (tables_text c_wording 0 p.tables) ≤ length (c_text_of p)
text-tables p =
    let header = header_of p in
    let tables = tables_text c_wording 0 p.tables in
    let rest = c_wording.between ++ phases_text c_wording p.regs 0 p.phases in
    let first = length-append (c_wording.header header ++ c_wording.front header ++ tables) rest in
    let second = length-append (c_wording.header header ++ c_wording.front header) tables in
    let whole : length (c_text_of p)
    ≡ length (c_wording.header header ++ c_wording.front header ++ tables ++ rest) = refl in
    omega (arith, first, second, whole)

-- so of a program whose text a word can count
pub text_short : (p : PlainProgram) → length (c_text_of p) < 2 ^ 64 → HasShortTables p
text_short p short =
    let part = text-tables p in
    tables-short 0 p.tables (omega (arith, short, part))

pub text_few : (p : PlainProgram) → length (c_text_of p) < 2 ^ 64 → length p.tables ≤ 2 ^ 64
text_few p short =
    let part = text-tables p in
    let few = tables-few 0 p.tables in
    omega (arith, short, part, few)
