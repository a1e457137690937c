-- Reading the line of a table in C.
use Rattle.std.specs.Prelude.{◌≡◌, ℕ, ◌<◌, List, length, true, ◌==◌, codes, nat_lt, Result, if◌then◌else◌}
use Rattle.std.specs.List.{list_all}
use Rattle.grammar.specs.Reading.{Place, ◌>>=◌, pure_at, word_at, named_number_at, numbers_at}
use Rattle.listing_text.specs.Reading.{above_all, refuse}
use Rattle.c_print.specs.CText.{c_table_text}

-- a table says how many entries it has
abbrev pub same_length : ℕ → ℕ → List ℕ → Place ℕ → Result ((ℕ × List ℕ) × Place ℕ) ℕ
same_length number count entries = if length entries == count then pure_at (number, entries) else refuse

-- a table's number and its entries: one, and up to a given number more
abbrev pub c_table_at : ℕ → Place ℕ → Result ((ℕ × List ℕ) × Place ℕ) ℕ
c_table_at most = do
  number ← named_number_at (codes "static const uint64_t t") above_all
  count ← named_number_at (codes "[") above_all
  _ ← word_at (codes "] = {")
  entries ← numbers_at (codes ",") above_all most
  _ ← word_at (codes "};\n")
  same_length number count entries

-- the text is the line of the table, which has entries, and all its numbers are words
abbrev pub IsTableOf : List ℕ → ℕ → List ℕ → Type 0
IsTableOf text number entries =
    (number < above_all) × (0 < length entries) × (length entries < above_all) × (list_all (λ c. nat_lt c above_all) entries ≡ true) × (text ≡ c_table_text number entries)
