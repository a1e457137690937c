-- Tables in two factors: tables whose entries are products of entries of two smaller ones.
use Rattle.std.specs.Prelude.{ℕ, zero, suc, ◌+◌, ◌-◌, ◌*◌, ◌/◌, ◌%◌, ◌==◌, ◌&&◌, Bool, nat_lt, nat_le, List, [], ◌∷◌}
use Rattle.std.specs.Prelude.{length, slice_index, if◌then◌else◌}
use Rattle.std.specs.List.{range_with_len, list_all}
use Rattle.operators.specs.Sum.{list_below}
use Rattle.ring_mod.specs.Residue.{product_mod}
use Rattle.icode.specs.Limits.{is_small_positive}

-- a table in blocks of `width` entries, of which `across` are a row
pub record Cut : Type 0 where
  pub width : ℕ
  pub across : ℕ

-- ---- the two factors

-- the first entry of each block
abbrev pub first_factor : Cut → List ℕ → List ℕ
first_factor cut entries = list_below (length entries / cut.width) (λ j. slice_index entries (j * cut.width))

-- the first block of each row
abbrev pub second_factor : Cut → List ℕ → List ℕ
second_factor cut entries =
    list_below (length entries / cut.width / cut.across * cut.width)
    (λ j. slice_index entries (j / cut.width * cut.across * cut.width + j % cut.width))

-- where the factors of an entry stand
abbrev pub first_place : Cut → ℕ → ℕ
first_place cut e = e / cut.width

abbrev pub second_place : Cut → ℕ → ℕ
second_place cut e = e / cut.width / cut.across * cut.width + e % cut.width

-- the entry is the product of entries of the factors
abbrev pub is_product_at : ℕ → Cut → List ℕ → List ℕ → List ℕ → ℕ → Bool
is_product_at m cut first second entries e =
    let i = first_place cut e in
    let j = second_place cut e in
    nat_lt i (length first)
    && (nat_lt j (length second) && product_mod m (slice_index first i) (slice_index second j) == slice_index entries e)

-- residues, of which there are some
abbrev pub is_table : ℕ → List ℕ → Bool
is_table m entries = nat_lt 0 (length entries) && list_all (λ c. nat_lt c m) entries

-- each entry is
abbrev pub are_factors : ℕ → Cut → List ℕ → List ℕ → List ℕ → Bool
are_factors m cut first second entries =
    is_table m first
    && (is_table m second && list_all (is_product_at m cut first second entries) (range_with_len 0 (length entries)))

-- ---- how a table is cut

-- how many entries in front are 1
abbrev pub ones : List ℕ → ℕ
ones [] = 0
ones (c ∷ entries) = if c == 1 then suc (ones entries) else 0

-- the greatest power of two, from this one on, whose square the row has room for; the first number says how many to try
abbrev pub widest : ℕ → ℕ → ℕ → ℕ → ℕ
widest zero width square row = width
widest (suc tries) width square row =
    if nat_le (4 * square) row then widest tries (2 * width) (4 * square) row else width

-- A table of the powers w^(i * k), row by row, begins with a row of
-- ones and one more. A block of it is about as wide as a row has blocks
abbrev pub cut_of : List ℕ → Cut
cut_of entries =
    let row = ones entries - 1 in
    let width = widest 31 1 1 row in
    record { width = width; across = row / width }

-- blocks are whole groups of lanes
abbrev pub is_cut : ℕ → Cut → Bool
is_cut lanes cut = is_small_positive cut.width && (is_small_positive cut.across && cut.width % lanes == 0)
