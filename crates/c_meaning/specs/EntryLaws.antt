-- Which entries the elements of tables are, where a statement of a phase stands.
use Rattle.std.specs.Prelude.{◌≡◌, ℕ, ◌+◌, ◌*◌, ◌^◌, ◌<◌, ◌⊎◌, List, length, map, All, Some, true, pos, slice_get}
use Rattle.icode.specs.Plain.{PlainExpr, PlainProgram}
use Rattle.icode.specs.Expression.{sum_numbers}
use Rattle.icode.specs.Limits.{is_sum_within}
use Rattle.c_meaning.specs.Numbers.{Defined}
use Rattle.c_meaning.specs.Scopes.{Words}
use Rattle.c_meaning.specs.PlaceLaws.{AreNamed}
use Rattle.c_meaning.specs.Units.{words_of}
use Rattle.c_meaning.specs.ProgramTrees.{unit_of, table_name, at_step}
use Rattle.c_meaning.specs.AddressLaws.{lane_scope, word_of}

-- a table of the text has the entries of the program's
abbrev pub TablesHaveEntries : Type 0
TablesHaveEntries =
    (p : PlainProgram) (table : ℕ) (entries : List ℕ) → slice_get p.tables table ≡ Some entries →
    words_of (unit_of p) (table_name table) ≡ map (λ c. Defined (pos c)) entries

-- `t[place + step * l]` is the entry that the machine's action names for lane l, where the table has it; there is no
-- undefined step
abbrev pub EntriesAreWords : Type 0
EntriesAreWords =
    (p : PlainProgram) (q : ℕ) (vs : List ℕ) (words : Words) (table : ℕ) (entries : List ℕ) (place : PlainExpr)
    (step l : ℕ) →
    slice_get p.tables table ≡ Some entries → q < 2 ^ 64 → All (λ v. v < 2 ^ 64) vs →
    is_sum_within place (length vs) ≡ true →
    ((sum_numbers place vs q).peak < 2 ^ 31) ⊎ (AreNamed place × ((sum_numbers place vs q).peak < 2 ^ 64)) →
    step < 2 → l < 2 ^ 30 → length entries < 2 ^ 31 → (sum_numbers place vs q).value + step * l < length entries →
    (((lane_scope p q vs l).lies (table_name table)).0 ≡ table_name table)
    × (word_of (lane_scope p q vs l) words (table_name table) (at_step place step)
    ≡ Defined ((sum_numbers place vs q).value + step * l))
