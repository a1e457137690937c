-- The elements of tables are the entries that the machine's actions name.
use Rattle.std.proofs.Common.{◌≡◌, ℕ, zero, suc, ◌+◌, ◌*◌, ◌^◌, ◌<◌, List, [], ◌∷◌, length, map, Option, Some, None, arith, refl, sym, ap, ◌∙◌}
use Rattle.std.specs.Prelude.{pos, is_some, slice_get}
use Rattle.std.proofs.lemmas.Bool.{false≢true}
use Rattle.std.proofs.lemmas.Nat.{mul-le}
use Rattle.icode.specs.Expression.{sum_numbers}
use Rattle.c_meaning.specs.Types.{Word}
use Rattle.c_meaning.specs.Syntax.{Times, Spaced, Named, Two}
use Rattle.c_meaning.specs.Numbers.{Defined, ◌>>=◌}
use Rattle.c_meaning.specs.Scopes.{Scope, Words, with_array, instead, word_after, from_place}
use Rattle.c_meaning.specs.Expressions.{type_of}
use Rattle.c_meaning.specs.Units.{with_tables, with_entries}
use Rattle.c_meaning.specs.PlaceTrees.{place_tree}
use Rattle.c_meaning.specs.ProgramTrees.{table_trees, table_name, lane, number}
use Rattle.c_meaning.specs.ProgramLaws.{phase_scope}
use Rattle.c_meaning.specs.AddressLaws.{lane_scope}
use Rattle.c_meaning.specs.EntryLaws.{TablesHaveEntries, EntriesAreWords}
use Rattle.c_meaning.proofs.NumberLaws.{least_room}
use Rattle.c_meaning.proofs.PlaceValues.{constant_has, sum_has, product_has, place_holds}
use Rattle.c_meaning.proofs.ProgramScopes.{phases_know, another, this}
use Rattle.c_meaning.proofs.Addresses.{memory_scope, loops_keep, lane_knows, lane_has, one_index}

-- tables with greater numbers leave a table as it is
later_keep : (first e : ℕ) (tables : List (List ℕ)) (s : Scope) → e < first →
    ((with_tables (table_trees first tables) s).lies (table_name e) ≡ s.lies (table_name e))
    × ((with_tables (table_trees first tables) s).lengths (table_name e) ≡ s.lengths (table_name e))
later_keep first e [] s h = (refl, refl)
later_keep first e (entries ∷ tables) s h =
    let rest = later_keep (first + 1) e tables (with_array Word (table_name first) (length entries ∷ []) s) (omega arith) in (
      rest.0 ∙ another e first (table_name first, 0) (s.lies (table_name e)) h,
      rest.1 ∙ another e first (length entries ∷ []) (s.lengths (table_name e)) h,
    )

the_same : (xs ys : List ℕ) → Some xs ≡ Some ys → xs ≡ ys
the_same xs ys e = ap (λ o. option_or o) e
  where
    option_or : Option (List ℕ) → List ℕ
    option_or (Some zs) = zs
    option_or None = []

table_lies : (tables : List (List ℕ)) (first k e : ℕ) (entries : List ℕ) (s : Scope) → e ≡ first + k →
    slice_get tables k ≡ Some entries →
    ((with_tables (table_trees first tables) s).lies (table_name e) ≡ (table_name e, 0))
    × ((with_tables (table_trees first tables) s).lengths (table_name e) ≡ length entries ∷ [])
table_lies [] first k e entries s is found = absurd (false≢true (ap is_some found))
table_lies (table ∷ tables) first zero e entries s is found =
    let same : e ≡ first = omega arith in
    let rest = later_keep (first + 1) e tables (with_array Word (table_name first) (length table ∷ []) s) (omega arith) in (
      rest.0 ∙ this e first (table_name first, 0) (s.lies (table_name e)) same ∙ ap (λ n. (table_name n, 0)) (sym same),
      rest.1 ∙ this e first (length table ∷ []) (s.lengths (table_name e)) same ∙ ap (λ xs. length xs ∷ []) (the_same table entries found),
    )
table_lies (table ∷ tables) first (suc k) e entries s is found =
    table_lies tables (first + 1) k e entries (with_array Word (table_name first) (length table ∷ []) s) (omega arith) found

-- and the words of tables
later_words : (first e : ℕ) (tables : List (List ℕ)) (words : Words) → e < first →
    with_entries (table_trees first tables) words (table_name e) ≡ words (table_name e)
later_words first e [] words h = refl
later_words first e (entries ∷ tables) words h =
    later_words (first + 1) e tables (instead (table_name first) (map (λ c. Defined (pos c)) entries) words) (omega arith)
    ∙ another e first (map (λ c. Defined (pos c)) entries) (words (table_name e)) h

table_words : (tables : List (List ℕ)) (first k e : ℕ) (entries : List ℕ) (words : Words) → e ≡ first + k →
    slice_get tables k ≡ Some entries →
    with_entries (table_trees first tables) words (table_name e) ≡ map (λ c. Defined (pos c)) entries
table_words [] first k e entries words is found = absurd (false≢true (ap is_some found))
table_words (table ∷ tables) first zero e entries words is found =
    let same : e ≡ first = omega arith in
    later_words (first + 1) e tables (instead (table_name first) (map (λ c. Defined (pos c)) table) words) (omega arith)
    ∙ this e first (map (λ c. Defined (pos c)) table) (words (table_name e)) same
    ∙ ap (λ xs. map (λ c. Defined (pos c)) xs) (the_same table entries found)
table_words (table ∷ tables) first (suc k) e entries words is found =
    table_words tables (first + 1) k e entries (instead (table_name first) (map (λ c. Defined (pos c)) table) words) (omega arith) found

pub tables_have_entries : TablesHaveEntries
tables_have_entries p table entries found = table_words p.tables 0 table table entries _ (omega arith) found

pub entries_are_words : EntriesAreWords
entries_are_words p q vs words table entries place step l found small below inside numbers one few short fits =
    let s = lane_scope p q vs l in
    let n = (sum_numbers place vs q).value in
    let known = lane_knows p q vs l (phases_know p q vs small below) in
    let lane_is = lane_has p q vs l words (omega arith) in
    let step_is = constant_has s words step (omega arith) in
    let most : step * l < 2 ^ 31 = omega (arith, mul-le step l 1 l (omega arith) (omega arith)) in
    let steps = product_has s words (2 ^ 31) (number step) (Named lane) step l step_is lane_is (least_room (type_of s (number step))) most in
    let right = Two Times Spaced (number step) (Named lane) in
    let sum = sum_has s words (2 ^ 31) (place_tree place) right n (step * l)
    (place_holds s words vs q place known inside numbers) (record { value = steps.value; below = steps.below })
    (least_room (type_of s right)) (omega arith) in
    let kept = loops_keep vs 0 (phase_scope p q) (table_name table) in
    let found_at = table_lies p.tables 0 table table entries (memory_scope p) (omega arith) found in
    let lies = kept.0 ∙ found_at.0 in
    let long = kept.1 ∙ found_at.1 in (
      ap (λ at. at.0) lies,
      ap (λ o. (o >>= λ x. Defined (x ∷ [])) >>= λ is. word_after 0 (s.lengths (s.lies (table_name table)).0) (from_place (s.lies (table_name table)).1 is)) sum.value
          ∙ ap (λ at. word_after 0 (s.lengths at.0) (from_place at.1 (pos (n + step * l) ∷ []))) lies
          ∙ ap (λ lengths. word_after 0 lengths (from_place 0 (pos (n + step * l) ∷ []))) long
          ∙ one_index 0 (n + step * l) (length entries) (omega arith)
          ∙ ap (λ n. Defined n) (let same : 0 + (n + step * l) ≡ n + step * l = omega arith in same),
    )
