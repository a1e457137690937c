-- The elements of arrays are the words that the machine's actions name.
use Rattle.std.proofs.Common.{◌≡◌, ℕ, ◌+◌, ◌*◌, ◌^◌, ◌<◌, false, List, [], ◌∷◌, length, codes, arith, refl, ap, ap₂, ◌∙◌}
use Rattle.std.specs.Prelude.{pos, if◌then◌else◌, nat_lt}
use Rattle.std.proofs.lemmas.Bool.{lt-ltb}
use Rattle.icode.specs.declared.program.Array.{Array}
use Rattle.icode.specs.declared.program.Array.TheVariants as arrays
use Rattle.icode.specs.Plain.{PlainProgram}
use Rattle.icode.specs.Actions.{array_start}
use Rattle.icode.specs.Expression.{sum_numbers}
use Rattle.icode.specs.Machine.{whole_lines}
use Rattle.c_meaning.specs.Types.{Int, Word}
use Rattle.c_meaning.specs.Syntax.{Name, numbered, Named}
use Rattle.c_meaning.specs.Numbers.{Defined, Undefined, ◌>>=◌}
use Rattle.c_meaning.specs.Scopes.{Scope, Words, nothing, with_variable, with_array, same_name, word_after, from_place}
use Rattle.c_meaning.specs.Expressions.{type_of}
use Rattle.c_meaning.specs.Units.{with_tables, with_parts, with_macros}
use Rattle.c_meaning.specs.PlaceTrees.{place_tree, loop_variable}
use Rattle.c_meaning.specs.PlaceLaws.{Knows}
use Rattle.c_meaning.specs.ProgramTrees.{unit_of, table_trees, memory_name, registers_name, lane, array_name, number}
use Rattle.c_meaning.specs.ProgramLaws.{with_loops, phase_scope}
use Rattle.c_meaning.specs.AddressLaws.{lane_scope, ElementsAreWords, RegistersAreWords}
use Rattle.c_meaning.proofs.NumberLaws.{converted_is, least_room}
use Rattle.c_meaning.proofs.PlaceValues.{Has, constant_has, sum_has, place_holds}
use Rattle.c_meaning.proofs.ProgramScopes.{phases_know}

-- ---- where arrays lie

-- loops leave arrays as they are
pub loops_keep : (vs : List ℕ) (depth : ℕ) (s : Scope) (name : Name) →
    ((with_loops depth vs s).lies name ≡ s.lies name) × ((with_loops depth vs s).lengths name ≡ s.lengths name)
loops_keep [] depth s name = (refl, refl)
loops_keep (v ∷ vs) depth s name = loops_keep vs (depth + 1) (with_variable Word (loop_variable depth) (pos v) s) name

-- tables leave an array of another name
tables_keep : (number : ℕ) (tables : List (List ℕ)) (s : Scope) (name : Name) →
    ((k : ℕ) → same_name name (numbered (codes "t") k) ≡ false) →
    ((with_tables (table_trees number tables) s).lies name ≡ s.lies name)
    × ((with_tables (table_trees number tables) s).lengths name ≡ s.lengths name)
tables_keep number [] s name other = (refl, refl)
tables_keep number (entries ∷ tables) s name other =
    let rest = tables_keep (number + 1) tables (with_array Word (numbered (codes "t") number) (length entries ∷ []) s) name other in (
      rest.0 ∙ ap (λ b. if b then (numbered (codes "t") number, 0) else s.lies name) (other number),
      rest.1 ∙ ap (λ b. if b then length entries ∷ [] else s.lengths name) (other number),
    )

-- the scope of the memory and its parts
abbrev pub memory_scope : PlainProgram → Scope
memory_scope p =
    let u = unit_of p in with_array Word u.memory (u.words ∷ []) (with_parts u.memory u.parts (with_macros u.macros nothing))

module _ (p : PlainProgram) (q : ℕ) (vs : List ℕ) (l : ℕ) where
  array_lies : (array : Array) → (lane_scope p q vs l).lies (array_name array) ≡ (memory_name, array_start (whole_lines p.size p.line) array)
  array_lies arrays.X =
      (loops_keep vs 0 (phase_scope p q) (array_name arrays.X)).0
      ∙ (tables_keep 0 p.tables (memory_scope p) (array_name arrays.X) (λ k. refl)).0
  array_lies arrays.Y =
      (loops_keep vs 0 (phase_scope p q) (array_name arrays.Y)).0
      ∙ (tables_keep 0 p.tables (memory_scope p) (array_name arrays.Y) (λ k. refl)).0
  array_lies arrays.A =
      (loops_keep vs 0 (phase_scope p q) (array_name arrays.A)).0
      ∙ (tables_keep 0 p.tables (memory_scope p) (array_name arrays.A) (λ k. refl)).0
  array_lies arrays.B =
      (loops_keep vs 0 (phase_scope p q) (array_name arrays.B)).0
      ∙ (tables_keep 0 p.tables (memory_scope p) (array_name arrays.B) (λ k. refl)).0

  memory_long : (lane_scope p q vs l).lengths memory_name ≡ 4 * whole_lines p.size p.line ∷ []
  memory_long =
      (loops_keep vs 0 (phase_scope p q) memory_name).1 ∙ (tables_keep 0 p.tables (memory_scope p) memory_name (λ k. refl)).1

  registers_lie : (lane_scope p q vs l).lies registers_name ≡ (registers_name, 0)
  registers_lie = (loops_keep vs 0 (phase_scope p q) registers_name).0

  registers_long : (lane_scope p q vs l).lengths registers_name ≡ p.regs ∷ p.lanes ∷ []
  registers_long = (loops_keep vs 0 (phase_scope p q) registers_name).1

  -- the variable of the lane does not hide what places name
  pub lane_knows : Knows (with_loops 0 vs (phase_scope p q)) vs q → Knows (lane_scope p q vs l) vs q
  lane_knows known =
      record {
        processor_type = known.processor_type;
        processor_value = known.processor_value;
        processor_below = known.processor_below;
        loop_type = known.loop_type;
        loop_value = known.loop_value;
        loop_below = known.loop_below;
      }

  pub lane_has : (words : Words) → l < 2 ^ 31 → Has (lane_scope p q vs l) words (Named lane) l
  lane_has words small = record { value = ap (λ z. Defined z) (converted_is Int l small); below = small }

-- ---- words

within : {A : Type 0} (i n : ℕ) (x y : A) → i < n → (if nat_lt i n then x else y) ≡ x
within i n x y h = ap (λ b. if b then x else y) (lt-ltb i n h)

pub one_index : (start k n : ℕ) → start + k < n → word_after 0 (n ∷ []) (from_place start (pos k ∷ [])) ≡ Defined (start + k)
one_index start k n h =
    within (start + k) n (Defined (0 * n + (start + k))) Undefined h ∙ ap (λ m. Defined m) (omega arith)

two_indices : (i k n m : ℕ) → i < n → k < m → word_after 0 (n ∷ m ∷ []) (from_place 0 (pos i ∷ pos k ∷ [])) ≡ Defined (i * m + k)
two_indices i k n m h g =
    within (0 + i) n (word_after (0 * n + (0 + i)) (m ∷ []) (pos k ∷ [])) Undefined (omega arith)
    ∙ within k m (Defined ((0 * n + (0 + i)) * m + k)) Undefined g
    ∙ ap (λ j. Defined (j * m + k)) (let same : 0 * n + (0 + i) ≡ i = omega arith in same)

start_within : (n k : ℕ) (array : Array) → k < n → array_start n array + k < 4 * n
start_within n k arrays.X h = omega arith
start_within n k arrays.Y h = omega arith
start_within n k arrays.A h = omega arith
start_within n k arrays.B h = omega arith

pub elements_are_words : ElementsAreWords
elements_are_words p q vs words array place l small below inside numbers short fits =
    let s = lane_scope p q vs l in
    let n = (sum_numbers place vs q).value in
    let known = lane_knows p q vs l (phases_know p q vs small below) in
    let lane_is = lane_has p q vs l words (omega arith) in
    let sum = sum_has s words (2 ^ 31) (place_tree place) (Named lane) n l
    (place_holds s words vs q place known inside numbers) lane_is (least_room (type_of s (Named lane))) (omega arith) in
    let lies = array_lies p q vs l array in (
      ap (λ at. at.0) lies,
      ap (λ o. (o >>= λ x. Defined (x ∷ [])) >>= λ is. word_after 0 (s.lengths (s.lies (array_name array)).0) (from_place (s.lies (array_name array)).1 is)) sum.value
          ∙ ap (λ at. word_after 0 (s.lengths at.0) (from_place at.1 (pos (n + l) ∷ []))) lies
          ∙ ap (λ lengths. word_after 0 lengths (from_place (array_start (whole_lines p.size p.line) array) (pos (n + l) ∷ []))) (memory_long p q vs l)
          ∙ one_index (array_start (whole_lines p.size p.line) array) (n + l) (4 * whole_lines p.size p.line)
          (start_within (whole_lines p.size p.line) (n + l) array fits),
    )

pub registers_are_words : RegistersAreWords
registers_are_words p q vs words register l h few g narrow =
    let s = lane_scope p q vs l in
    let first = constant_has s words register (omega arith) in
    let lane_is = lane_has p q vs l words (omega arith) in
    let lies = registers_lie p q vs l in (
      ap (λ at. at.0) lies,
      ap₂ (λ a b. (a >>= λ x. (b >>= λ y. Defined (y ∷ [])) >>= λ xs. Defined (x ∷ xs)) >>= λ is. word_after 0 (s.lengths (s.lies registers_name).0) (from_place (s.lies registers_name).1 is))
          first.value lane_is.value
          ∙ ap (λ at. word_after 0 (s.lengths at.0) (from_place at.1 (pos register ∷ pos l ∷ []))) lies
          ∙ ap (λ lengths. word_after 0 lengths (from_place 0 (pos register ∷ pos l ∷ []))) (registers_long p q vs l)
          ∙ two_indices register l p.regs p.lanes h g,
    )
