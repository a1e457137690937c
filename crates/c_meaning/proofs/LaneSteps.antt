-- The steps of the statement of an operation.
use Rattle.std.proofs.Common.{◌≡◌, ℕ, ◌+◌, ◌^◌, ◌≤◌, List, [], ◌∷◌, ◌++◌, length, map, codes, arith, refl, ap, ap₂, ◌∙◌}
use Rattle.std.specs.Prelude.{pos, if◌then◌else◌}
use Rattle.std.specs.List.{range_with_len}
use Rattle.std.proofs.lemmas.Bool.{lt-ltb}
use Rattle.icode.specs.Plain.{PlainProgram}
use Rattle.c_meaning.specs.Types.{Int, Long, Word, Bare, constant_type, room}
use Rattle.c_meaning.specs.Syntax.{numbered}
use Rattle.c_meaning.specs.Numbers.{Undefined, Defined, ◌>>=◌, converted}
use Rattle.c_meaning.specs.Scopes.{Scope, with_variable, with_array}
use Rattle.c_meaning.specs.Statements.{Step, assigned, all_steps, rounds, counted}
use Rattle.c_meaning.specs.Units.{with_tables}
use Rattle.c_meaning.specs.PlaceTrees.{loop_variable}
use Rattle.c_meaning.specs.ProgramTrees.{lanes_name, table_trees}
use Rattle.c_meaning.specs.ProgramLaws.{with_loops, phase_scope}
use Rattle.c_meaning.specs.AddressLaws.{lane_scope}
use Rattle.c_meaning.specs.StepLaws.{LanesAreSteps}
use Rattle.c_meaning.proofs.NumberLaws.{converted_is}
use Rattle.c_meaning.proofs.Addresses.{memory_scope}
use Rattle.c_meaning.proofs.MemoryValues.{loops_keep_type, tables_keep_type}

loops_keep_value : (vs : List ℕ) (depth : ℕ) (s : Scope) → (with_loops depth vs s).value lanes_name ≡ s.value lanes_name
loops_keep_value [] depth s = refl
loops_keep_value (v ∷ vs) depth s = loops_keep_value vs (depth + 1) (with_variable Word (loop_variable depth) (pos v) s)

tables_keep_value : (first : ℕ) (tables : List (List ℕ)) (s : Scope) → (with_tables (table_trees first tables) s).value lanes_name ≡ s.value lanes_name
tables_keep_value first [] s = refl
tables_keep_value first (entries ∷ tables) s =
    tables_keep_value (first + 1) tables (with_array Word (numbered (codes "t") first) (length entries ∷ []) s)

-- the number of lanes is an int
lanes_int : (n : ℕ) → n ≤ 16 → constant_type Bare n ≡ Int
lanes_int n h = ap (λ b. if b then Int else Long) (lt-ltb n (2 ^ 31) (omega arith))

lanes_type : (p : PlainProgram) (q : ℕ) (vs : List ℕ) → p.lanes ≤ 16 → (with_loops 0 vs (phase_scope p q)).type lanes_name ≡ Int
lanes_type p q vs h =
    loops_keep_type vs 0 (phase_scope p q) lanes_name (λ k. refl)
    ∙ tables_keep_type 0 p.tables (memory_scope p) lanes_name (λ k. refl)
    ∙ lanes_int p.lanes h

lanes_value : (p : PlainProgram) (q : ℕ) (vs : List ℕ) → p.lanes ≤ 16 → (with_loops 0 vs (phase_scope p q)).value lanes_name ≡ Defined (pos p.lanes)
lanes_value p q vs h =
    loops_keep_value vs 0 (phase_scope p q)
    ∙ tables_keep_value 0 p.tables (memory_scope p)
    ∙ ap (λ type. Defined (converted type (pos p.lanes))) (lanes_int p.lanes h)
    ∙ ap (λ z. Defined z) (converted_is Int p.lanes (omega arith))

rounds_are : (n : ℕ) → n ≤ 16 → rounds Int Int (pos n) ≡ Defined n
rounds_are n h =
    ap (λ z. counted Int z) (converted_is Int n (omega arith))
    ∙ ap (λ b. if b then Defined n else Undefined) (lt-ltb n (room Int) (omega arith))

each_one : (f : ℕ → Step) (xs : List ℕ) → all_steps (map (λ i. Defined (f i ∷ [])) xs) ≡ Defined (map f xs)
each_one f [] = refl
each_one f (x ∷ xs) = ap (λ o. o >>= λ more. Defined ((f x ∷ []) ++ more)) (each_one f xs)

pub lanes_are_steps : LanesAreSteps
lanes_are_steps p q vs array indices value h =
    let s = with_loops 0 vs (phase_scope p q) in
    let step : ℕ → Step = λ l. assigned (lane_scope p q vs l) array indices value in
    ap₂ (λ type o. o >>= λ x. rounds Int type x >>= λ n. all_steps (map (λ l. Defined (step l ∷ [])) (range_with_len 0 n)))
    (lanes_type p q vs h) (lanes_value p q vs h)
    ∙ ap (λ o. o >>= λ n. all_steps (map (λ l. Defined (step l ∷ [])) (range_with_len 0 n))) (rounds_are p.lanes h)
    ∙ each_one step (range_with_len 0 p.lanes)
