-- What names stand for in the C text of a program.
use Rattle.std.proofs.Common.{◌≡◌, ℕ, zero, suc, ◌+◌, ◌^◌, ◌<◌, List, [], ◌∷◌, length, All, codes, arith, refl, ap, ◌∙◌}
use Rattle.std.specs.Prelude.{pos, ◌==◌, slice_index, if◌then◌else◌}
use Rattle.std.proofs.lemmas.Bool.{eq-eqb, ne_eqb}
use Rattle.icode.specs.Plain.{PlainProgram}
use Rattle.c_meaning.specs.Types.{Word}
use Rattle.c_meaning.specs.Syntax.{numbered}
use Rattle.c_meaning.specs.Numbers.{Defined, converted}
use Rattle.c_meaning.specs.Scopes.{Scope, nothing, with_variable, with_array}
use Rattle.c_meaning.specs.Expressions.{with_function}
use Rattle.c_meaning.specs.Units.{with_tables, with_parts, with_macros}
use Rattle.c_meaning.specs.Functions.{add_function, sub_function}
use Rattle.c_meaning.specs.FunctionLaws.{HasModulus}
use Rattle.c_meaning.specs.PlaceTrees.{processor, loop_variable}
use Rattle.c_meaning.specs.ProgramTrees.{unit_of, table_trees}
use Rattle.c_meaning.specs.ProgramLaws.{UnitsCompute, PhasesKnow, with_loops, phase_scope}
use Rattle.c_meaning.proofs.NumberLaws.{converted_is}
use Rattle.c_meaning.proofs.FunctionValues.{functions_compute}

-- tables leave the modulus as it is
tables_keep : (m number : ℕ) (tables : List (List ℕ)) (s : Scope) → HasModulus s m → HasModulus (with_tables (table_trees number tables) s) m
tables_keep m number [] s known = known
tables_keep m number (entries ∷ tables) s known =
    tables_keep m (number + 1) tables (with_array Word (numbered (codes "t") number) (length entries ∷ []) s)
    (record { type = known.type; value = known.value })

-- the scope of a text without its functions
abbrev memory_scope : PlainProgram → Scope
memory_scope p =
    let u = unit_of p in
    with_tables u.tables (with_array Word u.memory (u.words ∷ []) (with_parts u.memory u.parts (with_macros u.macros nothing)))

memory_known : (p : PlainProgram) → p.modulus < 2 ^ 62 → HasModulus (memory_scope p) p.modulus
memory_known p small =
    let u = unit_of p in
    tables_keep p.modulus 0 p.tables (with_array Word u.memory (u.words ∷ []) (with_parts u.memory u.parts (with_macros u.macros nothing)))
    (record { type = refl; value = ap (λ z. Defined z) (converted_is Word p.modulus (omega arith)) })

pub units_compute : UnitsCompute
units_compute p small a b a_below b_below =
    let known = memory_known p small in
    let with_add : HasModulus (with_function add_function (memory_scope p)) p.modulus = record { type = known.type; value = known.value } in
    let with_sub : HasModulus (with_function sub_function (with_function add_function (memory_scope p))) p.modulus = record { type = known.type; value = known.value } in
    let add = functions_compute (memory_scope p) p.modulus known small a b a_below b_below in
    let sub = functions_compute (with_function add_function (memory_scope p)) p.modulus with_add small a b a_below b_below in
    let mul = functions_compute (with_function sub_function (with_function add_function (memory_scope p))) p.modulus with_sub small a b a_below b_below in
    (add.0, sub.1, sub.2, mul.3)

-- ---- the variables of loops

abbrev WordsOnly : List ℕ → Type 0
WordsOnly vs = All (λ v. v < 2 ^ 64) vs

-- loops change neither the processor nor the variables of the loops round them
processor_kept : (vs : List ℕ) (depth : ℕ) (s : Scope) →
    ((with_loops depth vs s).type processor ≡ s.type processor) × ((with_loops depth vs s).value processor ≡ s.value processor)
processor_kept [] depth s = (refl, refl)
processor_kept (v ∷ vs) depth s = processor_kept vs (depth + 1) (with_variable Word (loop_variable depth) (pos v) s)

pub another : {A : Type 0} (e depth : ℕ) (x y : A) → e < depth → (if e == depth then x else y) ≡ y
another e depth x y h = ap (λ b. if b then x else y) (ne_eqb e depth (λ same. let no : ⊥ = omega arith in no))

outer_kept : (vs : List ℕ) (depth e : ℕ) (s : Scope) → e < depth →
    ((with_loops depth vs s).type (loop_variable e) ≡ s.type (loop_variable e))
    × ((with_loops depth vs s).value (loop_variable e) ≡ s.value (loop_variable e))
outer_kept [] depth e s h = (refl, refl)
outer_kept (v ∷ vs) depth e s h =
    let rest = outer_kept vs (depth + 1) e (with_variable Word (loop_variable depth) (pos v) s) (omega arith) in
    (rest.0 ∙ another e depth Word (s.type (loop_variable e)) h, rest.1 ∙ another e depth _ (s.value (loop_variable e)) h)

pub this : {A : Type 0} (e depth : ℕ) (x y : A) → e ≡ depth → (if e == depth then x else y) ≡ x
this e depth x y h = ap (λ b. if b then x else y) (eq-eqb e depth h)

-- the variable of each loop has its value
loops_are : (vs : List ℕ) (depth k e : ℕ) (s : Scope) → e ≡ depth + k → k < length vs → WordsOnly vs →
    ((with_loops depth vs s).type (loop_variable e) ≡ Word)
    × ((with_loops depth vs s).value (loop_variable e) ≡ Defined (pos (slice_index vs k)))
    × (slice_index vs k < 2 ^ 64)
loops_are [] depth k e s is h below = absurd (nothing_below h)
  where
    nothing_below : {k : ℕ} → k < 0 → ⊥
    nothing_below h = omega arith
loops_are (v ∷ vs) depth zero e s is h below =
    let same : e ≡ depth = omega arith in
    let inner = with_variable Word (loop_variable depth) (pos v) s in
    let rest = outer_kept vs (depth + 1) e inner (omega arith) in (
      rest.0 ∙ this e depth Word (s.type (loop_variable e)) same,
      rest.1 ∙ this e depth (Defined (converted Word (pos v))) (s.value (loop_variable e)) same
          ∙ ap (λ z. Defined z) (converted_is Word v (below 0 0 (omega arith))),
      below 0 0 (omega arith),
    )
loops_are (v ∷ vs) depth (suc k) e s is h below =
    loops_are vs (depth + 1) k e (with_variable Word (loop_variable depth) (pos v) s) (omega arith) (omega arith) (λ k d h. below (suc k) d (omega arith))

pub phases_know : PhasesKnow
phases_know p q vs small below =
    let kept = processor_kept vs 0 (phase_scope p q) in
    record {
      processor_type = kept.0;
      processor_value = kept.1 ∙ ap (λ z. Defined z) (converted_is Word q small);
      processor_below = small;
      loop_type = λ depth h. (loops_are vs 0 depth depth (phase_scope p q) (omega arith) h below).0;
      loop_value = λ depth h. (loops_are vs 0 depth depth (phase_scope p q) (omega arith) h below).1;
      loop_below = λ depth h. (loops_are vs 0 depth depth (phase_scope p q) (omega arith) h below).2;
    }
