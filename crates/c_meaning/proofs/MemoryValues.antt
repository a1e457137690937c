-- What a lane of a load and of a store does.
use Rattle.std.proofs.Common.{◌≡◌, ℕ, ◌+◌, List, [], ◌∷◌, length, false, codes, refl, ap, ap₂, ◌∙◌}
use Rattle.std.specs.Prelude.{pos, slice_index_or, if◌then◌else◌}
use Rattle.icode.specs.declared.program.Array.{Array}
use Rattle.icode.specs.declared.program.Array.TheVariants as arrays
use Rattle.icode.specs.Plain.{PlainProgram}
use Rattle.c_meaning.specs.Types.{Word}
use Rattle.c_meaning.specs.Syntax.{Name, numbered}
use Rattle.c_meaning.specs.Numbers.{Undefined, Defined, ◌>>=◌, converted}
use Rattle.c_meaning.specs.Scopes.{Scope, with_variable, with_array, with_word, word_at, same_name}
use Rattle.c_meaning.specs.Expressions.{value_of, values_of}
use Rattle.c_meaning.specs.Units.{with_tables}
use Rattle.c_meaning.specs.PlaceTrees.{loop_variable}
use Rattle.c_meaning.specs.ProgramTrees.{memory_name, table_trees, array_name, register, at_lane}
use Rattle.c_meaning.specs.ProgramLaws.{with_loops, phase_scope}
use Rattle.c_meaning.specs.AddressLaws.{lane_scope}
use Rattle.c_meaning.specs.MemoryLaws.{address_of, LanesLoad, LanesStore}
use Rattle.c_meaning.proofs.NumberLaws.{converted_is}
use Rattle.c_meaning.proofs.Addresses.{memory_scope, elements_are_words}
use Rattle.c_meaning.proofs.LaneValues.{grouped, register_value}

-- ---- the types of arrays

pub loops_keep_type : (vs : List ℕ) (depth : ℕ) (s : Scope) (name : Name) →
    ((k : ℕ) → same_name name (loop_variable k) ≡ false) → (with_loops depth vs s).type name ≡ s.type name
loops_keep_type [] depth s name other = refl
loops_keep_type (v ∷ vs) depth s name other =
    loops_keep_type vs (depth + 1) (with_variable Word (loop_variable depth) (pos v) s) name other
    ∙ ap (λ b. if b then Word else s.type name) (other depth)

pub tables_keep_type : (first : ℕ) (tables : List (List ℕ)) (s : Scope) (name : Name) →
    ((k : ℕ) → same_name name (numbered (codes "t") k) ≡ false) → (with_tables (table_trees first tables) s).type name ≡ s.type name
tables_keep_type first [] s name other = refl
tables_keep_type first (entries ∷ tables) s name other =
    tables_keep_type (first + 1) tables (with_array Word (numbered (codes "t") first) (length entries ∷ []) s) name other
    ∙ ap (λ b. if b then Word else s.type name) (other first)

array_type : (p : PlainProgram) (q : ℕ) (vs : List ℕ) (l : ℕ) (array : Array) → (lane_scope p q vs l).type (array_name array) ≡ Word
array_type p q vs l arrays.X =
    loops_keep_type vs 0 (phase_scope p q) (array_name arrays.X) (λ k. refl)
    ∙ tables_keep_type 0 p.tables (memory_scope p) (array_name arrays.X) (λ k. refl)
array_type p q vs l arrays.Y =
    loops_keep_type vs 0 (phase_scope p q) (array_name arrays.Y) (λ k. refl)
    ∙ tables_keep_type 0 p.tables (memory_scope p) (array_name arrays.Y) (λ k. refl)
array_type p q vs l arrays.A =
    loops_keep_type vs 0 (phase_scope p q) (array_name arrays.A) (λ k. refl)
    ∙ tables_keep_type 0 p.tables (memory_scope p) (array_name arrays.A) (λ k. refl)
array_type p q vs l arrays.B =
    loops_keep_type vs 0 (phase_scope p q) (array_name arrays.B) (λ k. refl)
    ∙ tables_keep_type 0 p.tables (memory_scope p) (array_name arrays.B) (λ k. refl)

-- ---- loads and stores

pub lanes_load : LanesLoad
lanes_load p q vs words array place l n small below inside numbers short fits held =
    let s = lane_scope p q vs l in
    let name = array_name array in
    let at = elements_are_words p q vs words array place l small below inside numbers short fits in
    grouped (values_of s words (at_lane place)) (λ is. word_at s name is) (λ place. slice_index_or (words (s.lies name).0) place Undefined)
    ∙ ap (λ o. o >>= λ place. slice_index_or (words (s.lies name).0) place Undefined) at.1
    ∙ ap (λ whole. slice_index_or (words whole) (address_of p q vs array place l) Undefined) at.0
    ∙ held

pub lanes_store : LanesStore
lanes_store p q vs words array place l r n small below inside numbers short fits few narrow is_lane h word_small held =
    let s = lane_scope p q vs l in
    let name = array_name array in
    let at = elements_are_words p q vs words array place l small below inside numbers short fits in
    let value = register_value p q vs words l few narrow is_lane r n h held in
    grouped (values_of s words (at_lane place)) (λ is. word_at s name is)
    (λ place. value_of s words (register r) >>= λ x. Defined (with_word (s.lies name).0 place (converted (s.type name) x) words))
    ∙ ap (λ o. o >>= λ place. value_of s words (register r) >>= λ x. Defined (with_word (s.lies name).0 place (converted (s.type name) x) words)) at.1
    ∙ ap (λ o. o >>= λ x. Defined (with_word (s.lies name).0 (address_of p q vs array place l) (converted (s.type name) x) words)) value
    ∙ ap₂ (λ whole type. Defined (with_word whole (address_of p q vs array place l) (converted type (pos n)) words)) at.0 (array_type p q vs l array)
    ∙ ap (λ z. Defined (with_word memory_name (address_of p q vs array place l) z words)) (converted_is Word n word_small)
