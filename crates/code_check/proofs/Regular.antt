-- What each step of a program has, whatever its places and registers are.
use Rattle.std.proofs.Common.{◌≡◌, ℕ, zero, suc, ◌+◌, ◌-◌, ◌*◌, ◌/◌, ◌<◌, ◌≤◌, ◌&&◌, true, List, [], ◌∷◌, ◌++◌, All}
use Rattle.std.proofs.Common.{Contains, IsTrue, map, replicate, flat_map, length, refl, sym, ◌∙◌, subst, arith, ⊎_elim}
use Rattle.std.proofs.Common.{ltb-true}
use Rattle.std.specs.Prelude.{nat_lt, slice_index, slice_index_or}
use Rattle.std.specs.List.{range_with_len, list_all}
use Rattle.std.proofs.lemmas.List.FromFn.{get_or-map-range_with_len, length-map-range_with_len}
use Rattle.std.proofs.lemmas.List.Elements.{All-nil, All-cons, All-append, All-head, All-map, All-replicate, All-tail}
use Rattle.std.proofs.lemmas.List.Elements.{Contains-append_cases}
use Rattle.icode.specs.declared.program.Array.{Array}
use Rattle.icode.specs.declared.program.Array.TheVariants.{X}
use Rattle.icode.specs.Actions.{Step, FactorsFit, array_start, lane_factors, actions_of, step_of, steps_of_stmt}
use Rattle.icode.specs.Actions.{steps_of_body, steps_of_phase}
use Rattle.icode.specs.Expression.{sum_numbers}
use Rattle.icode.specs.Limits.{is_small, is_small_positive, is_op_within, is_stmt_within, is_body_within}
use Rattle.icode.specs.Limits.{are_tables_within, are_phases_within, IsWithinLimits}
use Rattle.icode.specs.Machine.{whole_lines}
use Rattle.icode.specs.Plain.{PlainOp, PlainStmt, PlainBody, PlainProgram, Load, Store, MulConst}
use Rattle.icode.specs.Plain.{MulTable, Loop, Do, NoStmts, AndStmts}
use Rattle.icode.proofs.Bools.{both_true}
use Rattle.icode.proofs.Lines.{Contains-nil}
use Rattle.code_check.specs.Refusals.{IsThere, IsSound}
use Rattle.code_check.specs.Uses.{line_count}
use Rattle.code_check.proofs.Touching.{line_inside}
use Rattle.code_check.proofs.Tables.{lines_touched}

all_turns : {X : Type 0} (P : X → Type 0) (f : ℕ → List X) → ((i : ℕ) → All P (f i)) → (n first : ℕ) →
    All P (flat_map f (range_with_len first n))
all_turns P f h zero first = All-nil P
all_turns P f h (suc n) first = All-append P (f first) (flat_map f (range_with_len (first + 1) n)) (h first) (all_turns P f h n (first + 1))

-- what each operation's step has, each step has
module _ (p : PlainProgram) (P : Step → Type 0) (ops : (op : PlainOp) (vs : List ℕ) (q n : ℕ) →
    is_op_within p.modulus op n ≡ true → P (step_of p op vs q)) where
  mutual
    stmt_all : (s : PlainStmt) (vs : List ℕ) (q n : ℕ) → is_stmt_within p.modulus s n ≡ true →
        All P (steps_of_stmt p s vs q)
    stmt_all (Loop count body) vs q n h =
        let deep = (both_true (is_small_positive count) _ h).1 in
        let inner = (both_true (nat_lt n 64) _ deep).1 in
        all_turns P (λ i. steps_of_body p body (vs ++ i ∷ []) q) (λ i. body_all body (vs ++ i ∷ []) q (n + 1) inner) count 0
    stmt_all (Do op) vs q n h = All-cons P (step_of p op vs q) [] (ops op vs q n h) (All-nil P)

    body_all : (body : PlainBody) (vs : List ℕ) (q n : ℕ) → is_body_within p.modulus body n ≡ true →
        All P (steps_of_body p body vs q)
    body_all NoStmts vs q n h = All-nil P
    body_all (AndStmts s body) vs q n h =
        let two = both_true (is_stmt_within p.modulus s n) _ h in
        All-append P (steps_of_stmt p s vs q) (steps_of_body p body vs q) (stmt_all s vs q n two.0) (body_all body vs q n two.1)

  phases_all : (phases : List PlainBody) (phase q : ℕ) → list_all (λ body. is_body_within p.modulus body 0) phases
      ≡ true → All P (steps_of_body p (slice_index_or phases phase NoStmts) [] q)
  phases_all [] phase q h = All-nil P
  phases_all (body ∷ phases) zero q h = body_all body [] q 0 (both_true (is_body_within p.modulus body 0) _ h).0
  phases_all (body ∷ phases) (suc phase) q h = phases_all phases phase q (both_true (is_body_within p.modulus body 0) _ h).1

  pub each_step : IsTrue (are_phases_within p.modulus p.phases) → (phase q : ℕ) → All P (steps_of_phase p phase q)
  each_step h phase q = phases_all p.phases phase q (both_true (nat_lt 0 (length p.phases)) _ h).1

-- factors

entry_small : (m : ℕ) (entries : List ℕ) (k : ℕ) → 0 < m → list_all (λ c. nat_lt c m) entries ≡ true →
    slice_index entries k < m
entry_small m [] k pos h = pos
entry_small m (c ∷ entries) zero pos h = ltb-true c m (both_true (nat_lt c m) _ h).0
entry_small m (c ∷ entries) (suc k) pos h = entry_small m entries k pos (both_true (nat_lt c m) _ h).1

table_small : (m : ℕ) (tables : List (List ℕ)) (table k : ℕ) → 0 < m → are_tables_within m tables ≡ true →
    slice_index (slice_index_or tables table []) k < m
table_small m [] table k pos h = pos
table_small m (entries ∷ tables) zero k pos h =
    entry_small m entries k pos (both_true (nat_lt 0 (length entries)) _ (both_true (nat_lt 0 (length entries) && list_all (λ c. nat_lt c m) entries) _ h).0).1
table_small m (entries ∷ tables) (suc table) k pos h =
    table_small m tables table k pos (both_true (nat_lt 0 (length entries) && list_all (λ c. nat_lt c m) entries) _ h).1

lanes_small : (m lanes : ℕ) (f : ℕ → ℕ) → 0 < m → ((lane : ℕ) → f lane < m) → All (λ c. c < m) (lane_factors lanes f)
lanes_small m lanes f pos h =
    All-append (λ c. c < m) (map f (range_with_len 0 lanes)) (replicate (16 - lanes) 0)
    (All-map (λ c. c < m) f (range_with_len 0 lanes) (λ k d lt. h _))
    (All-replicate (λ c. c < m) (16 - lanes) 0 pos)

op_factors : (p : PlainProgram) → 0 < p.modulus → IsTrue (are_tables_within p.modulus p.tables) →
    (op : PlainOp) (vs : List ℕ) (q n : ℕ) → is_op_within p.modulus op n ≡ true →
    FactorsFit p.modulus (step_of p op vs q).action
op_factors p pos tables (MulConst r x factor) vs q n h =
    let small = ltb-true factor p.modulus (both_true (is_small x) _ (both_true (is_small r) _ h).1).1 in
    lanes_small p.modulus p.lanes (λ lane. factor) pos (λ lane. small)
op_factors p pos tables (MulTable r x table place step) vs q n h =
    lanes_small p.modulus p.lanes (λ lane. slice_index (slice_index_or p.tables table []) ((sum_numbers place vs q).value + step * lane)) pos
    (λ lane. table_small p.modulus p.tables table ((sum_numbers place vs q).value + step * lane) pos tables)
op_factors p pos tables _ vs q n h = tt

pub factors_fit : (p : PlainProgram) → IsWithinLimits p → (phase q : ℕ) →
    All (λ (s : Step). FactorsFit p.modulus s.action) (steps_of_phase p phase q)
factors_fit p limits =
    each_step p (λ s. FactorsFit p.modulus s.action) (op_factors p (omega (arith, limits.header.of_modulus.0)) limits.constants) limits.statements

-- lines

touched_word : (line address lanes k : ℕ) → Contains (map (λ j. j / line) (range_with_len address lanes)) k →
    (i : ℕ) × (i < lanes) × ((address + i) / line ≡ k)
touched_word line address lanes k h =
    let lt : h.0 < lanes = omega (arith, h.1, length-map-range_with_len (λ j. j / line) address lanes) in
    (h.0, lt, sym (get_or-map-range_with_len (λ j. j / line) address lanes h.0 (address + h.0) k lt refl) ∙ h.2)

pub array_inside : (words value lanes : ℕ) (array : Array) → value + lanes ≤ words →
    array_start words array + value + lanes ≤ 4 * words
array_inside words value lanes X h = omega arith
array_inside words value lanes _ h = omega arith

access_inside : (p : PlainProgram) (value : ℕ) (array : Array) (k : ℕ) → 1 ≤ p.line →
    value + p.lanes ≤ whole_lines p.size p.line → Contains (map (λ j. j / p.line)
    (range_with_len (array_start (whole_lines p.size p.line) array + value) p.lanes)) k → k < line_count p
access_inside p value array k pos fits h =
    let words : ℕ = whole_lines p.size p.line in
    let at = touched_word p.line (array_start words array + value) p.lanes k h in
    subst (λ j. j < line_count p) at.2
    (line_inside ((p.size + (p.line - 1)) / p.line) p.line (array_start words array + value) p.lanes at.0 pos (array_inside words value p.lanes array fits) at.1)

abbrev pub TouchesInside : PlainProgram → Step → Type 0
TouchesInside p s = IsThere s → (k : ℕ) → Contains (lines_touched p s.action) k → k < line_count p

op_lines : (p : PlainProgram) → 1 ≤ p.line → (op : PlainOp) (vs : List ℕ) (q n : ℕ) →
    is_op_within p.modulus op n ≡ true → TouchesInside p (step_of p op vs q)
op_lines p pos (Load r array place) vs q n h there k on = access_inside p (sum_numbers place vs q).value array k pos there.inside on
op_lines p pos (Store array place r) vs q n h there k on = access_inside p (sum_numbers place vs q).value array k pos there.inside on
op_lines p pos _ vs q n h there k on = absurd (Contains-nil k on)

-- the lines of sound steps are in the table
lines_in_steps : (p : PlainProgram) (steps : List Step) (k : ℕ) → All (IsSound p) steps → All (TouchesInside p) steps →
    Contains (flat_map (lines_touched p) (actions_of steps)) k → k < line_count p
lines_in_steps p [] k sound inside h = absurd (Contains-nil k h)
lines_in_steps p (s ∷ steps) k sound inside h =
    ⊎_elim
    (λ (one : Contains (lines_touched p s.action) k). All-head (TouchesInside p) s steps inside (All-head (IsSound p) s steps sound).place k one)
    (λ (more : Contains (flat_map (lines_touched p) (actions_of steps)) k). lines_in_steps p steps k (All-tail (IsSound p) s steps sound) (All-tail (TouchesInside p) s steps inside) more)
    (Contains-append_cases (lines_touched p s.action) (flat_map (lines_touched p) (actions_of steps)) k h)

pub sound_lines : (p : PlainProgram) → IsWithinLimits p → (phase q k : ℕ) → All (IsSound p) (steps_of_phase p phase q) →
    Contains (flat_map (lines_touched p) (actions_of (steps_of_phase p phase q))) k → k < line_count p
sound_lines p limits phase q k sound h =
    lines_in_steps p (steps_of_phase p phase q) k sound
    (each_step p (TouchesInside p) (op_lines p limits.header.of_line.0) limits.statements phase q) h
