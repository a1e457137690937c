-- Walks over lists that are concatenated.
use Rattle.std.proofs.Common.{◌≡◌, ℕ, zero, suc, ◌+◌, ◌-◌, ◌*◌, ◌<◌, ◌≤◌, ◌^◌, List, [], ◌∷◌, ◌++◌, Option, Some, None}
use Rattle.std.proofs.Common.{flat_map, length, take, drop, drop-cons, add-one, get_or, true, refl, sym, ap, ◌∙◌, arith}
use Rattle.std.proofs.Common.{suc-mul, ltb-true}
use Rattle.std.specs.Prelude.{nat_lt, slice_set}
use Rattle.std.specs.List.{range_with_len}
use Rattle.std.proofs.lemmas.Grind.{take-set_at}
use Rattle.std.proofs.lemmas.List.{drop_all, take-set}
use Rattle.icode.specs.Actions.{Step, steps_of_stmt, steps_of_body}
use Rattle.icode.specs.Lengths.{len_of_stmt, len_of_body}
use Rattle.icode.specs.Limits.{is_small_positive, is_stmt_within, is_body_within}
use Rattle.icode.specs.Plain.{PlainStmt, PlainBody, PlainProgram, Loop, NoStmts, AndStmts}
use Rattle.icode.proofs.Bools.{both_true}
use Rattle.icode.proofs.Lengths.{stmt_length, body_length}
use Rattle.code_check.specs.declared.live.Live.{Live}
use Rattle.code_check.specs.Live.{plain_live, plain_lives}
use Rattle.code_check.specs.declared.lines.LineUse.{LineUse}
use Rattle.code_check.specs.declared.walk.Offence.{Offence}
use Rattle.code_check.specs.Uses.{noted}
use Rattle.code_check.specs.Walk.{Walk, Passed, Stopped, judged, goes_on, walked}

passed_after : (j : Option Offence) (n m : ℕ) (u : List LineUse) (rest all after : Walk) →
    (rest ≡ Passed m u → all ≡ after) → goes_on j n rest ≡ Passed m u → goes_on j n all ≡ after
passed_after None n m u rest all after h e = h e
passed_after (Some o) n m u rest all after h e = cc

stopped_after : (j : Option Offence) (n m : ℕ) (o : Offence) (rest all : Walk) →
    (rest ≡ Stopped m o → all ≡ Stopped m o) → goes_on j n rest ≡ Stopped m o → goes_on j n all ≡ Stopped m o
stopped_after None n m o rest all h e = h e
stopped_after (Some f) n m o rest all h e = e

count_after : (j : Option Offence) (n m len : ℕ) (u : List LineUse) (rest : Walk) →
    (rest ≡ Passed m u → m ≡ n + 1 + len) → goes_on j n rest ≡ Passed m u → m ≡ n + suc len
count_after None n m len u rest h e = omega (arith, h e)
count_after (Some o) n m len u rest h e = cc

module _ (p : PlainProgram) (q : ℕ) where
  -- what follows steps that are sound is walked from where they end
  pub passed_on : (xs ys : List Step) (n m : ℕ) (t u : List LineUse) → walked p q xs n t ≡ Passed m u →
      walked p q (xs ++ ys) n t ≡ walked p q ys m u
  passed_on [] ys n m t u e = cc
  passed_on (s ∷ xs) ys n m t u e =
      let v : List LineUse = noted p q s t in
      passed_after (judged p s) n m u (walked p q xs (n + 1) v) (walked p q (xs ++ ys) (n + 1) v) (walked p q ys m u) (passed_on xs ys (n + 1) m v u) e

  -- where steps stop a walk, so they do with others after them
  pub stopped_on : (xs ys : List Step) (n m : ℕ) (t : List LineUse) (o : Offence) → walked p q xs n t ≡ Stopped m o →
      walked p q (xs ++ ys) n t ≡ Stopped m o
  stopped_on [] ys n m t o e = cc
  stopped_on (s ∷ xs) ys n m t o e =
      let v : List LineUse = noted p q s t in
      stopped_after (judged p s) n m o (walked p q xs (n + 1) v) (walked p q (xs ++ ys) (n + 1) v) (stopped_on xs ys (n + 1) m v o) e

  -- how many steps a walk has passed
  pub passed_count : (xs : List Step) (n m : ℕ) (t u : List LineUse) → walked p q xs n t ≡ Passed m u →
      m ≡ n + length xs
  passed_count [] n m t u e = let same : n ≡ m = cc in omega arith
  passed_count (s ∷ xs) n m t u e =
      let v : List LineUse = noted p q s t in count_after (judged p s) n m (length xs) u (walked p q xs (n + 1) v) (passed_count xs (n + 1) m v u) e

-- a walk over statements, of which these are left
pub record IsInBody (p : PlainProgram) (q : ℕ) (whole left : PlainBody) (vs : List ℕ) (depth n n0 : ℕ) (t t0 : List LineUse) : Type 0 where
  pub leads : walked p q (steps_of_body p left vs q) n t ≡ walked p q (steps_of_body p whole vs q) n0 t0
  pub few : n + len_of_body left < 2 ^ 64
  pub within : is_body_within p.modulus left depth ≡ true

module _ (p : PlainProgram) (q depth n n0 : ℕ) (whole left rest : PlainBody) (s : PlainStmt) (vs : List ℕ)
    (t t0 : List LineUse) where
  pub body_goes_on : (m : ℕ) (u : List LineUse) → left ≡ AndStmts s rest → IsInBody p q whole left vs depth n n0 t t0 →
      walked p q (steps_of_stmt p s vs q) n t ≡ Passed m u → IsInBody p q whole rest vs depth m n0 u t0
  body_goes_on m u e h passed =
      let count = passed_count p q (steps_of_stmt p s vs q) n m t u passed in
      record {
        leads = sym (passed_on p q (steps_of_stmt p s vs q) (steps_of_body p rest vs q) n m t u passed)
            ∙ (sym (ap (λ b. walked p q (steps_of_body p b vs q) n t) e) ∙ h.leads);
        few = omega (arith, h.few, count, stmt_length p s vs q, ap len_of_body e);
        within = (both_true (is_stmt_within p.modulus s depth) _ (sym (ap (λ b. is_body_within p.modulus b depth) e) ∙ h.within)).1;
      }

  pub body_stops : (m : ℕ) (o : Offence) → left ≡ AndStmts s rest → IsInBody p q whole left vs depth n n0 t t0 →
      walked p q (steps_of_stmt p s vs q) n t ≡ Stopped m o →
      walked p q (steps_of_body p whole vs q) n0 t0 ≡ Stopped m o
  body_stops m o e h stopped =
      sym h.leads
      ∙ (ap (λ b. walked p q (steps_of_body p b vs q) n t) e
      ∙ stopped_on p q (steps_of_stmt p s vs q) (steps_of_body p rest vs q) n m t o stopped)

  pub stmt_within : left ≡ AndStmts s rest → IsInBody p q whole left vs depth n n0 t t0 →
      is_stmt_within p.modulus s depth ≡ true
  stmt_within e h = (both_true (is_stmt_within p.modulus s depth) _ (sym (ap (λ b. is_body_within p.modulus b depth) e) ∙ h.within)).0

  pub stmt_few : left ≡ AndStmts s rest → IsInBody p q whole left vs depth n n0 t t0 → n + len_of_stmt s < 2 ^ 64
  stmt_few e h = omega (arith, h.few, ap len_of_body e)

pub next_live : (items : List Live) (i : ℕ) (x : Live) → i < length items → x ≡ get_or items i x →
    plain_lives (drop i items) ≡ AndStmts (plain_live x) (plain_lives (drop (i + 1) items))
next_live items i x lt e =
    let split : drop i items ≡ x ∷ drop (i + 1) items = rw (add-one, drop-cons items i x) (ap (λ y. y ∷ drop (suc i) items) (sym e)) in
    ap plain_lives split

-- a walk over a loop, of which `turn` turns are walked
pub record IsInLoop (p : PlainProgram) (q : ℕ) (s : PlainStmt) (body : PlainBody) (vs : List ℕ) (turn end n n0 : ℕ) (t t0 : List LineUse) : Type 0 where
  pub leads : walked p q (flat_map (λ i. steps_of_body p body (vs ++ i ∷ []) q) (range_with_len turn (end - turn))) n t
      ≡ walked p q (steps_of_stmt p s vs q) n0 t0
  pub few : n + (end - turn) * len_of_body body < 2 ^ 64

module _ (p : PlainProgram) (q turn end n n0 : ℕ) (s : PlainStmt) (body : PlainBody) (vs : List ℕ)
    (t t0 : List LineUse) where
  turns_split : turn < end → flat_map (λ i. steps_of_body p body (vs ++ i ∷ []) q) (range_with_len turn (end - turn))
      ≡ steps_of_body p body (vs ++ turn ∷ []) q ++ flat_map (λ i. steps_of_body p body (vs ++ i ∷ []) q)
      (range_with_len (turn + 1) (end - (turn + 1)))
  turns_split lt =
      let left : end - turn ≡ suc (end - (turn + 1)) = omega arith in
      ap (λ m. flat_map (λ i. steps_of_body p body (vs ++ i ∷ []) q) (range_with_len turn m)) left

  pub loop_goes_on : (m : ℕ) (u : List LineUse) → turn < end → IsInLoop p q s body vs turn end n n0 t t0 →
      walked p q (steps_of_body p body (vs ++ turn ∷ []) q) n t ≡ Passed m u →
      IsInLoop p q s body vs (turn + 1) end m n0 u t0
  loop_goes_on m u lt h passed =
      let count = passed_count p q (steps_of_body p body (vs ++ turn ∷ []) q) n m t u passed in
      let rest : List Step = flat_map (λ i. steps_of_body p body (vs ++ i ∷ []) q) (range_with_len (turn + 1) (end - (turn + 1))) in
      let left : end - turn ≡ suc (end - (turn + 1)) = omega arith in
      let product = ap (λ k. k * len_of_body body) left ∙ suc-mul (end - (turn + 1)) (len_of_body body) in
      record {
        leads = sym (passed_on p q (steps_of_body p body (vs ++ turn ∷ []) q) rest n m t u passed)
            ∙ (sym (ap (λ xs. walked p q xs n t) (turns_split lt)) ∙ h.leads);
        few = omega (arith, h.few, count, body_length p body (vs ++ turn ∷ []) q, product);
      }

  pub loop_stops : (m : ℕ) (o : Offence) → turn < end → IsInLoop p q s body vs turn end n n0 t t0 →
      walked p q (steps_of_body p body (vs ++ turn ∷ []) q) n t ≡ Stopped m o →
      walked p q (steps_of_stmt p s vs q) n0 t0 ≡ Stopped m o
  loop_stops m o lt h stopped =
      let rest : List Step = flat_map (λ i. steps_of_body p body (vs ++ i ∷ []) q) (range_with_len (turn + 1) (end - (turn + 1))) in
      sym h.leads
      ∙ (ap (λ xs. walked p q xs n t) (turns_split lt)
      ∙ stopped_on p q (steps_of_body p body (vs ++ turn ∷ []) q) rest n m t o stopped)

  pub turn_few : turn < end → IsInLoop p q s body vs turn end n n0 t t0 → n + len_of_body body < 2 ^ 64
  turn_few lt h =
      let left : end - turn ≡ suc (end - (turn + 1)) = omega arith in
      let product = ap (λ k. k * len_of_body body) left ∙ suc-mul (end - (turn + 1)) (len_of_body body) in
      omega (arith, h.few, product)

  pub loop_ends : end ≤ turn → IsInLoop p q s body vs turn end n n0 t t0 →
      walked p q (steps_of_stmt p s vs q) n0 t0 ≡ Passed n t
  loop_ends past h =
      let none : end - turn ≡ 0 = omega arith in
      sym h.leads ∙ ap (λ m. walked p q (flat_map (λ i. steps_of_body p body (vs ++ i ∷ []) q) (range_with_len turn m)) n t) none

-- within a loop
pub within_loop : (m depth count : ℕ) (body : PlainBody) (s : PlainStmt) → s ≡ Loop count body →
    is_stmt_within m s depth ≡ true → (depth < 64) × (is_body_within m body (depth + 1) ≡ true)
within_loop m depth count body s e h =
    let parts = both_true (is_small_positive count) _ (sym (ap (λ z. is_stmt_within m z depth) e) ∙ h) in
    let more = both_true (nat_lt depth 64) _ parts.1 in (ltb-true depth 64 more.0, more.1)

-- a loop's variable after the values of the loops around it
pub open_now : (values before : List ℕ) (depth turn : ℕ) → depth < length values →
    take depth values ≡ take depth before → take (depth + 1) (slice_set values depth turn) ≡ take depth before ++ turn
    ∷ []
open_now values before depth turn lt same = take-set_at values depth (depth + 1) turn refl lt ∙ ap (λ vs. vs ++ turn ∷ []) same

shorter : (depth : ℕ) (xs : List ℕ) → take depth (take (suc depth) xs) ≡ take depth xs
shorter zero xs = refl
shorter (suc depth) [] = refl
shorter (suc depth) (x ∷ xs) = ap (λ ys. x ∷ ys) (shorter depth xs)

-- without the loop's variable
pub without_variable : (values before : List ℕ) (depth turn : ℕ) →
    take (depth + 1) values ≡ take (depth + 1) (slice_set before depth turn) → take depth values ≡ take depth before
without_variable values before depth turn same =
    let next : depth + 1 ≡ suc depth = omega arith in
    let cut = ap (λ n. take n values) (sym next) ∙ (same ∙ ap (λ n. take n (slice_set before depth turn)) next) in
    sym (shorter depth values) ∙ (ap (take depth) cut ∙ (shorter depth (slice_set before depth turn) ∙ take-set before depth turn))
