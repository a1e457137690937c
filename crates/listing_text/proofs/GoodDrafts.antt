-- Drafts that stay within the limits of programs.
use Rattle.std.proofs.Common.{◌≡◌, ℕ, suc, ◌+◌, ◌-◌, ◌<◌, ◌≤◌, ◌^◌, Bool, true, false, cond, eqb, ltb, leb, ◌&&◌, List}
use Rattle.std.proofs.Common.{[], ◌∷◌, ◌++◌, length, Some, None, refl, sym, ap, subst, ◌∙◌, arith}
use Rattle.std.specs.List.{list_all}
use Rattle.std.proofs.lemmas.Bool.{ltb-true, leb-true, lt-ltb, le-leb, and_parts, and_from, eqb-true}
use Rattle.std.proofs.lemmas.List.{length-append}
use Rattle.std.proofs.lemmas.List.Folds.{list_all-append}
use Rattle.icode.specs.Plain.{PlainStmt, PlainBody, Loop, body_of}
use Rattle.icode.specs.Plain as plain
use Rattle.icode.specs.Limits.{is_small_positive, is_stmt_within, is_body_within, is_op_within, are_tables_within}
use Rattle.icode.specs.Limits.{IsHeaderWithin, IsWithinLimits}
use Rattle.listing_text.specs.declared.draft.Header.{Header}
use Rattle.listing_text.specs.Reading.{above_all}
use Rattle.listing_text.specs.Wording.{PlainAct, Open, Close, Do, program_of}
use Rattle.listing_text.specs.Drafts.{PlainLevel, PlainDraft, is_between, is_header_within, blank, with_body, opened}
use Rattle.listing_text.specs.Drafts.{closed, may_open, act_step, is_empty, table_step, entered, header_step}

-- ---- limits of statements

body_within-push : (m : ℕ) (xs : List PlainStmt) (s : PlainStmt) (loops : ℕ) →
    is_body_within m (body_of xs) loops ≡ true → is_stmt_within m s loops ≡ true →
    is_body_within m (body_of (xs ++ s ∷ [])) loops ≡ true
body_within-push m [] s loops h k = and_from (is_stmt_within m s loops) true k refl
body_within-push m (x ∷ xs) s loops h k =
    let parts = and_parts (is_stmt_within m x loops) (is_body_within m (body_of xs) loops) h in
    and_from (is_stmt_within m x loops) (is_body_within m (body_of (xs ++ s ∷ [])) loops) parts.0 (body_within-push m xs s loops parts.1 k)

pub all-push : {A : Type 0} (test : A → Bool) (xs : List A) (x : A) → list_all test xs ≡ true → test x ≡ true →
    list_all test (xs ++ x ∷ []) ≡ true
all-push test xs x h k =
    list_all-append test xs (x ∷ []) ∙ and_from (list_all test xs) (test x && true) h (and_from (test x) true k refl)

-- the open loops, closed with what they have
abbrev pub closed_body : List PlainLevel → List PlainStmt → PlainBody
closed_body [] body = body_of body
closed_body (level ∷ levels) body = closed_body levels (level.before ++ Loop level.count (body_of body) ∷ [])

-- the loops that are open stay in their limits
abbrev pub are_levels_within : ℕ → List PlainLevel → Bool
are_levels_within m [] = true
are_levels_within m (level ∷ levels) = is_small_positive level.count && (ltb (length levels) 64 && (is_body_within m (body_of level.before) (length levels) && are_levels_within m levels))

-- what the innermost of the open loops says
record LevelWithin (m : ℕ) (level : PlainLevel) (levels : List PlainLevel) : Type 0 where
  count : is_small_positive level.count ≡ true
  deep : ltb (length levels) 64 ≡ true
  before : is_body_within m (body_of level.before) (length levels) ≡ true
  others : are_levels_within m levels ≡ true

level_parts : (m : ℕ) (level : PlainLevel) (levels : List PlainLevel) → are_levels_within m (level ∷ levels) ≡ true →
    LevelWithin m level levels
level_parts m level levels h =
    let n = length levels in
    let before = is_body_within m (body_of level.before) n in
    let p1 = and_parts (is_small_positive level.count) (ltb n 64 && (before && are_levels_within m levels)) h in
    let p2 = and_parts (ltb n 64) (before && are_levels_within m levels) p1.1 in
    let p3 = and_parts before (are_levels_within m levels) p2.1 in
    record { count = p1.0; deep = p2.0; before = p3.0; others = p3.1 }

loop_within : (m : ℕ) (level : PlainLevel) (levels : List PlainLevel) (body : List PlainStmt) →
    are_levels_within m (level ∷ levels) ≡ true → is_body_within m (body_of body) (length (level ∷ levels)) ≡ true
    → is_body_within m (body_of (level.before ++ Loop level.count (body_of body) ∷ [])) (length levels) ≡ true
loop_within m level levels body h k =
    let n = length levels in
    let parts = level_parts m level levels h in
    let deeper : suc n ≡ n + 1 = omega arith in
    body_within-push m level.before (Loop level.count (body_of body)) n parts.before
    (and_from (is_small_positive level.count) (ltb n 64 && is_body_within m (body_of body) (n + 1)) parts.count
    (and_from (ltb n 64) (is_body_within m (body_of body) (n + 1)) parts.deep
    (subst (λ d. is_body_within m (body_of body) d ≡ true) deeper k)))

closed_within : (m : ℕ) (levels : List PlainLevel) (body : List PlainStmt) → are_levels_within m levels ≡ true →
    is_body_within m (body_of body) (length levels) ≡ true → is_body_within m (closed_body levels body) 0 ≡ true
closed_within m [] body h k = k
closed_within m (level ∷ levels) body h k = closed_within m levels (level.before ++ Loop level.count (body_of body) ∷ []) (level_parts m level levels h).others (loop_within m level levels body h k)

-- ---- a step that is taken

pub guard_some : {A : Type 0} (b : Bool) (x t : A) → cond b (Some x) None ≡ Some t → (b ≡ true) × (x ≡ t)
guard_some true x t e = (refl, (let same : x ≡ t = cc in same))
guard_some false x t e = absurd cc

pub empty_is : {A : Type 0} (xs : List A) → is_empty xs ≡ true → xs ≡ []
empty_is [] h = refl
empty_is (x ∷ xs) h = absurd cc

-- a loop more is open: its depth, the draft, and the limits that were tested
pub opened_is : (d : PlainDraft) (depth count : ℕ) (t : PlainDraft) → act_step d (Open depth count) ≡ Some t →
    (length d.open_loops ≡ depth) × (opened d count ≡ t) × (ltb (length d.open_loops) 64 ≡ true)
    × (is_small_positive count ≡ true)
opened_is d depth count t e =
    let n = length d.open_loops in
    let guard = guard_some (may_open n depth count) (opened d count) t e in
    let test = and_parts (eqb depth n) (ltb n 64 && is_small_positive count) guard.0 in
    let limits = and_parts (ltb n 64) (is_small_positive count) test.1 in
    (sym (eqb-true depth n test.0), guard.1, limits.0, limits.1)

abbrev pub with_table : PlainDraft → List ℕ → PlainDraft
with_table d entries = record { header = d.header; tables = d.tables ++ entries ∷ []; phases = d.phases; is_inside = false; open_loops = []; body = [] }

pub record TableTaken (d : PlainDraft) (table : ℕ × List ℕ) (t : PlainDraft) : Type 0 where
  pub number : table.0 ≡ length d.tables
  pub no_phase : d.phases ≡ []
  pub below : list_all (λ c. ltb c d.header.modulus) table.1 ≡ true
  pub is : with_table d table.1 ≡ t

pub table_taken : (d : PlainDraft) (table : ℕ × List ℕ) (t : PlainDraft) → table_step d table ≡ Some t →
    TableTaken d table t
table_taken d table t e =
    let m = d.header.modulus in
    let guard = guard_some (eqb table.0 (length d.tables) && (is_empty d.phases && list_all (λ c. ltb c m) table.1)) (with_table d table.1) t e in
    let test = and_parts (eqb table.0 (length d.tables)) (is_empty d.phases && list_all (λ c. ltb c m) table.1) guard.0 in
    let others = and_parts (is_empty d.phases) (list_all (λ c. ltb c m) table.1) test.1 in
    record { number = eqb-true table.0 (length d.tables) test.0; no_phase = empty_is d.phases others.0; below = others.1; is = guard.1 }

-- ---- good drafts

pub record GoodDraft (d : PlainDraft) : Type 0 where
  pub header : is_header_within d.header ≡ true
  pub tables : are_tables_within d.header.modulus d.tables ≡ true
  pub phases : list_all (λ b. is_body_within d.header.modulus b 0) d.phases ≡ true
  pub levels : are_levels_within d.header.modulus d.open_loops ≡ true
  pub body : is_body_within d.header.modulus (body_of d.body) (length d.open_loops) ≡ true
  pub few : length d.tables ≤ 2 ^ 64

good_open : (d : PlainDraft) (depth count : ℕ) (t : PlainDraft) → GoodDraft d → act_step d (Open depth count) ≡ Some t →
    GoodDraft t
good_open d depth count t g e =
    let n = length d.open_loops in
    let m = d.header.modulus in
    let is = opened_is d depth count t e in
    subst GoodDraft is.1 record {
      header = g.header;
      tables = g.tables;
      phases = g.phases;
      levels = and_from (is_small_positive count) (ltb n 64 && (is_body_within m (body_of d.body) n && are_levels_within m d.open_loops)) is.3
          (and_from (ltb n 64) (is_body_within m (body_of d.body) n && are_levels_within m d.open_loops) is.2 (and_from (is_body_within m (body_of d.body) n) (are_levels_within m d.open_loops) g.body g.levels));
      body = refl;
      few = g.few;
    }

good_closed : (d : PlainDraft) (levels : List PlainLevel) → d.open_loops ≡ levels → GoodDraft d →
    GoodDraft (closed d levels)
good_closed d [] e g = record {
  header = g.header;
  tables = g.tables;
  phases = all-push (λ b. is_body_within d.header.modulus b 0) d.phases (body_of d.body) g.phases (ap (λ ls. is_body_within d.header.modulus (body_of d.body) (length ls)) (sym e) ∙ g.body);
  levels = refl;
  body = refl;
  few = g.few;
}
good_closed d (level ∷ levels) e g =
    let m = d.header.modulus in
    let within : are_levels_within m (level ∷ levels) ≡ true = ap (λ ls. are_levels_within m ls) (sym e) ∙ g.levels in
    let body : is_body_within m (body_of d.body) (length (level ∷ levels)) ≡ true = ap (λ ls. is_body_within m (body_of d.body) (length ls)) (sym e) ∙ g.body in
    record { header = g.header; tables = g.tables; phases = g.phases; levels = (level_parts m level levels within).others; body = loop_within m level levels d.body within body; few = g.few }

pub good_act : (d : PlainDraft) (act : PlainAct) (t : PlainDraft) → GoodDraft d → act_step d act ≡ Some t → GoodDraft t
good_act d (Open depth count) t g e = good_open d depth count t g e
good_act d Close t g e = let same : closed d d.open_loops ≡ t = cc in subst GoodDraft same (good_closed d d.open_loops refl g)
good_act d (Do op) t g e =
    let n = length d.open_loops in
    let guard = guard_some (is_op_within d.header.modulus op n) (with_body d (d.body ++ plain.Do op ∷ [])) t e in
    subst GoodDraft guard.1 record { header = g.header; tables = g.tables; phases = g.phases; levels = g.levels; body = body_within-push d.header.modulus d.body (plain.Do op) n g.body guard.0; few = g.few }

-- what a line of a phase leaves as it was
closed_frame : (d : PlainDraft) (levels : List PlainLevel) →
    ((closed d levels).header ≡ d.header) × ((closed d levels).tables ≡ d.tables)
closed_frame d [] = (refl, refl)
closed_frame d (level ∷ levels) = (refl, refl)

pub act_frame : (d : PlainDraft) (act : PlainAct) (t : PlainDraft) → act_step d act ≡ Some t →
    (t.header ≡ d.header) × (t.tables ≡ d.tables)
act_frame d (Open depth count) t e = subst (λ x. (x.header ≡ d.header) × (x.tables ≡ d.tables)) (opened_is d depth count t e).1 (refl, refl)
act_frame d Close t e = let same : closed d d.open_loops ≡ t = cc in subst (λ x. (x.header ≡ d.header) × (x.tables ≡ d.tables)) same (closed_frame d d.open_loops)
act_frame d (Do op) t e =
    subst (λ x. (x.header ≡ d.header) × (x.tables ≡ d.tables)) (guard_some (is_op_within d.header.modulus op (length d.open_loops)) (with_body d (d.body ++ plain.Do op ∷ [])) t e).1 (refl, refl)

pub good_table : (d : PlainDraft) (table : ℕ × List ℕ) (t : PlainDraft) → GoodDraft d → table.0 < above_all →
    0 < length table.1 → TableTaken d table t → GoodDraft t
good_table d table t g fits some taken =
    let m = d.header.modulus in
    subst GoodDraft taken.is record {
      header = g.header;
      tables = all-push (λ entries. ltb 0 (length entries) && list_all (λ c. ltb c m) entries) d.tables table.1 g.tables (and_from (ltb 0 (length table.1)) (list_all (λ c. ltb c m) table.1) (lt-ltb 0 (length table.1) some) taken.below);
      phases = g.phases;
      levels = refl;
      body = refl;
      few = omega (arith, fits, taken.number, length-append d.tables (table.1 ∷ []));
    }

pub good_entered : (d : PlainDraft) → GoodDraft d → GoodDraft (entered d)
good_entered d g = record { header = g.header; tables = g.tables; phases = g.phases; levels = refl; body = refl; few = g.few }

pub good_blank : (h : Header) → is_header_within h ≡ true → GoodDraft (blank h)
good_blank h w = record { header = w; tables = refl; phases = refl; levels = refl; body = refl; few = omega arith }

pub blank_is : (h : Header) (t : PlainDraft) → header_step h ≡ Some t → (is_header_within h ≡ true) × (blank h ≡ t)
blank_is h t e = guard_some (is_header_within h) (blank h) t e

-- ---- the program of a draft

between : (low high n : ℕ) → is_between low high n ≡ true → (low ≤ n) × (n ≤ high)
between low high n h = let both = and_parts (leb low n) (leb n high) h in (leb-true low n both.0, leb-true n high both.1)

pub header_limits : (h : Header) → is_header_within h ≡ true →
    IsHeaderWithin h.size h.modulus h.procs h.line h.lanes h.regs
header_limits h w =
    let a = and_parts (is_between 1 1048576 h.size) (is_between 2 (2 ^ 62 - 1) h.modulus && (is_between 1 16 h.procs && (is_between 1 64 h.line && (is_between 1 16 h.lanes && ltb h.regs (2 ^ 20))))) w in
    let b = and_parts (is_between 2 (2 ^ 62 - 1) h.modulus) (is_between 1 16 h.procs && (is_between 1 64 h.line && (is_between 1 16 h.lanes && ltb h.regs (2 ^ 20)))) a.1 in
    let c = and_parts (is_between 1 16 h.procs) (is_between 1 64 h.line && (is_between 1 16 h.lanes && ltb h.regs (2 ^ 20))) b.1 in
    let d = and_parts (is_between 1 64 h.line) (is_between 1 16 h.lanes && ltb h.regs (2 ^ 20)) c.1 in
    let e = and_parts (is_between 1 16 h.lanes) (ltb h.regs (2 ^ 20)) d.1 in
    let modulus = between 2 (2 ^ 62 - 1) h.modulus b.0 in
    record {
      of_size = between 1 1048576 h.size a.0;
      of_modulus = (modulus.0, omega (arith, modulus.1));
      of_procs = between 1 16 h.procs c.0;
      of_line = between 1 64 h.line d.0;
      of_lanes = between 1 16 h.lanes e.0;
      of_regs = ltb-true h.regs (2 ^ 20) e.1;
    }

between_from : (low high n : ℕ) → (low ≤ n) × (n ≤ high) → is_between low high n ≡ true
between_from low high n h = and_from (leb low n) (leb n high) (le-leb low n h.0) (le-leb n high h.1)

pub within_from : (h : Header) → IsHeaderWithin h.size h.modulus h.procs h.line h.lanes h.regs →
    is_header_within h ≡ true
within_from h w =
    and_from (is_between 1 1048576 h.size) (is_between 2 (2 ^ 62 - 1) h.modulus && (is_between 1 16 h.procs && (is_between 1 64 h.line && (is_between 1 16 h.lanes && ltb h.regs (2 ^ 20))))) (between_from 1 1048576 h.size w.of_size)
    (and_from (is_between 2 (2 ^ 62 - 1) h.modulus) (is_between 1 16 h.procs && (is_between 1 64 h.line && (is_between 1 16 h.lanes && ltb h.regs (2 ^ 20)))) (between_from 2 (2 ^ 62 - 1) h.modulus (w.of_modulus.0, omega (arith, w.of_modulus.1)))
    (and_from (is_between 1 16 h.procs) (is_between 1 64 h.line && (is_between 1 16 h.lanes && ltb h.regs (2 ^ 20))) (between_from 1 16 h.procs w.of_procs)
    (and_from (is_between 1 64 h.line) (is_between 1 16 h.lanes && ltb h.regs (2 ^ 20)) (between_from 1 64 h.line w.of_line)
    (and_from (is_between 1 16 h.lanes) (ltb h.regs (2 ^ 20)) (between_from 1 16 h.lanes w.of_lanes) (lt-ltb h.regs (2 ^ 20) w.of_regs)))))

pub with_phase : (d : PlainDraft) (body : PlainBody) → GoodDraft d → is_body_within d.header.modulus body 0 ≡ true →
    IsWithinLimits (program_of d.header d.tables (d.phases ++ body ∷ []))
with_phase d body g w = record {
  header = header_limits d.header g.header;
  constants = g.tables;
  statements = and_from (ltb 0 (length (d.phases ++ body ∷ []))) (list_all (λ b. is_body_within d.header.modulus b 0) (d.phases ++ body ∷ []))
      (lt-ltb 0 (length (d.phases ++ body ∷ [])) (omega (arith, length-append d.phases (body ∷ []))))
      (all-push (λ b. is_body_within d.header.modulus b 0) d.phases body g.phases w);
}

-- with all that is open brought to its end
pub with_ends : (d : PlainDraft) → GoodDraft d → IsWithinLimits
    (program_of d.header d.tables (d.phases ++ closed_body d.open_loops d.body ∷ []))
with_ends d g = with_phase d (closed_body d.open_loops d.body) g (closed_within d.header.modulus d.open_loops d.body g.levels g.body)

some_phase : (phases : List PlainBody) → is_empty phases ≡ false → 0 < length phases
some_phase [] h = absurd cc
some_phase (b ∷ phases) h = omega arith

pub good_program : (d : PlainDraft) → GoodDraft d → is_empty d.phases ≡ false →
    IsWithinLimits (program_of d.header d.tables d.phases)
good_program d g some = record {
  header = header_limits d.header g.header;
  constants = g.tables;
  statements = and_from (ltb 0 (length d.phases)) (list_all (λ b. is_body_within d.header.modulus b 0) d.phases) (lt-ltb 0 (length d.phases) (some_phase d.phases some)) g.phases;
}
