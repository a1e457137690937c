-- Programs on words do what programs do.
use Rattle.std.proofs.Common.{◌≡◌, ℕ, suc, ◌<◌, ◌≤◌, List, [], ◌∷◌, ◌++◌, All, length, map, flat_map}
use Rattle.std.proofs.Common.{sym, ap, ap₂, ◌∙◌, subst, arith}
use Rattle.std.specs.Prelude.{slice_index_or}
use Rattle.std.specs.List.{range_with_len}
use Rattle.std.proofs.Math.ListN.{get_or-map}
use Rattle.std.proofs.lemmas.List.{length-replicate}
use Rattle.std.proofs.lemmas.List.Elements.{All-nil, All-cons, All-head, All-append}
use Rattle.icode.specs.Actions.{Step, StepFits, PlainFits, step_of, steps_of_stmt, steps_of_body, actions_of}
use Rattle.icode.specs.Actions.{plain_code}
use Rattle.icode.specs.Machine.{results}
use Rattle.icode.specs.Plain.{PlainStmt, PlainBody, PlainProgram}
use Rattle.icode.specs.Plain as plain
use Rattle.nests.proofs.Listed.{all-left, all-right}
use Rattle.word_code.specs.WordMachine.{WordAction, under, actions_under, word_results}
use Rattle.word_code.specs.WordProgram.{NoStmts, PlainWordProgram, word_action_of, word_actions_of_stmt}
use Rattle.word_code.specs.WordProgram.{word_actions_of_body}
use Rattle.word_code.specs.WordProgram.{word_code}
use Rattle.word_code.specs.Quicken.{PlainLaziness, bound_at, loosest, header_of, noted, quick_stmt, quick_body, quick_phase}
use Rattle.word_code.specs.Quicken.{quickened}
use Rattle.word_code.specs.Laws.{IsLazyWithin}
use Rattle.word_code.specs.Bare.{NumbersFit, bare, with_bodies}
use Rattle.word_code.proofs.Bare.{phases_stay, stmt_stays, stmt_acts, code_under_is}
use Rattle.word_code.proofs.Residues.{AllBelow}
use Rattle.word_code.proofs.Quick.{Scale, AreQuick, from_weaker, quick-append}
use Rattle.word_code.proofs.Simulation.{IsQuickCode, scale_of, results_are}
use Rattle.word_code.proofs.Puts.{IsSound}
use Rattle.word_code.proofs.Reduce.{loosest_is}
use Rattle.word_code.proofs.Operations.{scale, sound_of, do_is_quick}
use Rattle.word_code.proofs.Rows.{none_past, lists_have}

-- the program on words with the same bounds of A and of B throughout
abbrev pub evenly : PlainLaziness → PlainProgram → PlainWordProgram
evenly z p = record (quickened z p) { phases = map (quick_phase z (header_of p)) p.phases }

pub below_of_all : (m : ℕ) (xs : List ℕ) → All (λ v. v < m) xs → AllBelow m xs
below_of_all m [] all = tt
below_of_all m (x ∷ xs) all = (all 0 x (omega arith), below_of_all m xs (λ k d lt. all (suc k) d (omega arith)))

ends_weaker : (s : Scale) (b c d : ℕ → ℕ) (fs : List WordAction) → ((r : ℕ) → c r ≤ d r) → AreQuick s b fs c →
    AreQuick s b fs d
ends_weaker s b c d [] le are = λ r. let x = are r in let y = le r in omega (arith, x, y)
ends_weaker s b c d (f ∷ fs) le are = (are.0, are.1, ends_weaker s are.0 c d fs le are.2)

-- The actions under those on words

bare_evenly : (z : PlainLaziness) (p : PlainProgram) → bare (evenly z p) ≡ p
bare_evenly z p = ap (with_bodies p) (phases_stay z (header_of p) p.phases)

pub stmt_under : (z : PlainLaziness) (p : PlainProgram) (stmt : PlainStmt) (bounds vs : List ℕ) (q : ℕ) →
    actions_under (word_actions_of_stmt (evenly z p) (quick_stmt z (header_of p) stmt bounds).stmt vs q)
    ≡ actions_of (steps_of_stmt p stmt vs q)
stmt_under z p stmt bounds vs q =
    stmt_acts (evenly z p) (quick_stmt z (header_of p) stmt bounds).stmt vs q
    ∙ ap₂ (λ p stmt. actions_of (steps_of_stmt p stmt vs q)) (bare_evenly z p) (stmt_stays z (header_of p) stmt bounds)

code_under : (z : PlainLaziness) (p : PlainProgram) → under (word_code (evenly z p)) ≡ plain_code p
code_under z p = code_under_is (evenly z p) ∙ ap plain_code (bare_evenly z p)

-- Statements go by their bounds

module _ (z : PlainLaziness) (p : PlainProgram) (sound : IsSound (scale z p)) where
  abbrev s : Scale
  s = scale z p

  abbrev loose : List ℕ
  loose = loosest z (header_of p)

  abbrev w : PlainWordProgram
  w = evenly z p

  pub loose_sane : (r : ℕ) → bound_at z.limit loose r ≤ z.limit
  loose_sane r = let e = loosest_is z.limit p.regs r in omega arith

  pub loose_long : length loose ≡ p.regs
  loose_long = length-replicate p.regs z.limit

  loose_weak : (bounds : List ℕ) → ((r : ℕ) → bound_at z.limit bounds r ≤ z.limit) → (r : ℕ) →
      bound_at z.limit bounds r ≤ bound_at z.limit loose r
  loose_weak bounds sane r = let e = loosest_is z.limit p.regs r in let a = sane r in omega (arith, e, a)

  -- a list of actions goes from the bounds to the bounds after it, and the numbers beside them are words
  pub record Leads (bounds : List ℕ) (fs : List WordAction) (after : List ℕ) : Type 0 where
    pub goes : AreQuick s (bound_at z.limit bounds) fs (bound_at z.limit after)
    pub sane : (r : ℕ) → bound_at z.limit after r ≤ z.limit
    pub long : length after ≡ p.regs
    pub numbers : All (NumbersFit z.width p.regs) fs

  no_leads : (bounds : List ℕ) → ((r : ℕ) → bound_at z.limit bounds r ≤ z.limit) → length bounds ≡ p.regs →
      Leads bounds [] bounds
  no_leads bounds sane long =
      record { goes = λ r. omega arith; sane = sane; long = long; numbers = All-nil (NumbersFit z.width p.regs) }

  both_lead : (bounds middle after : List ℕ) (fs gs : List WordAction) → Leads bounds fs middle →
      Leads middle gs after →
      Leads bounds (fs ++ gs) after
  both_lead bounds middle after fs gs one other =
      record {
        goes = quick-append s (bound_at z.limit bounds) (bound_at z.limit middle) (bound_at z.limit after) fs gs
            one.goes other.goes;
        sane = other.sane;
        long = other.long;
        numbers = All-append (NumbersFit z.width p.regs) fs gs one.numbers other.numbers;
      }

  -- nothing more is known after it
  forgotten : (bounds after : List ℕ) (fs : List WordAction) → Leads bounds fs after → Leads bounds fs loose
  forgotten bounds after fs lead =
      record {
        goes = ends_weaker s (bound_at z.limit bounds) (bound_at z.limit after) (bound_at z.limit loose) fs
            (loose_weak after lead.sane) lead.goes;
        sane = loose_sane;
        long = loose_long;
        numbers = lead.numbers;
      }

  -- the turns of a loop
  loop_leads : (f : ℕ → List WordAction) (g : ℕ → List Step) (after : List ℕ) →
      ((i : ℕ) → All (StepFits p) (g i) → Leads loose (f i) after) → (is : List ℕ) →
      All (StepFits p) (flat_map g is) → Leads loose (flat_map f is) loose
  loop_leads f g after each [] fit = no_leads loose loose_sane loose_long
  loop_leads f g after each (i ∷ is) fit =
      both_lead loose loose loose (f i) (flat_map f is)
      (forgotten loose after (f i) (each i (all-left (StepFits p) (g i) (flat_map g is) fit)))
      (loop_leads f g after each is (all-right (StepFits p) (g i) (flat_map g is) fit))

  mutual
    pub stmt_leads : (stmt : PlainStmt) (bounds vs : List ℕ) (q : ℕ) → length bounds ≡ p.regs →
        ((r : ℕ) → bound_at z.limit bounds r ≤ z.limit) → All (StepFits p) (steps_of_stmt p stmt vs q) →
        Leads bounds (word_actions_of_stmt w (quick_stmt z (header_of p) stmt bounds).stmt vs q)
        (quick_stmt z (header_of p) stmt bounds).bounds
    stmt_leads (plain.Loop count body) bounds vs q long sane fit =
        let quick = quick_body z (header_of p) body loose in
        let fs : ℕ → List WordAction = λ i. word_actions_of_body w quick.body (vs ++ i ∷ []) q in
        let turns =
        loop_leads fs (λ i. steps_of_body p body (vs ++ i ∷ []) q) quick.bounds
        (λ i each. body_leads body loose (vs ++ i ∷ []) q loose_long loose_sane each) (range_with_len 0 count) fit in
        record {
          goes = from_weaker s (bound_at z.limit bounds) (bound_at z.limit loose) (flat_map fs (range_with_len 0 count))
              (bound_at z.limit loose) (loose_weak bounds sane) turns.goes;
          sane = loose_sane;
          long = loose_long;
          numbers = turns.numbers;
        }
    stmt_leads (plain.Do op) bounds vs q long sane fit =
        let act = word_action_of w (noted z p.modulus p.lanes op bounds).note op vs q in
        let after = (noted z p.modulus p.lanes op bounds).bounds in
        let done = do_is_quick z p sound op bounds vs q long sane (All-head (StepFits p) (step_of p op vs q) [] fit) in
        record {
          goes = (bound_at z.limit after, done.quick, λ r. omega arith);
          sane = done.quick.sane;
          long = done.long;
          numbers = All-cons (NumbersFit z.width p.regs) act [] done.numbers (All-nil (NumbersFit z.width p.regs));
        }

    pub body_leads : (body : PlainBody) (bounds vs : List ℕ) (q : ℕ) → length bounds ≡ p.regs →
        ((r : ℕ) → bound_at z.limit bounds r ≤ z.limit) → All (StepFits p) (steps_of_body p body vs q) →
        Leads bounds (word_actions_of_body w (quick_body z (header_of p) body bounds).body vs q)
        (quick_body z (header_of p) body bounds).bounds
    body_leads plain.NoStmts bounds vs q long sane fit = no_leads bounds sane long
    body_leads (plain.AndStmts stmt rest) bounds vs q long sane fit =
        let steps = steps_of_stmt p stmt vs q in
        let others = steps_of_body p rest vs q in
        let first = quick_stmt z (header_of p) stmt bounds in
        let behind = quick_body z (header_of p) rest first.bounds in
        let one = stmt_leads stmt bounds vs q long sane (all-left (StepFits p) steps others fit) in
        both_lead bounds first.bounds behind.bounds (word_actions_of_stmt w first.stmt vs q)
        (word_actions_of_body w behind.body vs q) one
        (body_leads rest first.bounds vs q one.long one.sane (all-right (StepFits p) steps others fit))

  -- The code of the program

  abbrev top : ℕ → ℕ
  top = λ r. z.limit

  pub phase_leads : PlainFits p → (phase q : ℕ) → q < p.procs →
      Leads loose (word_actions_of_body w (slice_index_or w.phases phase NoStmts) [] q) loose
  phase_leads fits phase q lt =
      let body = slice_index_or p.phases phase plain.NoStmts in
      let quick = quick_body z (header_of p) body loose in
      let fs = word_actions_of_body w quick.body [] q in
      subst (λ b. Leads loose (word_actions_of_body w b [] q) loose)
      (sym (get_or-map (quick_phase z (header_of p)) p.phases phase plain.NoStmts))
      (forgotten loose quick.bounds fs (body_leads body loose [] q loose_long loose_sane (fits.each phase q lt)))

  quick_code : PlainFits p → IsQuickCode (scale_of (word_code w) z.kept z.limit) (word_code w)
  quick_code fits =
      let from : (r : ℕ) → z.limit ≤ bound_at z.limit loose r =
      λ r. let e = loosest_is z.limit p.regs r in omega arith in
      record {
        each = lists_have w (λ fs. AreQuick s top fs top) (λ r. omega arith)
            (λ phase q lt.
            let fs = word_actions_of_body w (slice_index_or w.phases phase NoStmts) [] q in
            from_weaker s top (bound_at z.limit loose) fs top from
            (ends_weaker s (bound_at z.limit loose) (bound_at z.limit loose) top fs loose_sane
            (phase_leads fits phase q lt).goes));
        past = none_past w;
      }

-- what it leaves is what the program leaves, whatever the order of turns
pub evenly_is_same : (z : PlainLaziness) (p : PlainProgram) → PlainFits p → IsLazyWithin z p.modulus → 0 < p.modulus →
    1 ≤ p.line → (x turns : List ℕ) → All (λ v. v < p.modulus) x →
    word_results (word_code (evenly z p)) x turns ≡ results (plain_code p) x turns
evenly_is_same z p fits lazy pos line x turns low =
    let some : 1 ≤ z.limit = let a = lazy.of_a.0 in let b = lazy.of_a.1 in omega (arith, a, b) in
    results_are (word_code (evenly z p)) z.kept z.limit (quick_code z p (sound_of z p lazy pos) fits) x turns pos line
    lazy.of_a.0 lazy.of_b.0 some (below_of_all p.modulus x low)
    ∙ ap (λ c. results c x turns) (code_under z p)
