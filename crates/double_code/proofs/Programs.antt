-- Programs on doubles do what programs do.
use Rattle.std.proofs.Common.{◌≡◌, ℕ, suc, ◌<◌, ◌≤◌, List, [], ◌∷◌, ◌++◌, All, length, map}
use Rattle.std.proofs.Common.{flat_map, replicate, refl, sym, ap, ◌∙◌, subst, arith, pos}
use Rattle.std.specs.Prelude.{slice_index_or}
use Rattle.std.specs.List.{range_with_len}
use Rattle.std.proofs.Math.ListN.{get_or-map}
use Rattle.std.proofs.lemmas.List.{length-replicate}
use Rattle.std.proofs.lemmas.List.Elements.{All-head}
use Rattle.icode.specs.Actions.{Step, StepFits, PlainFits, step_of, steps_of_stmt, steps_of_body}
use Rattle.icode.specs.Machine.{results, words_at, padded}
use Rattle.icode.specs.Actions.{plain_code}
use Rattle.icode.proofs.Lists.{code_is}
use Rattle.icode.proofs.Runs.{memory_of_runs}
use Rattle.icode.specs.Plain.{PlainStmt, PlainBody, PlainProgram}
use Rattle.icode.specs.Plain as plain
use Rattle.nests.proofs.Listed.{all-left, all-right}
use Rattle.double_code.specs.DoubleMachine.{DoubleAction}
use Rattle.double_code.specs.DoubleProgram.{NoStmts, PlainDoubleProgram, double_actions_of_stmt}
use Rattle.double_code.specs.DoubleProgram.{double_actions_of_body, double_code}
use Rattle.double_code.specs.Doubled.{bound_at, loosest, header_of, noted, doubled_stmt, doubled_body}
use Rattle.double_code.specs.Doubled.{doubled_phase, doubled}
use Rattle.double_code.specs.Laws.{DoubledIsSame, DoubledOrderIsFree}
use Rattle.double_code.specs.Reductions.{limit_of}
use Rattle.double_code.proofs.Exact.{Scale, IsSound, AreExact, from_weaker, exact-append}
use Rattle.double_code.proofs.Operations.{scale, do_is_exact}
use Rattle.double_code.proofs.Simulation.{AllLow, IsExactCode, scale_of, results_are}
use Rattle.double_code.proofs.Statements.{code_under, none_past, lists_have}

low_of_all : (m : ℕ) (xs : List ℕ) → All (λ v. v < m) xs → AllLow m xs
low_of_all m [] all = tt
low_of_all m (x ∷ xs) all = (all 0 x (omega arith), low_of_all m xs (λ k d lt. all (suc k) d (omega arith)))

ends_weaker : (s : Scale) (b c d : ℕ → ℕ) (fs : List DoubleAction) → ((r : ℕ) → c r ≤ d r) → AreExact s b fs c →
    AreExact s b fs d
ends_weaker s b c d [] le are = λ r. let x = are r in let y = le r in omega (arith, x, y)
ends_weaker s b c d (f ∷ fs) le are = (are.0, are.1, ends_weaker s are.0 c d fs le are.2)

pub loosest_is : (m regs r : ℕ) → bound_at m (replicate regs (limit_of m)) r ≡ limit_of m
loosest_is m (suc regs) (suc r) = loosest_is m regs r
loosest_is m _ _ = refl

-- ---- statements go by their bounds

module _ (p : PlainProgram) (sound : IsSound (scale p)) where
  abbrev s : Scale
  s = scale p

  abbrev m : ℕ
  m = p.modulus

  abbrev loose : List ℕ
  loose = loosest (header_of p)

  abbrev w : PlainDoubleProgram
  w = doubled p

  abbrev AreSane : List ℕ → Type 0
  AreSane bounds = (r : ℕ) → bound_at m bounds r ≤ limit_of m

  loose_sane : AreSane loose
  loose_sane r = let e = loosest_is m p.regs r in omega (arith, e)

  loose_long : length loose ≡ p.regs
  loose_long = length-replicate p.regs (limit_of m)

  loose_weak : (bounds : List ℕ) → AreSane bounds → (r : ℕ) → bound_at m bounds r ≤ bound_at m loose r
  loose_weak bounds sane r = let e = loosest_is m p.regs r in let a = sane r in omega (arith, e, a)

  -- a list of actions goes from the bounds to the bounds after it
  record Leads (bounds : List ℕ) (fs : List DoubleAction) (after : List ℕ) : Type 0 where
    goes : AreExact s (bound_at m bounds) fs (bound_at m after)
    sane : AreSane after
    long : length after ≡ p.regs

  no_leads : (bounds : List ℕ) → AreSane bounds → length bounds ≡ p.regs → Leads bounds [] bounds
  no_leads bounds sane long = record { goes = λ r. omega arith; sane = sane; long = long }

  both_lead : (bounds middle after : List ℕ) (fs gs : List DoubleAction) → Leads bounds fs middle →
      Leads middle gs after → Leads bounds (fs ++ gs) after
  both_lead bounds middle after fs gs one other =
      record {
        goes = exact-append s (bound_at m bounds) (bound_at m middle) (bound_at m after) fs gs one.goes other.goes;
        sane = other.sane;
        long = other.long;
      }

  -- nothing more is known after it
  forgotten : (bounds after : List ℕ) (fs : List DoubleAction) → Leads bounds fs after → Leads bounds fs loose
  forgotten bounds after fs lead =
      record {
        goes = ends_weaker s (bound_at m bounds) (bound_at m after) (bound_at m loose) fs (loose_weak after lead.sane)
            lead.goes;
        sane = loose_sane;
        long = loose_long;
      }

  -- the turns of a loop
  loop_leads : (f : ℕ → List DoubleAction) (g : ℕ → List Step) (after : List ℕ) →
      ((i : ℕ) → All (StepFits p) (g i) → Leads loose (f i) after) → (is : List ℕ) →
      All (StepFits p) (flat_map g is) → Leads loose (flat_map f is) loose
  loop_leads f g after each [] fit = no_leads loose loose_sane loose_long
  loop_leads f g after each (i ∷ is) fit =
      both_lead loose loose loose (f i) (flat_map f is)
      (forgotten loose after (f i) (each i (all-left (StepFits p) (g i) (flat_map g is) fit)))
      (loop_leads f g after each is (all-right (StepFits p) (g i) (flat_map g is) fit))

  mutual
    stmt_leads : (stmt : PlainStmt) (bounds vs : List ℕ) (q : ℕ) → length bounds ≡ p.regs → AreSane bounds →
        All (StepFits p) (steps_of_stmt p stmt vs q) →
        Leads bounds (double_actions_of_stmt w (doubled_stmt (header_of p) stmt bounds).stmt vs q)
        (doubled_stmt (header_of p) stmt bounds).bounds
    stmt_leads (plain.Loop count body) bounds vs q long sane fit =
        let made = doubled_body (header_of p) body loose in
        let fs : ℕ → List DoubleAction = λ i. double_actions_of_body w made.body (vs ++ i ∷ []) q in
        let turns =
        loop_leads fs (λ i. steps_of_body p body (vs ++ i ∷ []) q) made.bounds
        (λ i each. body_leads body loose (vs ++ i ∷ []) q loose_long loose_sane each) (range_with_len 0 count) fit in
        record {
          goes = from_weaker s (bound_at m bounds) (bound_at m loose) (flat_map fs (range_with_len 0 count))
              (bound_at m loose) (loose_weak bounds sane) turns.goes;
          sane = loose_sane;
          long = loose_long;
        }
    stmt_leads (plain.Do op) bounds vs q long sane fit =
        let after = (noted p.modulus p.lanes op bounds).bounds in
        let done = do_is_exact p sound op bounds vs q long sane (All-head (StepFits p) (step_of p op vs q) [] fit) in
        record {
          goes = (bound_at m after, done.exact, λ r. omega arith);
          sane = done.exact.sane;
          long = done.long;
        }

    body_leads : (body : PlainBody) (bounds vs : List ℕ) (q : ℕ) → length bounds ≡ p.regs → AreSane bounds →
        All (StepFits p) (steps_of_body p body vs q) →
        Leads bounds (double_actions_of_body w (doubled_body (header_of p) body bounds).body vs q)
        (doubled_body (header_of p) body bounds).bounds
    body_leads plain.NoStmts bounds vs q long sane fit = no_leads bounds sane long
    body_leads (plain.AndStmts stmt rest) bounds vs q long sane fit =
        let steps = steps_of_stmt p stmt vs q in
        let others = steps_of_body p rest vs q in
        let first = doubled_stmt (header_of p) stmt bounds in
        let behind = doubled_body (header_of p) rest first.bounds in
        let one = stmt_leads stmt bounds vs q long sane (all-left (StepFits p) steps others fit) in
        both_lead bounds first.bounds behind.bounds (double_actions_of_stmt w first.stmt vs q)
        (double_actions_of_body w behind.body vs q) one
        (body_leads rest first.bounds vs q one.long one.sane (all-right (StepFits p) steps others fit))

  -- ---- the code of the program

  abbrev top : ℕ → ℕ
  top = λ r. limit_of m

  phase_leads : PlainFits p → (phase q : ℕ) → q < p.procs →
      Leads loose (double_actions_of_body w (slice_index_or w.phases phase NoStmts) [] q) loose
  phase_leads fits phase q lt =
      let body = slice_index_or p.phases phase plain.NoStmts in
      let made = doubled_body (header_of p) body loose in
      let fs = double_actions_of_body w made.body [] q in
      subst (λ b. Leads loose (double_actions_of_body w b [] q) loose)
      (sym (get_or-map (doubled_phase (header_of p)) p.phases phase plain.NoStmts))
      (forgotten loose made.bounds fs (body_leads body loose [] q loose_long loose_sane (fits.each phase q lt)))

  pub exact_code : PlainFits p → IsExactCode (scale_of (double_code w)) (double_code w)
  exact_code fits =
      let from : (r : ℕ) → limit_of m ≤ bound_at m loose r = λ r. let e = loosest_is m p.regs r in omega (arith, e) in
      record {
        each = lists_have w (λ fs. AreExact s top fs top) (λ r. omega arith)
            (λ phase q lt.
            let fs = double_actions_of_body w (slice_index_or w.phases phase NoStmts) [] q in
            from_weaker s top (bound_at m loose) fs top from
            (ends_weaker s (bound_at m loose) (bound_at m loose) top fs loose_sane (phase_leads fits phase q lt).goes));
        past = none_past w;
      }

-- what it leaves is what the program leaves, whatever the order of turns
pub doubled_is_same : DoubledIsSame
doubled_is_same p fits some below line x turns low =
    results_are (double_code (doubled p)) (exact_code p (record { some = some; below = below }) fits) x turns some line
    (low_of_all p.modulus x low)
    ∙ ap (λ c. map pos (results c x turns)) (code_under p)

-- so the order of turns is as free as the program's
pub doubled_order_is_free : DoubledOrderIsFree
doubled_order_is_free p fits some below line apart x turns low =
    let code = plain_code p in
    let is = code_is p in
    doubled_is_same p fits some below line x turns low
    ∙ ap (λ memory. map pos (words_at p.size memory (padded code)))
    (memory_of_runs code is apart x turns ∙ sym (memory_of_runs code is apart x []))
    ∙ sym (doubled_is_same p fits some below line x [] low)
