-- Programs on words whose statements go by other routes fit where they did, and processors that were apart stay apart.
use Rattle.std.proofs.Common.{◌≡◌, ℕ, ◌^◌, ◌<◌, List, [], ◌∷◌, ◌++◌, All, length, map, refl, sym, ap, ◌∙◌}
use Rattle.std.proofs.Common.{subst, ⊎_elim}
use Rattle.std.specs.Prelude.{slice_index_or}
use Rattle.std.specs.List.{range_with_len}
use Rattle.std.proofs.Math.ListN.{get_or-map}
use Rattle.std.proofs.lemmas.List.{length-map}
use Rattle.std.proofs.lemmas.List.Elements.{All-nil}
use Rattle.operators.specs.Sum.{sum_below}
use Rattle.operators.proofs.Sums.{sum_below-same}
use Rattle.icode.specs.Actions.{StepFits, PlainFits, steps_of_body, steps_of_phase, plain_code}
use Rattle.icode.specs.Machine.{IsApart}
use Rattle.icode.specs.Plain.{PlainOp, PlainProgram, Load, Store, Zero, Add, Sub, Neg, MulConst, MulTable, Tile}
use Rattle.word_code.specs.Bare.{bare_body, bare, NumbersFit, WordsFit}
use Rattle.word_code.specs.Quicken.{PlainLaziness, quickened}
use Rattle.word_code.specs.WordMachine.{WordAction, under}
use Rattle.word_code.specs.WordProgram.{Note, WordStmt, WordBody, PlainWordProgram, Loop, Do, NoStmts, AndStmts}
use Rattle.word_code.specs.WordProgram.{word_actions_of_body, word_code}
use Rattle.word_code.proofs.Bare.{quickened_apart, code_under_is, one_is_apart}
use Rattle.word_code.proofs.Flow.{with_phases, op_same}
use Rattle.word_code.proofs.Leaves.{Pairwise, pairwise-append, pairwise-turns, pairwise-length, pairwise-all, Leaf}
use Rattle.word_code.proofs.Leaves.{leaf}
use Rattle.word_code.proofs.Leaves.{leaves_of_stmt, leaves_of_body, act_at, step_at, body-acts, body-steps}
use Rattle.word_code.proofs.Rows.{acts_are, lists_have}
use Rattle.word_code.specs.declared.in_place.routes.Route.{Route}
use Rattle.word_code.specs.InPlace.Sharing.{routes_of, in_place}
use Rattle.word_code.specs.InPlace.Routes.{rerouted_op, rerouted_stmt, rerouted_body, rerouted_phase, rerouted}
use Rattle.word_code.proofs.InPlace.Law.{Goes, stays_or_goes, no_routes}

-- a program on words, and one with other phases
module _ (w : PlainWordProgram) (others : List WordBody) (q : ℕ) where
  abbrev there : PlainWordProgram
  there = with_phases w others

  -- the operation of the other fits where that of the one does, and its numbers are words
  record IsKept (one other : Leaf) : Type 0 where
    fits : StepFits (bare w) (step_at (bare w) q one) → StepFits (bare there) (step_at (bare there) q other)
    numbers : NumbersFit w.width w.frame.regs (act_at w q one) → NumbersFit w.width w.frame.regs (act_at there q other)

  stays : (note : Note) (op : PlainOp) (vs : List ℕ) → IsKept (leaf note op vs) (leaf note op vs)
  stays note op vs =
      record {
        fits = λ s. record { numbers = s.numbers; place = s.place; registers = s.registers; factors = s.factors };
        numbers = subst (NumbersFit w.width w.frame.regs) (sym (op_same w others note op vs q));
      }

  goes_by : (route : Route) (note : Note) (op : PlainOp) (vs : List ℕ) →
      IsKept (leaf note op vs) (leaf note (rerouted_op route op) vs)
  goes_by route note (Load r array place) vs =
      record {
        fits = λ s. record { numbers = s.numbers; place = s.place; registers = s.registers; factors = s.factors };
        numbers = λ n. record { before = n.before; bias = n.bias; quotients = n.quotients };
      }
  goes_by route note (Store array place r) vs =
      record {
        fits = λ s. record { numbers = s.numbers; place = s.place; registers = s.registers; factors = s.factors };
        numbers = λ n. record { before = n.before; bias = n.bias; quotients = n.quotients };
      }
  goes_by route note (Zero r) vs = stays note (Zero r) vs
  goes_by route note (Add r x y) vs = stays note (Add r x y) vs
  goes_by route note (Sub r x y) vs = stays note (Sub r x y) vs
  goes_by route note (Neg r x) vs = stays note (Neg r x) vs
  goes_by route note (MulConst r x factor) vs = stays note (MulConst r x factor) vs
  goes_by route note (MulTable r x table place step) vs = stays note (MulTable r x table place step) vs
  goes_by route note (Tile r x) vs = stays note (Tile r x) vs

  abbrev AreKept : List Leaf → List Leaf → Type 0
  AreKept = Pairwise IsKept

  all_stay : (leaves : List Leaf) → AreKept leaves leaves
  all_stay [] = tt
  all_stay (l ∷ leaves) = (stays l.note l.op l.values, all_stay leaves)

  mutual
    stmt_kept : (route : Route) (stmt : WordStmt) (vs : List ℕ) →
        AreKept (leaves_of_stmt stmt vs) (leaves_of_stmt (rerouted_stmt route stmt) vs)
    stmt_kept route (Loop count body) vs =
        pairwise-turns IsKept (λ i. leaves_of_body body (vs ++ i ∷ []))
        (λ i. leaves_of_body (rerouted_body route body) (vs ++ i ∷ []))
        (λ i. body_kept route body (vs ++ i ∷ [])) (range_with_len 0 count)
    stmt_kept route (Do note op) vs = (goes_by route note op vs, tt)

    body_kept : (route : Route) (body : WordBody) (vs : List ℕ) →
        AreKept (leaves_of_body body vs) (leaves_of_body (rerouted_body route body) vs)
    body_kept route NoStmts vs = tt
    body_kept route (AndStmts stmt rest) vs =
        pairwise-append IsKept (leaves_of_stmt stmt vs) (leaves_of_body rest vs)
        (leaves_of_stmt (rerouted_stmt route stmt) vs)
        (leaves_of_body (rerouted_body route rest) vs) (stmt_kept route stmt vs) (body_kept route rest vs)

  phase_kept : (routes : List Route) (body : WordBody) →
      AreKept (leaves_of_body body []) (leaves_of_body (rerouted_phase routes body) [])
  phase_kept [] NoStmts = tt
  phase_kept [] (AndStmts stmt rest) = all_stay (leaves_of_body (AndStmts stmt rest) [])
  phase_kept (route ∷ routes) NoStmts = tt
  phase_kept (route ∷ routes) (AndStmts stmt rest) =
      pairwise-append IsKept (leaves_of_stmt stmt []) (leaves_of_body rest [])
      (leaves_of_stmt (rerouted_stmt route stmt) [])
      (leaves_of_body (rerouted_phase routes rest) []) (stmt_kept route stmt []) (phase_kept routes rest)

no_phase : (routes : List Route) → rerouted_phase routes NoStmts ≡ NoStmts
no_phase [] = refl
no_phase (route ∷ routes) = refl

-- a program on words by routes
module _ (routes : List Route) (w : PlainWordProgram) where
  abbrev by_them : PlainWordProgram
  by_them = rerouted routes w

  abbrev body_at : ℕ → WordBody
  body_at phase = slice_index_or w.phases phase NoStmts

  abbrev goes_at : ℕ → WordBody
  goes_at phase = rerouted_phase routes (body_at phase)

  -- how many steps there are in a phase
  abbrev steps_in : PlainProgram → ℕ → ℕ
  steps_in p phase = sum_below w.frame.procs (λ q. length (steps_of_phase p phase q))

  abbrev Fit : WordAction → Type 0
  Fit = NumbersFit w.width w.frame.regs

  goes_there : (phase : ℕ) → slice_index_or by_them.phases phase NoStmts ≡ goes_at phase
  goes_there phase =
      ap (slice_index_or by_them.phases phase) (sym (no_phase routes))
      ∙ get_or-map (rerouted_phase routes) w.phases phase NoStmts

  kept : (phase q : ℕ) → AreKept w by_them.phases q (leaves_of_body (body_at phase) [])
      (leaves_of_body (goes_at phase) [])
  kept phase q = phase_kept w by_them.phases q routes (body_at phase)

  -- the steps of a phase, and of it by routes
  steps_here : (phase q : ℕ) →
      steps_of_phase (bare w) phase q ≡ map (step_at (bare w) q) (leaves_of_body (body_at phase) [])
  steps_here phase q =
      ap (λ b. steps_of_body (bare w) b [] q) (get_or-map bare_body w.phases phase NoStmts)
      ∙ body-steps (bare w) q (body_at phase) []

  steps_there : (phase q : ℕ) →
      steps_of_phase (bare by_them) phase q ≡ map (step_at (bare by_them) q) (leaves_of_body (goes_at phase) [])
  steps_there phase q =
      ap (λ b. steps_of_body (bare by_them) b [] q)
      (get_or-map bare_body by_them.phases phase NoStmts ∙ ap bare_body (goes_there phase))
      ∙ body-steps (bare by_them) q (goes_at phase) []

  as_long : (phase q : ℕ) → length (steps_of_phase (bare by_them) phase q) ≡ length (steps_of_phase (bare w) phase q)
  as_long phase q =
      let one = leaves_of_body (body_at phase) [] in
      let other = leaves_of_body (goes_at phase) [] in
      ap length (steps_there phase q) ∙ length-map other (step_at (bare by_them) q)
      ∙ pairwise-length (IsKept w by_them.phases q) one other (kept phase q)
      ∙ sym (ap length (steps_here phase q) ∙ length-map one (step_at (bare w) q))

  rerouted_fits : PlainFits (bare w) → PlainFits (bare by_them)
  rerouted_fits fits =
      record {
        few = let bound = fits.few in subst (λ n. n < 2 ^ 59) (sym as_many) bound;
        each = λ phase q lt.
            subst (All (StepFits (bare by_them))) (sym (steps_there phase q))
            (pairwise-all (IsKept w by_them.phases q) (step_at (bare w) q) (step_at (bare by_them) q)
            (StepFits (bare w))
            (StepFits (bare by_them)) (λ one other keeps. keeps.fits) (leaves_of_body (body_at phase) [])
            (leaves_of_body (goes_at phase) []) (kept phase q)
            (subst (All (StepFits (bare w))) (steps_here phase q) (fits.each phase q lt)));
      }
    where
      long : length (bare by_them).phases ≡ length (bare w).phases
      long =
          length-map (map (rerouted_phase routes) w.phases) bare_body ∙ length-map w.phases (rerouted_phase routes)
          ∙ sym (length-map w.phases bare_body)

      as_many : sum_below (length (bare by_them).phases) (steps_in (bare by_them))
          ≡ sum_below (length (bare w).phases) (steps_in (bare w))
      as_many =
          ap (λ n. sum_below n (steps_in (bare by_them))) long
          ∙ sum_below-same (length (bare w).phases) (steps_in (bare by_them)) (steps_in (bare w))
          (λ phase _. sum_below-same w.frame.procs (λ q. length (steps_of_phase (bare by_them) phase q))
          (λ q. length (steps_of_phase (bare w) phase q)) (λ q _. as_long phase q))

  -- words that fit do so by other routes
  rerouted_words_fit : WordsFit w → WordsFit by_them
  rerouted_words_fit fit =
      record {
        fits = rerouted_fits fit.fits;
        quotients = fit.quotients;
        modulus = fit.modulus;
        numbers = lists_have by_them (All Fit) (All-nil Fit) numbers;
      }
    where
      numbers : (phase q : ℕ) → q < w.frame.procs →
          All Fit (word_actions_of_body by_them (slice_index_or by_them.phases phase NoStmts) [] q)
      numbers phase q lt =
          let here = acts_are w phase q lt ∙ body-acts w q (body_at phase) [] in
          let after =
          ap (λ b. word_actions_of_body by_them b [] q) (goes_there phase)
          ∙ body-acts by_them q (goes_at phase) [] in
          subst (All Fit) (sym after)
          (pairwise-all (IsKept w by_them.phases q) (act_at w q) (act_at by_them q) Fit Fit
          (λ one other keeps. keeps.numbers)
          (leaves_of_body (body_at phase) []) (leaves_of_body (goes_at phase) []) (kept phase q)
          (subst (All Fit) here (fit.numbers phase q)))

-- and so in place
pub in_place_fits : (p : PlainProgram) (words : PlainWordProgram) → WordsFit words → WordsFit (in_place p words)
in_place_fits p words fit = rerouted_words_fit (routes_of p p.phases) words fit

-- and its processors share no line: there is one alone, or nothing has changed
pub in_place_apart : (z : PlainLaziness) (p : PlainProgram) → ((phase : ℕ) → IsApart (plain_code p) phase) → (phase : ℕ) →
    IsApart (under (word_code (in_place p (quickened z p)))) phase
in_place_apart z p apart phase = ⊎_elim stays goes (stays_or_goes p p.phases)
  where
    stays : routes_of p p.phases ≡ [] → IsApart (under (word_code (in_place p (quickened z p)))) phase
    stays e =
        subst (λ w. IsApart (under (word_code w)) phase) (sym (ap (λ routes. rerouted routes (quickened z p)) e ∙ no_routes z p))
        (quickened_apart z p apart phase)

    goes : Goes p p.phases → IsApart (under (word_code (in_place p (quickened z p)))) phase
    goes g =
        let w = in_place p (quickened z p) in
        subst (λ code. IsApart code phase) (sym (code_under_is w)) (one_is_apart (bare w) g.alone phase)
