-- Actions of a program and of its statements that go by routes differ in their addresses alone.
use Rattle.std.proofs.Common.{ℕ, ◌+◌, ◌*◌, ◌≤◌, List, [], ◌∷◌, ◌++◌, All, flat_map, inl, inr, refl, ◌≡◌}
use Rattle.std.specs.List.{range_with_len}
use Rattle.std.proofs.lemmas.List.Elements.{All-head}
use Rattle.icode.specs.declared.action.Action.{Action}
use Rattle.icode.specs.declared.action.Action.TheVariants as action
use Rattle.icode.specs.declared.program.Array.{Array}
use Rattle.icode.specs.Actions.{Step, StepFits, array_start, step_of, steps_of_stmt, steps_of_body}
use Rattle.icode.specs.Expression.{sum_numbers}
use Rattle.icode.specs.Machine.{whole_lines}
use Rattle.icode.specs.Plain.{PlainOp, PlainStmt, PlainBody, PlainProgram, Load, Store, Zero, Add, Sub, Neg, MulConst}
use Rattle.icode.specs.Plain.{MulTable, Tile}
use Rattle.icode.specs.Plain as plain
use Rattle.word_code.specs.Needs.{needs}
use Rattle.word_code.specs.Quicken.{PlainLaziness, loosest, loosened, header_of, quick_stmt, quick_body, quick_alone}
use Rattle.word_code.specs.Quicken.{quickened}
use Rattle.word_code.specs.WordMachine.{WordAction}
use Rattle.word_code.specs.WordProgram.{Note, PlainWordProgram, word_action_of, word_actions_of_stmt}
use Rattle.word_code.specs.WordProgram.{word_actions_of_body}
use Rattle.word_code.specs.declared.in_place.routes.Route.{Route}
use Rattle.word_code.specs.InPlace.Accesses.{Access, Reads, Writes, accesses_of, accesses_of_stmt, accesses_of_body}
use Rattle.word_code.specs.InPlace.Accesses.{accesses_of_phase}
use Rattle.word_code.specs.InPlace.Routing.{chosen}
use Rattle.word_code.specs.InPlace.Routes.{rerouted_op, rerouted_stmt, rerouted_body, rerouted_phase, rerouted}
use Rattle.word_code.specs.InPlace.Views.{StmtFits, BodyFits}
use Rattle.nests.proofs.Listed.{all-left, all-right}
use Rattle.word_code.proofs.InPlace.Pairs.{IsInner, IsTouchPair, ArePairs, pairs-append, stored}
use Rattle.code_check.proofs.Regular.{array_inside}

-- as many routes as statements
abbrev pub ReachAll : List Route → PlainBody → Type 0
ReachAll [] plain.NoStmts = Unit {0}
ReachAll [] (plain.AndStmts stmt rest) = ⊥
ReachAll (route ∷ routes) plain.NoStmts = ⊥
ReachAll (route ∷ routes) (plain.AndStmts stmt rest) = ReachAll routes rest

pub chosen_reach : (body : PlainBody) → ReachAll (chosen body) body
chosen_reach plain.NoStmts = tt
chosen_reach (plain.AndStmts stmt rest) = chosen_reach rest

module _ (z : PlainLaziness) (p : PlainProgram) (all : List Route) where
  -- the program on words, and it by routes
  abbrev words_of : PlainWordProgram
  words_of = quickened z p

  abbrev other_of : PlainWordProgram
  other_of = rerouted all words_of

  abbrev words : ℕ
  words = whole_lines p.size p.line

  abbrev span_of : ℕ
  span_of = 4 * words

  abbrev Alike : List WordAction → List WordAction → List Access → Type 0
  Alike fs gs accesses = ArePairs p.lanes span_of fs gs accesses

  own_pair : (f : WordAction) → IsInner f.action → Alike (f ∷ []) (f ∷ []) []
  own_pair f inner = ([], [], refl, inl (record { same = refl; inner = inner; none = refl }), refl)

  touch_pair : (act : ℕ → ℕ → Action) (access : ℕ → ℕ → Access) (f : WordAction) (register at : ℕ)
      (array target : Array) → f.action ≡ act register (array_start words array + at) → at + p.lanes ≤ words →
      IsTouchPair act access p.lanes span_of f (record f { action = act register (array_start words target + at) }) (access (array_start words array + at) (array_start words target + at) ∷ [])
  touch_pair act access f register at array target acts inside =
      record {
        register = register;
        at = array_start words array + at;
        to = array_start words target + at;
        acts = acts;
        other = refl;
        touches = refl;
        inside = array_inside words at p.lanes array inside;
        inside_other = array_inside words at p.lanes target inside;
      }

  op_pairs : (route : Route) (note : Note) (op : PlainOp) (vs : List ℕ) → StepFits p (step_of p op vs 0) →
      Alike (word_action_of words_of note op vs 0 ∷ []) (word_action_of other_of note (rerouted_op route op) vs 0 ∷ [])
      (accesses_of p route op vs)
  op_pairs route note (Load register array place) vs fits =
      let load = word_action_of words_of note (Load register array place) vs 0 in
      let pair = touch_pair action.Load Reads load register (sum_numbers place vs 0).value array route.source refl fits.place in
      (accesses_of p route (Load register array place) vs, [], refl, inr (inl pair), refl)
  op_pairs route note (Store array place register) vs fits =
      let store = word_action_of words_of note (Store array place register) vs 0 in
      let pair = touch_pair stored Writes store register (sum_numbers place vs 0).value array route.target refl fits.place in
      (accesses_of p route (Store array place register) vs, [], refl, inr (inr pair), refl)
  op_pairs route note (Zero r) vs fits = own_pair (word_action_of words_of note (Zero r) vs 0) tt
  op_pairs route note (Add r x y) vs fits = own_pair (word_action_of words_of note (Add r x y) vs 0) tt
  op_pairs route note (Sub r x y) vs fits = own_pair (word_action_of words_of note (Sub r x y) vs 0) tt
  op_pairs route note (Neg r x) vs fits = own_pair (word_action_of words_of note (Neg r x) vs 0) tt
  op_pairs route note (MulConst r x factor) vs fits = own_pair (word_action_of words_of note (MulConst r x factor) vs 0) tt
  op_pairs route note (MulTable r x table place step) vs fits = own_pair (word_action_of words_of note (MulTable r x table place step) vs 0) tt
  op_pairs route note (Tile r x) vs fits = own_pair (word_action_of words_of note (Tile r x) vs 0) tt

  -- the turns of a loop
  turns_pairs : (f g : ℕ → List WordAction) (a : ℕ → List Access) (s : ℕ → List Step) →
      ((i : ℕ) → All (StepFits p) (s i) → Alike (f i) (g i) (a i)) → (is : List ℕ) → All (StepFits p) (flat_map s is) →
      Alike (flat_map f is) (flat_map g is) (flat_map a is)
  turns_pairs f g a s each [] fits = refl
  turns_pairs f g a s each (i ∷ is) fits =
      pairs-append p.lanes span_of (f i) (g i) (flat_map f is) (flat_map g is) (a i) (flat_map a is)
      (each i (all-left (StepFits p) (s i) (flat_map s is) fits))
      (turns_pairs f g a s each is (all-right (StepFits p) (s i) (flat_map s is) fits))

  mutual
    stmt_pairs : (y : PlainLaziness) (route : Route) (stmt : PlainStmt) (bounds vs : List ℕ) → StmtFits p stmt vs →
        Alike (word_actions_of_stmt words_of (quick_stmt y (header_of p) stmt bounds).stmt vs 0)
        (word_actions_of_stmt other_of (rerouted_stmt route (quick_stmt y (header_of p) stmt bounds).stmt) vs 0)
        (accesses_of_stmt p route stmt vs)
    stmt_pairs y route (plain.Loop count body) bounds vs fits =
        let quick = (quick_body y (header_of p) body (loosest y (header_of p))).body in
        turns_pairs
        (λ i. word_actions_of_body words_of quick (vs ++ i ∷ []) 0)
        (λ i. word_actions_of_body other_of (rerouted_body route quick) (vs ++ i ∷ []) 0)
        (λ i. accesses_of_body p route body (vs ++ i ∷ []))
        (λ i. steps_of_body p body (vs ++ i ∷ []) 0)
        (λ i. body_pairs y route body (loosest y (header_of p)) (vs ++ i ∷ []))
        (range_with_len 0 count) fits
    stmt_pairs y route (plain.Do op) bounds vs fits = op_pairs route _ op vs (All-head (StepFits p) (step_of p op vs 0) [] fits)

    body_pairs : (y : PlainLaziness) (route : Route) (body : PlainBody) (bounds vs : List ℕ) → BodyFits p body vs →
        Alike (word_actions_of_body words_of (quick_body y (header_of p) body bounds).body vs 0)
        (word_actions_of_body other_of (rerouted_body route (quick_body y (header_of p) body bounds).body) vs 0)
        (accesses_of_body p route body vs)
    body_pairs y route plain.NoStmts bounds vs fits = refl
    body_pairs y route (plain.AndStmts stmt rest) bounds vs fits =
        let one = quick_stmt y (header_of p) stmt bounds in
        let after = (quick_body y (header_of p) rest one.bounds).body in
        pairs-append p.lanes span_of (word_actions_of_stmt words_of one.stmt vs 0) (word_actions_of_stmt other_of (rerouted_stmt route one.stmt) vs 0)
        (word_actions_of_body words_of after vs 0) (word_actions_of_body other_of (rerouted_body route after) vs 0)
        (accesses_of_stmt p route stmt vs) (accesses_of_body p route rest vs)
        (stmt_pairs y route stmt bounds vs (all-left (StepFits p) (steps_of_stmt p stmt vs 0)
        (steps_of_body p rest vs 0) fits))
        (body_pairs y route rest one.bounds vs (all-right (StepFits p) (steps_of_stmt p stmt vs 0)
        (steps_of_body p rest vs 0) fits))

  pub phase_pairs : (routes : List Route) (body : PlainBody) (bounds : List ℕ) → ReachAll routes body →
      BodyFits p body [] →
      Alike (word_actions_of_body words_of (quick_alone z (header_of p) body bounds).body [] 0)
      (word_actions_of_body other_of (rerouted_phase routes (quick_alone z (header_of p) body bounds).body) [] 0)
      (accesses_of_phase p routes body)
  phase_pairs [] plain.NoStmts bounds reach fits = refl
  phase_pairs (route ∷ routes) (plain.AndStmts stmt rest) bounds reach fits =
      let y = loosened z (needs (plain.AndStmts stmt rest)) in
      let one = quick_stmt y (header_of p) stmt bounds in
      let after = (quick_alone z (header_of p) rest one.bounds).body in
      pairs-append p.lanes span_of (word_actions_of_stmt words_of one.stmt [] 0) (word_actions_of_stmt other_of (rerouted_stmt route one.stmt) [] 0)
      (word_actions_of_body words_of after [] 0) (word_actions_of_body other_of (rerouted_phase routes after) [] 0)
      (accesses_of_stmt p route stmt []) (accesses_of_phase p routes rest)
      (stmt_pairs y route stmt bounds [] (all-left (StepFits p) (steps_of_stmt p stmt [] 0) (steps_of_body p rest [] 0)
      fits))
      (phase_pairs routes rest one.bounds reach (all-right (StepFits p) (steps_of_stmt p stmt [] 0)
      (steps_of_body p rest [] 0) fits))
  phase_pairs _ _ bounds reach fits = absurd reach
