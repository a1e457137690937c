-- Walks over the accesses of statements, of which some are left.
use Rattle.std.proofs.Common.{◌≡◌, ℕ, zero, suc, ◌+◌, ◌-◌, ◌<◌, ◌≤◌, ◌&&◌, List, [], ◌∷◌, ◌++◌, true, false, flat_map}
use Rattle.std.proofs.Common.{length, drop, drop-cons, add-one, get_or, min, take, refl, sym, subst, ap, ap₂, ◌∙◌}
use Rattle.std.proofs.Common.{arith}
use Rattle.std.specs.Prelude.{All, slice_set}
use Rattle.std.proofs.lemmas.List.Elements.{All-head}
use Rattle.std.specs.List.{range_with_len}
use Rattle.icode.specs.Actions.{Step, StepFits, step_of, steps_of_stmt, steps_of_body}
use Rattle.icode.specs.Limits.{is_stmt_within, is_body_within}
use Rattle.icode.specs.Plain.{PlainStmt, PlainBody, PlainProgram, PlainOp, Do, Loop, NoStmts, plain_stmt}
use Rattle.icode.specs.Plain.{plain_body}
use Rattle.icode.specs.declared.program.Stmt.{Stmt}
use Rattle.icode.proofs.Steps.{drop_item, within_parts}
use Rattle.code_check.proofs.Walking.{open_now, within_loop}
use Rattle.word_code.specs.declared.in_place.routes.Route.{Route}
use Rattle.word_code.specs.InPlace.Accesses.{Access, are_right, homes_after_all, accesses_of_stmt, accesses_of_body}
use Rattle.word_code.specs.InPlace.Accesses.{accesses_of_phase}
use Rattle.word_code.specs.InPlace.Homes.{Homes}
use Rattle.word_code.specs.InPlace.Views.{StmtFits, BodyFits}
use Rattle.nests.proofs.Listed.{all-left, all-right}
use Rattle.word_code.proofs.InPlace.Walks.{right-append, after-append}

-- what is left leads where all of it led
pub record IsLed (lanes : ℕ) (whole left : List Access) (h h0 : Homes) : Type 0 where
  pub right : are_right lanes whole h0 ≡ are_right lanes left h
  pub after : homes_after_all lanes whole h0 ≡ homes_after_all lanes left h

module _ (lanes : ℕ) (whole left first rest : List Access) (h h0 : Homes) (e : left ≡ first ++ rest)
    (led : IsLed lanes whole left h h0) where
  led_on : (h1 : Homes) → true ≡ are_right lanes first h → h1 ≡ homes_after_all lanes first h →
      IsLed lanes whole rest h1 h0
  led_on h1 found after =
      record {
        right = led.right
            ∙ (ap (λ xs. are_right lanes xs h) e
            ∙ (right-append lanes first rest h
            ∙ (ap (λ b. b && are_right lanes rest (homes_after_all lanes first h)) (sym found)
            ∙ ap (are_right lanes rest) (sym after))));
        after = led.after
            ∙ (ap (λ xs. homes_after_all lanes xs h) e
            ∙ (after-append lanes first rest h ∙ ap (homes_after_all lanes rest) (sym after)));
      }

  led_wrong : false ≡ are_right lanes first h → false ≡ are_right lanes whole h0
  led_wrong lost =
      sym
      (led.right
      ∙ (ap (λ xs. are_right lanes xs h) e
      ∙ (right-append lanes first rest h
      ∙ ap (λ b. b && are_right lanes rest (homes_after_all lanes first h)) (sym lost))))

-- what is left of a list begins with a statement
module _ (p : PlainProgram) (items : List Stmt) (i : ℕ) (x : Stmt) (vs : List ℕ) (lt : i < length items)
    (is : x ≡ get_or items i x) where
  abbrev left_behind : PlainBody
  left_behind = plain_body (drop (i + 1) items)

  all_fit : BodyFits p (plain_body (drop i items)) vs →
      All (StepFits p) (steps_of_stmt p (plain_stmt x) vs 0 ++ steps_of_body p left_behind vs 0)
  all_fit fits = subst (λ ss. BodyFits p (plain_body ss) vs) (drop_item items i x lt is) fits

  pub first_fits : BodyFits p (plain_body (drop i items)) vs → StmtFits p (plain_stmt x) vs
  first_fits fits =
      all-left (StepFits p) (steps_of_stmt p (plain_stmt x) vs 0) (steps_of_body p left_behind vs 0) (all_fit fits)

  rest_fits : BodyFits p (plain_body (drop i items)) vs → BodyFits p left_behind vs
  rest_fits fits =
      all-right (StepFits p) (steps_of_stmt p (plain_stmt x) vs 0) (steps_of_body p left_behind vs 0) (all_fit fits)

  parts_within : (depth : ℕ) → is_body_within p.modulus (plain_body (drop i items)) depth ≡ true →
      (is_stmt_within p.modulus (plain_stmt x) depth ≡ true) × (is_body_within p.modulus left_behind depth ≡ true)
  parts_within depth = within_parts p.modulus depth x (drop i items) (drop (i + 1) items) (drop_item items i x lt is)

-- a walk over statements, of which these are left
pub record IsInBody (p : PlainProgram) (route : Route) (whole left : PlainBody) (vs : List ℕ) (depth : ℕ) (h h0 : Homes) : Type 0 where
  pub led : IsLed p.lanes (accesses_of_body p route whole vs) (accesses_of_body p route left vs) h h0
  pub fits : BodyFits p left vs
  pub within : is_body_within p.modulus left depth ≡ true

-- a statement of a list, where the values of the open loops are these
module _ (p : PlainProgram) (route : Route) (items : List Stmt) (i : ℕ) (x : Stmt) (vs us : List ℕ) (depth : ℕ)
    (h h0 : Homes) (lt : i < length items) (is : x ≡ get_or items i x) (same : us ≡ vs)
    (at : IsInBody p route (plain_body items) (plain_body (drop i items)) vs depth h h0) where
  abbrev first : List Access
  first = accesses_of_stmt p route (plain_stmt x) us

  abbrev rest : List Access
  rest = accesses_of_body p route (plain_body (drop (i + 1) items)) vs

  told : accesses_of_body p route (plain_body (drop i items)) vs ≡ first ++ rest
  told =
      ap (λ ss. accesses_of_body p route (plain_body ss) vs) (drop_item items i x lt is)
      ∙ ap (λ ws. accesses_of_stmt p route (plain_stmt x) ws ++ rest) (sym same)

  pub item_within : is_stmt_within p.modulus (plain_stmt x) depth ≡ true
  item_within = (parts_within p items i x vs lt is depth at.within).0

  pub item_fits : StmtFits p (plain_stmt x) us
  item_fits = subst (StmtFits p (plain_stmt x)) (sym same) (first_fits p items i x vs lt is at.fits)

  pub item_stops : false ≡ are_right p.lanes first h →
      false ≡ are_right p.lanes (accesses_of_body p route (plain_body items) vs) h0
  item_stops =
      led_wrong p.lanes (accesses_of_body p route (plain_body items) vs)
      (accesses_of_body p route (plain_body (drop i items)) vs) first rest h h0 told at.led

  pub item_goes_on : (h1 : Homes) → true ≡ are_right p.lanes first h → h1 ≡ homes_after_all p.lanes first h →
      IsInBody p route (plain_body items) (plain_body (drop (i + 1) items)) vs depth h1 h0
  item_goes_on h1 found after =
      record {
        led = led_on p.lanes (accesses_of_body p route (plain_body items) vs)
            (accesses_of_body p route (plain_body (drop i items)) vs) first rest h h0 told at.led h1 found after;
        fits = rest_fits p items i x vs lt is at.fits;
        within = (parts_within p items i x vs lt is depth at.within).1;
      }

-- the accesses of the turns of a loop from one on, and their steps
abbrev pub turns_left : PlainProgram → Route → PlainBody → List ℕ → ℕ → ℕ → List Access
turns_left p route body vs turn end = flat_map (λ i. accesses_of_body p route body (vs ++ i ∷ [])) (range_with_len turn (end - turn))

abbrev pub steps_left : PlainProgram → PlainBody → List ℕ → ℕ → ℕ → List Step
steps_left p body vs turn end = flat_map (λ i. steps_of_body p body (vs ++ i ∷ []) 0) (range_with_len turn (end - turn))

turns_split : {X : Type 0} (f : ℕ → List X) (turn end : ℕ) → turn < end →
    flat_map f (range_with_len turn (end - turn)) ≡ f turn ++ flat_map f (range_with_len (turn + 1) (end - (turn + 1)))
turns_split f turn end lt =
    let left : end - turn ≡ suc (end - (turn + 1)) = omega arith in ap (λ m. flat_map f (range_with_len turn m)) left

-- a walk over a loop, of which `turn` turns are walked
pub record IsInLoop (p : PlainProgram) (route : Route) (s : PlainStmt) (body : PlainBody) (vs : List ℕ) (turn end : ℕ) (h h0 : Homes) : Type 0 where
  pub led : IsLed p.lanes (accesses_of_stmt p route s vs) (turns_left p route body vs turn end) h h0
  pub fits : All (StepFits p) (steps_left p body vs turn end)

-- a turn of a loop over these items, with the values of the open loops
module _ (p : PlainProgram) (route : Route) (s : PlainStmt) (body : PlainBody) (items : List Stmt) (vs us : List ℕ)
    (turn end : ℕ) (h h0 : Homes) (same : plain_body items ≡ body) (opened : us ≡ vs ++ turn ∷ []) (lt : turn < end)
    (at : IsInLoop p route s body vs turn end h h0) where
  abbrev of_turn : List Access
  of_turn = accesses_of_body p route (plain_body items) us

  told_turns : turns_left p route body vs turn end ≡ of_turn ++ turns_left p route body vs (turn + 1) end
  told_turns =
      turns_split (λ i. accesses_of_body p route body (vs ++ i ∷ [])) turn end lt
      ∙ ap (λ first. first ++ turns_left p route body vs (turn + 1) end)
      (sym (ap₂ (accesses_of_body p route) same opened))

  turns_fit : All (StepFits p) (steps_of_body p body (vs ++ turn ∷ []) 0 ++ steps_left p body vs (turn + 1) end)
  turns_fit = subst (All (StepFits p)) (turns_split (λ i. steps_of_body p body (vs ++ i ∷ []) 0) turn end lt) at.fits

  pub turn_fits : BodyFits p (plain_body items) us
  turn_fits =
      subst (λ b. BodyFits p b us) (sym same)
      (subst (BodyFits p body) (sym opened)
      (all-left (StepFits p) (steps_of_body p body (vs ++ turn ∷ []) 0) (steps_left p body vs (turn + 1) end)
      turns_fit))

  pub turn_stops : false ≡ are_right p.lanes of_turn h → false ≡ are_right p.lanes (accesses_of_stmt p route s vs) h0
  turn_stops =
      led_wrong p.lanes (accesses_of_stmt p route s vs) (turns_left p route body vs turn end) of_turn
      (turns_left p route body vs (turn + 1) end) h h0 told_turns at.led

  pub turn_goes_on : (h1 : Homes) → true ≡ are_right p.lanes of_turn h → h1 ≡ homes_after_all p.lanes of_turn h →
      IsInLoop p route s body vs (turn + 1) end h1 h0
  turn_goes_on h1 found after =
      record {
        led = led_on p.lanes (accesses_of_stmt p route s vs) (turns_left p route body vs turn end) of_turn
            (turns_left p route body vs (turn + 1) end) h h0 told_turns at.led h1 found after;
        fits = all-right (StepFits p) (steps_of_body p body (vs ++ turn ∷ []) 0) (steps_left p body vs (turn + 1) end)
            turns_fit;
      }

-- the values of the open loops, with a turn of the loop that these statements stand in
pub opened : (m depth count turn : ℕ) (body : PlainBody) (s : PlainStmt) (values before : List ℕ) →
    s ≡ Loop count body → is_stmt_within m s depth ≡ true → length values ≡ 64 → take depth values ≡ take depth before →
    take (depth + 1) (slice_set values depth turn) ≡ take depth before ++ turn ∷ []
opened m depth count turn body s values before is within long same =
    let inner = within_loop m depth count body s is within in
    open_now values before depth turn (omega (arith, long, inner.0)) same

-- an operation alone
pub op_fits : (p : PlainProgram) (op : PlainOp) (s : PlainStmt) (vs : List ℕ) → s ≡ Do op → StmtFits p s vs →
    StepFits p (step_of p op vs 0)
op_fits p op s vs e fits = All-head (StepFits p) (step_of p op vs 0) [] (subst (λ z. StmtFits p z vs) e fits)

-- a walk over a phase, of which these statements are left with their routes
pub record IsInPhase (p : PlainProgram) (whole : List Access) (routes : List Route) (left : PlainBody) (h h0 : Homes) : Type 0 where
  pub led : IsLed p.lanes whole (accesses_of_phase p routes left) h h0
  pub fits : BodyFits p left []
  pub within : is_body_within p.modulus left 0 ≡ true

-- a statement of a phase with its route
module _ (p : PlainProgram) (routes : List Route) (items : List Stmt) (i : ℕ) (x : Stmt) (d : Route) (h h0 : Homes)
    (routed : i < length routes) (lt : i < length items) (is : x ≡ get_or items i x)
    (at : IsInPhase p (accesses_of_phase p routes (plain_body items)) (drop i routes) (plain_body (drop i items)) h h0)
  where
    abbrev of_phase : List Access
    of_phase = accesses_of_phase p routes (plain_body items)

    abbrev routed_first : List Access
    routed_first = accesses_of_stmt p (get_or routes i d) (plain_stmt x) []

    abbrev routed_rest : List Access
    routed_rest = accesses_of_phase p (drop (i + 1) routes) (plain_body (drop (i + 1) items))

    told_phase : accesses_of_phase p (drop i routes) (plain_body (drop i items)) ≡ routed_first ++ routed_rest
    told_phase =
        let next : drop i routes ≡ get_or routes i d ∷ drop (i + 1) routes = rw (add-one, drop-cons routes i d) refl in
        ap₂ (λ rs ss. accesses_of_phase p rs (plain_body ss)) next (drop_item items i x lt is)

    pub routed_stops : false ≡ are_right p.lanes routed_first h → false ≡ are_right p.lanes of_phase h0
    routed_stops =
        led_wrong p.lanes of_phase (accesses_of_phase p (drop i routes) (plain_body (drop i items))) routed_first
        routed_rest
        h h0 told_phase at.led

    pub routed_goes_on : (h1 : Homes) → true ≡ are_right p.lanes routed_first h →
        h1 ≡ homes_after_all p.lanes routed_first h →
        IsInPhase p of_phase (drop (i + 1) routes) (plain_body (drop (i + 1) items)) h1 h0
    routed_goes_on h1 found after =
        record {
          led = led_on p.lanes of_phase (accesses_of_phase p (drop i routes) (plain_body (drop i items))) routed_first
              routed_rest
              h h0 told_phase at.led h1 found after;
          fits = rest_fits p items i x [] lt is at.fits;
          within = (parts_within p items i x [] lt is 0 at.within).1;
        }

no_stmts : (p : PlainProgram) (routes : List Route) → accesses_of_phase p routes NoStmts ≡ []
no_stmts p [] = refl
no_stmts p (r ∷ routes) = refl

-- where there are no more routes, or no more statements, nothing is left
pub phase_empty : (p : PlainProgram) (routes : List Route) (items : List Stmt) (i : ℕ) →
    min (length routes) (length items) ≤ i → accesses_of_phase p (drop i routes) (plain_body (drop i items)) ≡ []
phase_empty p [] items zero past = refl
phase_empty p [] items (suc i) past = refl
phase_empty p (r ∷ routes) [] zero past = refl
phase_empty p (r ∷ routes) (x ∷ items) zero past = absurd (omega (arith, past))
phase_empty p (r ∷ routes) [] (suc i) past = no_stmts p (drop i routes)
phase_empty p (r ∷ routes) (x ∷ items) (suc i) past = phase_empty p routes items i (omega (arith, past))

-- there all of it led to what holds now
pub phase_ends : (p : PlainProgram) (routes : List Route) (items : List Stmt) (i : ℕ) (h h0 : Homes) →
    min (length routes) (length items) ≤ i →
    IsInPhase p (accesses_of_phase p routes (plain_body items)) (drop i routes) (plain_body (drop i items)) h h0 →
    IsLed p.lanes (accesses_of_phase p routes (plain_body items)) [] h h0
phase_ends p routes items i h h0 past at =
    subst (λ left. IsLed p.lanes (accesses_of_phase p routes (plain_body items)) left h h0) (phase_empty p routes items i past) at.led
