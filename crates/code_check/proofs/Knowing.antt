-- Walks over steps as far as they read what is known, of which some are left.
use Rattle.std.proofs.Common.{◌≡◌, ℕ, suc, ◌+◌, ◌-◌, ◌<◌, ◌&&◌, List, [], ◌∷◌, ◌++◌, Bool, true, false, flat_map}
use Rattle.std.proofs.Common.{All, length, drop, get_or, take, refl, sym, subst, ap, ◌∙◌, arith}
use Rattle.std.proofs.Math.Bool.{and_assoc}
use Rattle.std.proofs.lemmas.List.{map-append}
use Rattle.std.proofs.lemmas.List.Elements.{All-nil, All-cons, All-head, All-tail}
use Rattle.std.specs.Prelude.{slice_set}
use Rattle.std.specs.List.{range_with_len}
use Rattle.icode.specs.declared.action.Action.{Action}
use Rattle.icode.specs.Actions.{Step, StepFits, actions_of, step_of, steps_of_body, steps_of_stmt}
use Rattle.icode.specs.Limits.{is_body_within, is_stmt_within}
use Rattle.icode.specs.Plain.{PlainBody, PlainOp, PlainProgram, PlainStmt, Do, Loop}
use Rattle.icode.proofs.Bools.{both_true}
use Rattle.code_check.specs.declared.live.Live.{Live}
use Rattle.code_check.specs.Live.{plain_live, plain_lives}
use Rattle.code_check.specs.Marks.{Marks, marks_after, marks_after_all, read_known, reads_known}
use Rattle.code_check.proofs.Walking.{next_live, open_now, within_loop}

-- actions after actions

read-append : (lanes : ℕ) (xs ys : List Action) (m : Marks) →
    read_known lanes (xs ++ ys) m ≡ (read_known lanes xs m && read_known lanes ys (marks_after_all lanes xs m))
read-append lanes [] ys m = refl
read-append lanes (a ∷ xs) ys m =
    ap (λ (rest : Bool). reads_known lanes a m && rest) (read-append lanes xs ys (marks_after lanes a m))
    ∙ sym (and_assoc (reads_known lanes a m) (read_known lanes xs (marks_after lanes a m))
    (read_known lanes ys (marks_after_all lanes xs (marks_after lanes a m))))

after-append : (lanes : ℕ) (xs ys : List Action) (m : Marks) →
    marks_after_all lanes (xs ++ ys) m ≡ marks_after_all lanes ys (marks_after_all lanes xs m)
after-append lanes [] ys m = refl
after-append lanes (a ∷ xs) ys m = after-append lanes xs ys (marks_after lanes a m)

all_parts : {X : Type 0} (P : X → Type 0) (xs ys : List X) → All P (xs ++ ys) → All P xs × All P ys
all_parts P [] ys h = (All-nil P, h)
all_parts P (x ∷ xs) ys h =
    let rest = all_parts P xs ys (All-tail P x (xs ++ ys) h) in
    (All-cons P x xs (All-head P x (xs ++ ys) h) rest.0, rest.1)

abbrev pub know : PlainProgram → List Step → Marks → Bool
know p steps m = read_known p.lanes (actions_of steps) m

abbrev pub lead : PlainProgram → List Step → Marks → Marks
lead p steps m = marks_after_all p.lanes (actions_of steps) m

-- what is left leads where all of it led
pub record IsLed (p : PlainProgram) (whole left : List Step) (m m0 : Marks) : Type 0 where
  pub known : know p whole m0 ≡ know p left m
  pub after : lead p whole m0 ≡ lead p left m

module _ (p : PlainProgram) (whole left first rest : List Step) (m m0 : Marks) (e : left ≡ first ++ rest)
    (led : IsLed p whole left m m0) where
  split : actions_of left ≡ actions_of first ++ actions_of rest
  split = ap actions_of e ∙ map-append (λ (s : Step). s.action) first rest

  know-split : know p whole m0 ≡ (know p first m && know p rest (lead p first m))
  know-split =
      led.known
      ∙ (ap (λ xs. read_known p.lanes xs m) split ∙ read-append p.lanes (actions_of first) (actions_of rest) m)

  led_on : (m1 : Marks) → true ≡ know p first m → m1 ≡ lead p first m → IsLed p whole rest m1 m0
  led_on m1 found after =
      record {
        known = know-split
            ∙ (ap (λ b. b && know p rest (lead p first m)) (sym found) ∙ ap (know p rest) (sym after));
        after = led.after
            ∙ (ap (λ xs. marks_after_all p.lanes xs m) split
            ∙ (after-append p.lanes (actions_of first) (actions_of rest) m ∙ ap (lead p rest) (sym after)));
      }

  led_lost : false ≡ know p first m → false ≡ know p whole m0
  led_lost lost = sym (know-split ∙ ap (λ b. b && know p rest (lead p first m)) (sym lost))

-- a walk over statements, of which these are left
pub record IsInBody (p : PlainProgram) (q : ℕ) (whole left : PlainBody) (vs : List ℕ) (depth : ℕ) (m m0 : Marks) :
    Type 0 where
  pub led : IsLed p (steps_of_body p whole vs q) (steps_of_body p left vs q) m m0
  pub fits : All (StepFits p) (steps_of_body p left vs q)
  pub within : is_body_within p.modulus left depth ≡ true

-- a statement of a list, where the values of the open loops are these
module _ (p : PlainProgram) (q : ℕ) (items : List Live) (i : ℕ) (x : Live) (vs us : List ℕ) (depth : ℕ)
    (m m0 : Marks) (lt : i < length items) (is : x ≡ get_or items i x) (same : us ≡ vs)
    (at : IsInBody p q (plain_lives items) (plain_lives (drop i items)) vs depth m m0) where
  abbrev first : List Step
  first = steps_of_stmt p (plain_live x) us q

  abbrev rest : List Step
  rest = steps_of_body p (plain_lives (drop (i + 1) items)) vs q

  told : steps_of_body p (plain_lives (drop i items)) vs q ≡ first ++ rest
  told =
      ap (λ b. steps_of_body p b vs q) (next_live items i x lt is)
      ∙ ap (λ ws. steps_of_stmt p (plain_live x) ws q ++ rest) (sym same)

  parts_fit : All (StepFits p) first × All (StepFits p) rest
  parts_fit = all_parts (StepFits p) first rest (subst (All (StepFits p)) told at.fits)

  parts_within : (is_stmt_within p.modulus (plain_live x) depth ≡ true)
      × (is_body_within p.modulus (plain_lives (drop (i + 1) items)) depth ≡ true)
  parts_within =
      both_true (is_stmt_within p.modulus (plain_live x) depth) _
      (sym (ap (λ b. is_body_within p.modulus b depth) (next_live items i x lt is)) ∙ at.within)

  pub item_within : is_stmt_within p.modulus (plain_live x) depth ≡ true
  item_within = parts_within.0

  pub item_fits : All (StepFits p) (steps_of_stmt p (plain_live x) us q)
  item_fits = parts_fit.0

  pub item_lost : false ≡ know p first m → false ≡ know p (steps_of_body p (plain_lives items) vs q) m0
  item_lost =
      led_lost p (steps_of_body p (plain_lives items) vs q) (steps_of_body p (plain_lives (drop i items)) vs q)
      first rest
      m m0 told at.led

  pub item_goes_on : (m1 : Marks) → true ≡ know p first m → m1 ≡ lead p first m →
      IsInBody p q (plain_lives items) (plain_lives (drop (i + 1) items)) vs depth m1 m0
  item_goes_on m1 found after =
      record {
        led = led_on p (steps_of_body p (plain_lives items) vs q)
            (steps_of_body p (plain_lives (drop i items)) vs q) first
            rest m m0 told at.led m1 found after;
        fits = parts_fit.1;
        within = parts_within.1;
      }

-- the steps of the turns of a loop from one on
abbrev pub turns_left : PlainProgram → ℕ → PlainBody → List ℕ → ℕ → ℕ → List Step
turns_left p q body vs turn end = flat_map (λ i. steps_of_body p body (vs ++ i ∷ []) q)
    (range_with_len turn (end - turn))

-- a walk over a loop, of which these turns are left
pub record IsInLoop (p : PlainProgram) (q : ℕ) (s : PlainStmt) (body : PlainBody) (vs : List ℕ) (turn end : ℕ)
    (m m0 : Marks) : Type 0 where
  pub led : IsLed p (steps_of_stmt p s vs q) (turns_left p q body vs turn end) m m0
  pub fits : All (StepFits p) (turns_left p q body vs turn end)

-- a turn of a loop over these items, with the values of the open loops
module _ (p : PlainProgram) (q : ℕ) (s : PlainStmt) (body : PlainBody) (items : List Live) (vs us : List ℕ)
    (turn end : ℕ) (m m0 : Marks) (same : plain_lives items ≡ body) (opened : us ≡ vs ++ turn ∷ []) (lt : turn < end)
    (at : IsInLoop p q s body vs turn end m m0) where
  abbrev of_turn : List Step
  of_turn = steps_of_body p (plain_lives items) us q

  told_turns : turns_left p q body vs turn end ≡ of_turn ++ turns_left p q body vs (turn + 1) end
  told_turns =
      let left : end - turn ≡ suc (end - (turn + 1)) = omega arith in
      ap (λ n. flat_map (λ i. steps_of_body p body (vs ++ i ∷ []) q) (range_with_len turn n)) left
      ∙ (ap (λ b. steps_of_body p b (vs ++ turn ∷ []) q ++ turns_left p q body vs (turn + 1) end) (sym same)
      ∙ ap (λ ws. steps_of_body p (plain_lives items) ws q ++ turns_left p q body vs (turn + 1) end) (sym opened))

  turns_fit : All (StepFits p) of_turn × All (StepFits p) (turns_left p q body vs (turn + 1) end)
  turns_fit =
      all_parts (StepFits p) of_turn (turns_left p q body vs (turn + 1) end)
      (subst (All (StepFits p)) told_turns at.fits)

  pub turn_fits : All (StepFits p) (steps_of_body p (plain_lives items) us q)
  turn_fits = turns_fit.0

  pub turn_lost : false ≡ know p of_turn m → false ≡ know p (steps_of_stmt p s vs q) m0
  turn_lost =
      led_lost p (steps_of_stmt p s vs q) (turns_left p q body vs turn end) of_turn
      (turns_left p q body vs (turn + 1) end) m m0 told_turns at.led

  pub turn_goes_on : (m1 : Marks) → true ≡ know p of_turn m → m1 ≡ lead p of_turn m →
      IsInLoop p q s body vs (turn + 1) end m1 m0
  turn_goes_on m1 found after =
      record {
        led = led_on p (steps_of_stmt p s vs q) (turns_left p q body vs turn end) of_turn
            (turns_left p q body vs (turn + 1) end) m m0 told_turns at.led m1 found after;
        fits = turns_fit.1;
      }

-- the values of the open loops, with a turn of the loop that these statements stand in
pub opened : (m depth count turn : ℕ) (body : PlainBody) (s : PlainStmt) (values before : List ℕ) →
    s ≡ Loop count body → is_stmt_within m s depth ≡ true → length values ≡ 64 → take depth values ≡ take depth
    before →
    take (depth + 1) (slice_set values depth turn) ≡ take depth before ++ turn ∷ []
opened m depth count turn body s values before is within long same =
    let inner = within_loop m depth count body s is within in
    open_now values before depth turn (omega (arith, long, inner.0)) same

-- an operation alone
pub op_fits : (p : PlainProgram) (q : ℕ) (op : PlainOp) (s : PlainStmt) (vs : List ℕ) → s ≡ Do op →
    All (StepFits p) (steps_of_stmt p s vs q) → StepFits p (step_of p op vs q)
op_fits p q op s vs e fits =
    All-head (StepFits p) (step_of p op vs q) [] (subst (λ z. All (StepFits p) (steps_of_stmt p z vs q)) e fits)
