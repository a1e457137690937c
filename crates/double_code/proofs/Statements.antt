-- The statements of a program on doubles are those of the program that it is made of, and so are its lists of actions.
use Rattle.std.proofs.Common.{◌≡◌, ℕ, zero, suc, ◌<◌, ◌≤◌, List, [], ◌∷◌, ◌++◌, map, flat_map, refl, sym, ap}
use Rattle.std.proofs.Common.{ap₂, ◌∙◌}
use Rattle.std.proofs.Common.{subst, arith, ⊎_elim}
use Rattle.std.specs.Prelude.{slice_index_or}
use Rattle.std.specs.List.{range_with_len}
use Rattle.std.proofs.lemmas.Bool.{cases_lt}
use Rattle.std.proofs.lemmas.List.{get_or_past, map-append}
use Rattle.std.proofs.lemmas.List.FromFn.{get_or-map-range_with_len, length-map-range_with_len}
use Rattle.icode.specs.declared.action.Action.{Action}
use Rattle.icode.specs.Actions.{Step, step_of, steps_of_stmt, steps_of_body, actions_of, plain_code}
use Rattle.icode.specs.Machine.{Code}
use Rattle.icode.specs.Plain.{PlainOp, PlainStmt, PlainBody, PlainProgram, Load}
use Rattle.icode.specs.Plain as plain
use Rattle.double_code.specs.DoubleMachine.{DoubleAction, double_acts, under, actions_under}
use Rattle.double_code.specs.DoubleProgram.{DoubleNote, DoubleBody, NoStmts, PlainDoubleProgram, double_action_of}
use Rattle.double_code.specs.DoubleProgram.{double_actions_of_stmt, double_actions_of_body, double_code}
use Rattle.double_code.specs.Doubled.{header_of, loosest, noted, doubled_stmt, doubled_body, doubled_phase, doubled}

-- ---- the actions on doubles are those of the operations

map-turns : {X Y : Type 0} (f : X → Y) (g : ℕ → List X) (h : ℕ → List Y) → ((i : ℕ) → map f (g i) ≡ h i) →
    (is : List ℕ) → map f (flat_map g is) ≡ flat_map h is
map-turns f g h each [] = refl
map-turns f g h each (i ∷ is) =
    map-append f (g i) (flat_map g is) ∙ ap₂ (λ xs ys. xs ++ ys) (each i) (map-turns f g h each is)

abbrev action_under : DoubleAction → Action
action_under f = f.action

abbrev step_action : Step → Action
step_action s = s.action

module _ (p : PlainProgram) (q : ℕ) where
  abbrev w : PlainDoubleProgram
  w = doubled p

  action_is : (note : DoubleNote) (op : PlainOp) (vs : List ℕ) →
      (double_action_of w note op vs q).action ≡ (step_of p op vs q).action
  action_is note (Load r array place) vs = refl
  action_is note _ vs = refl

  mutual
    pub stmt_acts : (stmt : PlainStmt) (bounds vs : List ℕ) →
        actions_under (double_actions_of_stmt w (doubled_stmt (header_of p) stmt bounds).stmt vs q)
        ≡ actions_of (steps_of_stmt p stmt vs q)
    stmt_acts (plain.Loop count body) bounds vs =
        let made = (doubled_body (header_of p) body (loosest (header_of p))).body in
        map-turns action_under (λ i. double_actions_of_body w made (vs ++ i ∷ []) q)
        (λ i. actions_of (steps_of_body p body (vs ++ i ∷ []) q))
        (λ i. body_acts body (loosest (header_of p)) (vs ++ i ∷ [])) (range_with_len 0 count)
        ∙ sym (map-turns step_action (λ i. steps_of_body p body (vs ++ i ∷ []) q)
        (λ i. actions_of (steps_of_body p body (vs ++ i ∷ []) q)) (λ i. refl) (range_with_len 0 count))
    stmt_acts (plain.Do op) bounds vs =
        ap (λ a. a ∷ []) (action_is (noted p.modulus p.lanes op bounds).note op vs)

    pub body_acts : (body : PlainBody) (bounds vs : List ℕ) →
        actions_under (double_actions_of_body w (doubled_body (header_of p) body bounds).body vs q)
        ≡ actions_of (steps_of_body p body vs q)
    body_acts plain.NoStmts bounds vs = refl
    body_acts (plain.AndStmts stmt rest) bounds vs =
        let first = doubled_stmt (header_of p) stmt bounds in
        let behind = doubled_body (header_of p) rest first.bounds in
        map-append action_under (double_actions_of_stmt w first.stmt vs q) (double_actions_of_body w behind.body vs q)
        ∙ ap₂ (λ xs ys. xs ++ ys) (stmt_acts stmt bounds vs) (body_acts rest first.bounds vs)
        ∙ sym (map-append step_action (steps_of_stmt p stmt vs q) (steps_of_body p rest vs q))

module _ (p : PlainProgram) where
  row_under : (body : PlainBody) (qs : List ℕ) →
      map actions_under (map (λ q. double_actions_of_body (doubled p) (doubled_phase (header_of p) body) [] q) qs)
      ≡ map (λ q. actions_of (steps_of_body p body [] q)) qs
  row_under body [] = refl
  row_under body (q ∷ qs) = ap₂ (λ x xs. x ∷ xs) (body_acts p q body (loosest (header_of p)) []) (row_under body qs)

  lists_under : (bodies : List PlainBody) (qs : List ℕ) →
      map (λ (lists : List (List DoubleAction)). map actions_under lists)
      (map (λ body. map (λ q. double_actions_of_body (doubled p) body [] q) qs)
      (map (doubled_phase (header_of p)) bodies))
      ≡ map (λ body. map (λ q. actions_of (steps_of_body p body [] q)) qs) bodies
  lists_under [] qs = refl
  lists_under (body ∷ bodies) qs = ap₂ (λ x xs. x ∷ xs) (row_under body qs) (lists_under bodies qs)

  pub code_under : under (double_code (doubled p)) ≡ plain_code p
  code_under =
      let made : List (List (List Action)) → Code = λ lists. record {
        size = p.size;
        modulus = p.modulus;
        procs = p.procs;
        line = p.line;
        lanes = p.lanes;
        regs = p.regs;
        lists = lists;
      } in
      ap made (lists_under p.phases (range_with_len 0 p.procs))

-- ---- the lists of a code: a row for each phase, with a list for each processor

module _ (w : PlainDoubleProgram) where
  abbrev row : DoubleBody → List (List DoubleAction)
  row body = map (λ q. double_actions_of_body w body [] q) (range_with_len 0 w.frame.procs)

  -- what a processor below their number does in a phase is what its body says
  acts_are : (phase q : ℕ) → q < w.frame.procs →
      double_acts (double_code w) phase q ≡ double_actions_of_body w (slice_index_or w.phases phase NoStmts) [] q
  acts_are phase q lt = at w.phases phase
    where
      at : (bodies : List DoubleBody) (phase : ℕ) → slice_index_or (slice_index_or (map row bodies) phase []) q []
          ≡ double_actions_of_body w (slice_index_or bodies phase NoStmts) [] q
      at [] phase = refl
      at (body ∷ bodies) zero =
          get_or-map-range_with_len (λ q. double_actions_of_body w body [] q) 0 w.frame.procs q q [] lt (omega arith)
      at (body ∷ bodies) (suc phase) = at bodies phase

  -- and the others do nothing
  pub none_past : (phase q : ℕ) → w.frame.procs ≤ q → double_acts (double_code w) phase q ≡ []
  none_past phase q ge = at w.phases phase
    where
      at : (bodies : List DoubleBody) (phase : ℕ) → slice_index_or (slice_index_or (map row bodies) phase []) q [] ≡ []
      at [] phase = refl
      at (body ∷ bodies) zero =
          let a = length-map-range_with_len (λ q. double_actions_of_body w body [] q) 0 w.frame.procs in
          get_or_past (row body) q [] (omega (arith, a, ge))
      at (body ∷ bodies) (suc phase) = at bodies phase

  -- what an empty list has and what the bodies have, all lists have
  pub lists_have : (P : List DoubleAction → Type 0) → P [] →
      ((phase q : ℕ) → q < w.frame.procs → P (double_actions_of_body w (slice_index_or w.phases phase NoStmts) [] q)) →
      (phase q : ℕ) → P (double_acts (double_code w) phase q)
  lists_have P none each phase q =
      ⊎_elim
      (λ (lt : q < w.frame.procs). subst P (sym (acts_are phase q lt)) (each phase q lt))
      (λ (ge : w.frame.procs ≤ q). subst P (sym (none_past phase q ge)) none)
      (cases_lt q w.frame.procs)
