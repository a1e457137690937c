-- The operations of a program on words are those of the program that it is made of.
use Rattle.std.proofs.Common.{◌≡◌, ℕ, ◌≢◌, Bool, false, cond, List, [], ◌∷◌, map, ⊎_elim, nat_eq, refl, sym, ap, ap₂}
use Rattle.std.proofs.Common.{◌∙◌, subst, arith}
use Rattle.std.specs.List.{range_with_len}
use Rattle.std.proofs.lemmas.Bool.{cases_eq}
use Rattle.std.proofs.lemmas.Bool.Decides.{nat_tests}
use Rattle.icode.specs.declared.action.Action.{Action}
use Rattle.icode.specs.Actions.{step_of, steps_of_stmt, steps_of_body, actions_of, plain_code}
use Rattle.icode.specs.Machine.{Code, IsApart}
use Rattle.icode.specs.Plain.{PlainOp, PlainStmt, PlainBody, PlainProgram, Load, Store, Zero, Add, Sub, Neg, MulConst}
use Rattle.icode.specs.Plain.{MulTable, Tile}
use Rattle.icode.specs.Plain as plain
use Rattle.icode.proofs.End.{acts_past}
use Rattle.icode.proofs.Lists.{code_is}
use Rattle.word_code.specs.Bare.{bare_stmt, bare_body, bare, with_bodies}
use Rattle.word_code.specs.Needs.{needs}
use Rattle.word_code.specs.Quicken.{PlainLaziness, Header, header_of, loosest, loosened, quick_stmt, quick_body, quick_phase}
use Rattle.word_code.specs.Quicken.{quick_alone, quick_phases, quickened}
use Rattle.word_code.specs.WordMachine.{WordAction, under, actions_under}
use Rattle.word_code.specs.WordProgram.{Note, WordStmt, WordBody, PlainWordProgram}
use Rattle.word_code.specs.WordProgram.{word_action_of, word_actions_of_stmt, word_actions_of_body, word_code}
use Rattle.word_code.proofs.Alone.{apart_alone}
use Rattle.word_code.proofs.Leaves.{Leaf, act_at, step_at, leaves_of_stmt, leaves_of_body, stmt-acts, body-acts}
use Rattle.word_code.proofs.Leaves.{stmt-steps, body-steps}

-- Notes beside operations leave the operations

module _ (z : PlainLaziness) (h : Header) where
  mutual
    pub stmt_stays : (stmt : PlainStmt) (bounds : List ℕ) → bare_stmt (quick_stmt z h stmt bounds).stmt ≡ stmt
    stmt_stays (plain.Loop count body) bounds = ap (plain.Loop count) (body_stays body (loosest z h))
    stmt_stays (plain.Do op) bounds = refl

    body_stays : (body : PlainBody) (bounds : List ℕ) → bare_body (quick_body z h body bounds).body ≡ body
    body_stays plain.NoStmts bounds = refl
    body_stays (plain.AndStmts stmt rest) bounds =
        ap₂ plain.AndStmts (stmt_stays stmt bounds) (body_stays rest (quick_stmt z h stmt bounds).bounds)

  pub phases_stay : (phases : List PlainBody) → map bare_body (map (quick_phase z h) phases) ≡ phases
  phases_stay [] = refl
  phases_stay (body ∷ phases) = ap₂ (λ x xs. x ∷ xs) (body_stays body (loosest z h)) (phases_stay phases)

alone_stays : (z : PlainLaziness) (h : Header) (body : PlainBody) (bounds : List ℕ) →
    bare_body (quick_alone z h body bounds).body ≡ body
alone_stays z h plain.NoStmts bounds = refl
alone_stays z h (plain.AndStmts stmt rest) bounds =
    let y = loosened z (needs (plain.AndStmts stmt rest)) in
    ap₂ plain.AndStmts (stmt_stays y h stmt bounds) (alone_stays z h rest (quick_stmt y h stmt bounds).bounds)

-- what holds of the only phase of the only processor, and of phases that are all made alike, holds of all phases
pub phases_cases : (z : PlainLaziness) (h : Header) (procs : ℕ) (phases : List PlainBody) (P : List WordBody → Type 0) →
    ((body : PlainBody) → procs ≡ 1 → phases ≡ body ∷ [] → P ((quick_alone z h body (loosest z h)).body ∷ [])) →
    P (map (quick_phase z h) phases) → P (quick_phases z h procs phases)
phases_cases z h procs (body ∷ []) P alone evenly =
    ⊎_elim
    (λ (one : procs ≡ 1). subst (λ n. P (quick_phases z h n (body ∷ []))) (sym one) (alone body one refl))
    (λ (more : procs ≢ 1).
    let other : nat_eq procs 1 ≡ false = grind (arith, nat_tests) in
    let either : Bool → List WordBody = λ b. cond b (quick_alone z h body (loosest z h)).body
    (quick_phase z h body) ∷ [] in
    subst (λ b. P (either b)) (sym other) evenly)
    (cases_eq procs 1)
phases_cases z h procs _ P alone evenly = evenly

all_stay : (z : PlainLaziness) (h : Header) (procs : ℕ) (phases : List PlainBody) →
    map bare_body (quick_phases z h procs phases) ≡ phases
all_stay z h procs phases =
    phases_cases z h procs phases (λ bodies. map bare_body bodies ≡ phases)
    (λ body one is. ap (λ b. b ∷ []) (alone_stays z h body (loosest z h)) ∙ sym is) (phases_stay z h phases)

pub bare_quickened : (z : PlainLaziness) (p : PlainProgram) → bare (quickened z p) ≡ p
bare_quickened z p = ap (with_bodies p) (all_stay z (header_of p) p.procs p.phases)

-- The actions on words are those of the operations

action_is : (w : PlainWordProgram) (note : Note) (op : PlainOp) (vs : List ℕ) (q : ℕ) →
    (word_action_of w note op vs q).action ≡ (step_of (bare w) op vs q).action
action_is w note (Load r array place) vs q = refl
action_is w note _ vs q = refl

module _ (w : PlainWordProgram) where
  -- so are those of operations one after the other
  under_leaves : (q : ℕ) (leaves : List Leaf) →
      actions_under (map (act_at w q) leaves) ≡ actions_of (map (step_at (bare w) q) leaves)
  under_leaves q [] = refl
  under_leaves q (l ∷ leaves) = ap₂ (λ x xs. x ∷ xs) (action_is w l.note l.op l.values q) (under_leaves q leaves)

  pub stmt_acts : (stmt : WordStmt) (vs : List ℕ) (q : ℕ) →
      actions_under (word_actions_of_stmt w stmt vs q) ≡ actions_of (steps_of_stmt (bare w) (bare_stmt stmt) vs q)
  stmt_acts stmt vs q =
      ap actions_under (stmt-acts w q stmt vs) ∙ under_leaves q (leaves_of_stmt stmt vs)
      ∙ sym (ap actions_of (stmt-steps (bare w) q stmt vs))

  body_acts : (body : WordBody) (vs : List ℕ) (q : ℕ) →
      actions_under (word_actions_of_body w body vs q) ≡ actions_of (steps_of_body (bare w) (bare_body body) vs q)
  body_acts body vs q =
      ap actions_under (body-acts w q body vs) ∙ under_leaves q (leaves_of_body body vs)
      ∙ sym (ap actions_of (body-steps (bare w) q body vs))

  row_under : (body : WordBody) (qs : List ℕ) → map actions_under (map (λ q. word_actions_of_body w body [] q) qs)
      ≡ map (λ q. actions_of (steps_of_body (bare w) (bare_body body) [] q)) qs
  row_under body [] = refl
  row_under body (q ∷ qs) = ap₂ (λ x xs. x ∷ xs) (body_acts body [] q) (row_under body qs)

  lists_under : (bodies : List WordBody) (qs : List ℕ) →
      map (λ (lists : List (List WordAction)). map actions_under lists)
      (map (λ body. map (λ q. word_actions_of_body w body [] q) qs) bodies)
      ≡ map (λ body. map (λ q. actions_of (steps_of_body (bare w) body [] q)) qs) (map bare_body bodies)
  lists_under [] qs = refl
  lists_under (body ∷ bodies) qs = ap₂ (λ x xs. x ∷ xs) (row_under body qs) (lists_under bodies qs)

  pub code_under_is : under (word_code w) ≡ plain_code (bare w)
  code_under_is =
      let made : List (List (List Action)) → Code = λ lists. record { size = w.frame.size; modulus = w.frame.modulus; procs = w.frame.procs; line = w.frame.line; lanes = w.frame.lanes; regs = w.frame.regs; lists = lists } in
      ap made (lists_under w.phases (range_with_len 0 w.frame.procs))

-- A quickened program is apart where the program is

pub quickened_apart : (z : PlainLaziness) (p : PlainProgram) → ((phase : ℕ) → IsApart (plain_code p) phase) → (phase : ℕ) →
    IsApart (under (word_code (quickened z p))) phase
quickened_apart z p apart phase =
    subst (λ code. IsApart code phase) (sym (code_under_is (quickened z p) ∙ ap plain_code (bare_quickened z p))) (apart phase)

-- One processor shares no line with another

pub one_is_apart : (p : PlainProgram) → p.procs ≡ 1 → (phase : ℕ) → IsApart (plain_code p) phase
one_is_apart p one =
    apart_alone (plain_code p) (λ phase q past. acts_past (plain_code p) (code_is p) phase q (omega (arith, one, past)))
