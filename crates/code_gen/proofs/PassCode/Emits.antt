-- Steps that are a list of actions, at places that are inside.
use Rattle.std.proofs.Common.{◌≡◌, ℕ, List, [], ◌∷◌, ◌++◌, refl, sym, ap, ◌∙◌, append_assoc, zero, suc, ◌+◌, ◌<◌, All}
use Rattle.std.proofs.Common.{flat_map, ap₂, arith, append-nil, subst}
use Rattle.std.specs.List.{range_with_len}
use Rattle.std.proofs.lemmas.List.Concat.{flat_map-append}
use Rattle.std.proofs.lemmas.List.Elements.{All-nil, All-cons, All-append}
use Rattle.icode.specs.Actions.{Step, steps_of_stmt, steps_of_body, actions_of}
use Rattle.icode.specs.Plain.{PlainBody, PlainProgram, NoStmts, AndStmts, PlainOp, Loop, Do}
use Rattle.code_gen.specs.PassCode.Statements.{followed_by, do_only, in_a_row, nested}
use Rattle.icode.specs.declared.action.Action.{Action}
use Rattle.icode.specs.Sequences.Nests.{bodies, nest, AreInRange}
use Rattle.icode.proofs.SequenceLemmas.Statements.{range-last}
use Rattle.code_gen.specs.PassCode.Conditions.{IsInside}

-- ---- the steps of statements in a row, and of loops

module _ (p : PlainProgram) where
  pub steps-followed : (xs ys : PlainBody) (vs : List ℕ) (q : ℕ) →
      steps_of_body p (followed_by xs ys) vs q ≡ steps_of_body p xs vs q ++ steps_of_body p ys vs q
  steps-followed NoStmts ys vs q = refl
  steps-followed (AndStmts x xs) ys vs q =
      ap (λ zs. steps_of_stmt p x vs q ++ zs) (steps-followed xs ys vs q)
      ∙ sym (append_assoc (steps_of_stmt p x vs q) (steps_of_body p xs vs q) (steps_of_body p ys vs q))

pub actions_of-append : (xs ys : List Step) → actions_of (xs ++ ys) ≡ actions_of xs ++ actions_of ys
actions_of-append [] ys = refl
actions_of-append (x ∷ xs) ys = ap (λ zs. x.action ∷ zs) (actions_of-append xs ys)

-- ---- steps that are a list of actions, at places that are inside

pub record Emits (steps : List Step) (actions : List Action) : Type 0 where
  pub acts : actions_of steps ≡ actions
  pub inside : All IsInside steps

pub emits-none : Emits [] []
emits-none = record { acts = refl; inside = All-nil IsInside }

pub emits-one : (s : Step) (a : Action) → s.action ≡ a → IsInside s → Emits (s ∷ []) (a ∷ [])
emits-one s a is within =
    record { acts = ap (λ (b : Action). b ∷ []) is; inside = All-cons IsInside s [] within (All-nil IsInside) }

pub emits-append : (xs ys : List Step) (before after : List Action) → Emits xs before → Emits ys after →
    Emits (xs ++ ys) (before ++ after)
emits-append xs ys before after first second =
    record {
      acts = actions_of-append xs ys ∙ ap₂ (λ (us vs : List Action). us ++ vs) first.acts second.acts;
      inside = All-append IsInside xs ys first.inside second.inside;
    }

pub emits-same : (xs ys : List Step) (before : List Action) → xs ≡ ys → Emits ys before → Emits xs before
emits-same xs ys before is h = subst (λ (zs : List Step). Emits zs before) (sym is) h

steps-last : (n : ℕ) (steps : ℕ → List Step) → flat_map steps (range_with_len 0 (suc n))
    ≡ flat_map steps (range_with_len 0 n) ++ steps n
steps-last n steps =
    let same : 0 + n ≡ n = omega arith in
    ap (flat_map steps) (range-last 0 n ∙ ap (λ k. range_with_len 0 n ++ k ∷ []) same)
    ∙ flat_map-append steps (range_with_len 0 n) (n ∷ [])
    ∙ ap (λ (zs : List Step). flat_map steps (range_with_len 0 n) ++ zs) (append-nil (steps n))

-- the bodies of a loop
pub emits-loop : (n : ℕ) (steps : ℕ → List Step) (acts : ℕ → List Action) →
    ((v : ℕ) → v < n → Emits (steps v) (acts v)) → Emits (flat_map steps (range_with_len 0 n)) (bodies n acts)
emits-loop zero steps acts h = emits-none
emits-loop (suc n) steps acts h =
    emits-same _ _ _ (steps-last n steps)
    (emits-append (flat_map steps (range_with_len 0 n)) (steps n) (bodies n acts) (acts n) (emits-loop n steps acts (λ v below. h v (omega arith))) (h n (omega arith)))

module _ (p : PlainProgram) (q : ℕ) where
  pub emits-followed : (xs ys : PlainBody) (vs : List ℕ) (before after : List Action) →
      Emits (steps_of_body p xs vs q) before → Emits (steps_of_body p ys vs q) after →
      Emits (steps_of_body p (followed_by xs ys) vs q) (before ++ after)
  emits-followed xs ys vs before after first second = emits-same _ _ _ (steps-followed p xs ys vs q) (emits-append _ _ before after first second)

  pub emits-in_a_row : (n : ℕ) (body : ℕ → PlainBody) (vs : List ℕ) (acts : ℕ → List Action) →
      ((k : ℕ) → k < n → Emits (steps_of_body p (body k) vs q) (acts k)) →
      Emits (steps_of_body p (in_a_row n body) vs q) (bodies n acts)
  emits-in_a_row zero body vs acts h = emits-none
  emits-in_a_row (suc n) body vs acts h =
      emits-followed (in_a_row n body) (body n) vs (bodies n acts) (acts n) (emits-in_a_row n body vs acts (λ k below. h k (omega arith))) (h n (omega arith))

  -- an operation, and what follows it
  pub emits-then : (op : PlainOp) (rest : PlainBody) (vs : List ℕ) (a : Action) (acts : List Action) →
      Emits (steps_of_body p (do_only op) vs q) (a ∷ []) → Emits (steps_of_body p rest vs q) acts →
      Emits (steps_of_body p (AndStmts (Do op) rest) vs q) (a ∷ acts)
  emits-then op rest vs a acts first second = emits-append (steps_of_body p (do_only op) vs q) (steps_of_body p rest vs q) (a ∷ []) acts first second

  -- one loop
  pub emits-looped : (n : ℕ) (body : PlainBody) (vs : List ℕ) (acts : ℕ → List Action) →
      ((v : ℕ) → v < n → Emits (steps_of_body p body (vs ++ v ∷ []) q) (acts v)) →
      Emits (steps_of_body p (AndStmts (Loop n body) NoStmts) vs q) (bodies n acts)
  emits-looped n body vs acts h =
      emits-same _ _ _ (append-nil (flat_map (λ v. steps_of_body p body (vs ++ v ∷ []) q) (range_with_len 0 n)))
      (emits-loop n (λ v. steps_of_body p body (vs ++ v ∷ []) q) acts h)

  -- loops in one another
  pub emits-nested : (counts : List ℕ) (body : PlainBody) (acts : List ℕ → List Action) (outer : List ℕ) →
      ((vs : List ℕ) → AreInRange counts vs → Emits (steps_of_body p body (outer ++ vs) q) (acts (outer ++ vs))) →
      Emits (steps_of_body p (nested counts body) outer q) (nest counts acts outer)
  emits-nested [] body acts outer h = subst (λ (vs : List ℕ). Emits (steps_of_body p body vs q) (acts vs)) (append-nil outer) (h [] tt)
  emits-nested (count ∷ counts) body acts outer h =
      emits-looped count (nested counts body) outer (λ v. nest counts acts (outer ++ v ∷ []))
      (λ v below.
      emits-nested counts body acts (outer ++ v ∷ [])
      (λ vs range. subst (λ (us : List ℕ). Emits (steps_of_body p body us q) (acts us)) (sym (append_assoc outer (v ∷ []) vs)) (h (v ∷ vs) (below, range))))
