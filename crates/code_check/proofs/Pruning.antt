-- Statements without those that hold no action do the same.
use Rattle.std.proofs.Common.{◌≡◌, ℕ, zero, suc, ◌+◌, ◌&&◌, true, List, [], ◌∷◌, ◌++◌, flat_map, length, refl, sym, ap}
use Rattle.std.proofs.Common.{ap₂, ◌∙◌}
use Rattle.std.specs.Prelude.{nat_lt}
use Rattle.std.specs.List.{range_with_len}
use Rattle.icode.specs.Actions.{Step, steps_of_stmt, steps_of_body}
use Rattle.icode.specs.Lengths.{len_of_body}
use Rattle.icode.specs.Limits.{is_small_positive, is_stmt_within, is_body_within}
use Rattle.icode.specs.Plain.{PlainStmt, PlainBody, PlainProgram, Loop, Do, NoStmts, AndStmts, body_of}
use Rattle.icode.proofs.Bools.{both_true}
use Rattle.icode.proofs.Lengths.{body_length}
use Rattle.code_check.specs.Concatenated.{concatenated}
use Rattle.code_check.specs.Live.{loop_before, pruned, pruned_before}

-- concatenated statements

pub concatenated-nil : (body : PlainBody) → concatenated body NoStmts ≡ body
concatenated-nil NoStmts = refl
concatenated-nil (AndStmts s body) = ap (AndStmts s) (concatenated-nil body)

pub concatenated_assoc : (a b c : PlainBody) → concatenated (concatenated a b) c ≡ concatenated a (concatenated b c)
concatenated_assoc NoStmts b c = refl
concatenated_assoc (AndStmts s a) b c = ap (AndStmts s) (concatenated_assoc a b c)

pub body_of-append : (xs ys : List PlainStmt) → body_of (xs ++ ys) ≡ concatenated (body_of xs) (body_of ys)
body_of-append [] ys = refl
body_of-append (x ∷ xs) ys = ap (AndStmts x) (body_of-append xs ys)

loop_alone : (count : ℕ) (body rest : PlainBody) → loop_before count body rest
    ≡ concatenated (loop_before count body NoStmts) rest
loop_alone count NoStmts rest = refl
loop_alone count (AndStmts s body) rest = refl

pub pruned_alone : (s : PlainStmt) (rest : PlainBody) → pruned_before s rest ≡ concatenated (pruned_before s NoStmts) rest
pruned_alone (Loop count body) rest = loop_alone count (pruned body) rest
pruned_alone (Do op) rest = refl

-- the same steps

same_turns : (f g : ℕ → List Step) → ((i : ℕ) → f i ≡ g i) → (n first : ℕ) →
    flat_map f (range_with_len first n) ≡ flat_map g (range_with_len first n)
same_turns f g h zero first = refl
same_turns f g h (suc n) first = ap₂ (λ xs ys. xs ++ ys) (h first) (same_turns f g h n (first + 1))

idle_turns : (f : ℕ → List Step) → ((i : ℕ) → f i ≡ []) → (n first : ℕ) → flat_map f (range_with_len first n) ≡ []
idle_turns f h zero first = refl
idle_turns f h (suc n) first = ap₂ (λ xs ys. xs ++ ys) (h first) (idle_turns f h n (first + 1))

module _ (p : PlainProgram) (q : ℕ) where
  loop_steps : (count : ℕ) (body kept rest : PlainBody) (vs : List ℕ) →
      ((us : List ℕ) → steps_of_body p kept us q ≡ steps_of_body p body us q) →
      steps_of_body p (loop_before count kept rest) vs q ≡ steps_of_stmt p (Loop count body) vs q
      ++ steps_of_body p rest vs q
  loop_steps count body NoStmts rest vs h =
      ap (λ xs. xs ++ steps_of_body p rest vs q) (sym (idle_turns (λ i. steps_of_body p body (vs ++ i ∷ []) q) (λ i. sym (h (vs ++ i ∷ []))) count 0))
  loop_steps count body (AndStmts s kept) rest vs h =
      ap (λ xs. xs ++ steps_of_body p rest vs q)
      (same_turns (λ i. steps_of_body p (AndStmts s kept) (vs ++ i ∷ []) q) (λ i. steps_of_body p body (vs ++ i ∷ []) q) (λ i. h (vs ++ i ∷ [])) count 0)

  mutual
    pub pruned_steps : (body : PlainBody) (vs : List ℕ) → steps_of_body p (pruned body) vs q ≡ steps_of_body p body vs q
    pruned_steps NoStmts vs = refl
    pruned_steps (AndStmts s rest) vs = pruned_before_steps s (pruned rest) vs ∙ ap (λ xs. steps_of_stmt p s vs q ++ xs) (pruned_steps rest vs)

    pruned_before_steps : (s : PlainStmt) (rest : PlainBody) (vs : List ℕ) →
        steps_of_body p (pruned_before s rest) vs q ≡ steps_of_stmt p s vs q ++ steps_of_body p rest vs q
    pruned_before_steps (Loop count body) rest vs = loop_steps count body (pruned body) rest vs (λ us. pruned_steps body us)
    pruned_before_steps (Do op) rest vs = refl

pub pruned_len : (p : PlainProgram) (body : PlainBody) → len_of_body (pruned body) ≡ len_of_body body
pruned_len p body = sym (body_length p (pruned body) [] 0) ∙ (ap length (pruned_steps p 0 body []) ∙ body_length p body [] 0)

-- within the limits still

loop_within : (m n count : ℕ) (body kept rest : PlainBody) → is_stmt_within m (Loop count body) n ≡ true →
    (is_body_within m body (n + 1) ≡ true → is_body_within m kept (n + 1) ≡ true) → is_body_within m rest n ≡ true →
    is_body_within m (loop_before count kept rest) n ≡ true
loop_within m n count body NoStmts rest h inner after = after
loop_within m n count body (AndStmts s kept) rest h inner after =
    let one = both_true (is_small_positive count) _ h in
    let two = both_true (nat_lt n 64) _ one.1 in
    ap₂ (λ a b. a && b) (ap₂ (λ a b. a && b) one.0 (ap₂ (λ a b. a && b) two.0 (inner two.1))) after

mutual
  pub pruned_within : (m n : ℕ) (body : PlainBody) → is_body_within m body n ≡ true →
      is_body_within m (pruned body) n ≡ true
  pruned_within m n NoStmts h = refl
  pruned_within m n (AndStmts s rest) h =
      let two = both_true (is_stmt_within m s n) _ h in pruned_before_within m n s (pruned rest) two.0 (pruned_within m n rest two.1)

  pruned_before_within : (m n : ℕ) (s : PlainStmt) (rest : PlainBody) → is_stmt_within m s n ≡ true →
      is_body_within m rest n ≡ true → is_body_within m (pruned_before s rest) n ≡ true
  pruned_before_within m n (Loop count body) rest h after =
      loop_within m n count body (pruned body) rest h (λ inner. pruned_within m (n + 1) body inner) after
  pruned_before_within m n (Do op) rest h after = ap₂ (λ a b. a && b) h after
