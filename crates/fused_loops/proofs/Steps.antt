-- The steps of statements that go after others, or into their last loop.
use Rattle.std.proofs.Common.{◌≡◌, ℕ, List, [], ◌++◌, refl, sym, ap, ◌∙◌, append-nil, append_assoc}
use Rattle.icode.specs.Actions.{Step, steps_of_stmt, steps_of_body}
use Rattle.icode.specs.Plain.{PlainStmt, PlainBody, PlainProgram, Loop, NoStmts, AndStmts}
use Rattle.fused_loops.specs.Fused.{put_behind, with_body, in_last, fused_stmts}

-- the last statement is a loop of this number of rounds of this body
abbrev pub EndsIn : ℕ → PlainBody → PlainBody → Type 0
EndsIn count inside NoStmts = ⊥
EndsIn count inside (AndStmts stmt NoStmts) = stmt ≡ Loop count inside
EndsIn count inside (AndStmts stmt (AndStmts next rest)) = EndsIn count inside (AndStmts next rest)

ends-more : (count : ℕ) (inside : PlainBody) (stmt : PlainStmt) (body : PlainBody) → EndsIn count inside body →
    EndsIn count inside (AndStmts stmt body)
ends-more count inside stmt NoStmts h = absurd h
ends-more count inside stmt (AndStmts next rest) h = h

pub ends-put : (count : ℕ) (inside made : PlainBody) → EndsIn count inside (put_behind (Loop count inside) made)
ends-put count inside NoStmts = refl
ends-put count inside (AndStmts stmt rest) = ends-more count inside stmt (put_behind (Loop count inside) rest) (ends-put count inside rest)

pub ends-changed : (f : PlainBody → PlainBody) (count : ℕ) (inside made : PlainBody) → EndsIn count inside made →
    EndsIn count (f inside) (in_last f made)
ends-changed f count inside NoStmts h = absurd h
ends-changed f count inside (AndStmts stmt NoStmts) h = ap (with_body f) h
ends-changed f count inside (AndStmts stmt (AndStmts next rest)) h =
    ends-more count (f inside) stmt (in_last f (AndStmts next rest)) (ends-changed f count inside (AndStmts next rest) h)

module _ (p : PlainProgram) (q : ℕ) where
  pub put-steps : (stmt : PlainStmt) (body : PlainBody) (vs : List ℕ) →
      steps_of_body p (put_behind stmt body) vs q ≡ steps_of_body p body vs q ++ steps_of_stmt p stmt vs q
  put-steps stmt NoStmts vs = append-nil (steps_of_stmt p stmt vs q)
  put-steps stmt (AndStmts first rest) vs =
      ap (λ xs. steps_of_stmt p first vs q ++ xs) (put-steps stmt rest vs)
      ∙ sym (append_assoc (steps_of_stmt p first vs q) (steps_of_body p rest vs q) (steps_of_stmt p stmt vs q))

  -- all statements after others
  pub put-all : (body made : PlainBody) (vs : List ℕ) →
      steps_of_body p (fused_stmts 0 body made) vs q ≡ steps_of_body p made vs q ++ steps_of_body p body vs q
  put-all NoStmts made vs = sym (append-nil (steps_of_body p made vs q))
  put-all (AndStmts stmt rest) made vs =
      put-all rest (put_behind stmt made) vs
      ∙ ap (λ xs. xs ++ steps_of_body p rest vs q) (put-steps stmt made vs)
      ∙ append_assoc (steps_of_body p made vs q) (steps_of_stmt p stmt vs q) (steps_of_body p rest vs q)

  -- the steps before the last loop, and those of the loop, whatever is in it
  pub record Parted (count : ℕ) (inside made : PlainBody) (vs : List ℕ) : Type 0 where
    pub front : List Step
    pub now : steps_of_body p made vs q ≡ front ++ steps_of_stmt p (Loop count inside) vs q
    pub changed : (f : PlainBody → PlainBody) → steps_of_body p (in_last f made) vs q ≡ front
        ++ steps_of_stmt p (Loop count (f inside)) vs q

  pub parted_last : (count : ℕ) (inside made : PlainBody) (vs : List ℕ) → EndsIn count inside made →
      Parted count inside made vs
  parted_last count inside NoStmts vs h = absurd h
  parted_last count inside (AndStmts stmt NoStmts) vs h =
      record {
        front = [];
        now = append-nil (steps_of_stmt p stmt vs q) ∙ ap (λ s. steps_of_stmt p s vs q) h;
        changed = λ f. append-nil (steps_of_stmt p (with_body f stmt) vs q) ∙ ap (λ s. steps_of_stmt p (with_body f s) vs q) h;
      }
  parted_last count inside (AndStmts stmt (AndStmts next rest)) vs h =
      let more = parted_last count inside (AndStmts next rest) vs h in
      let first : List Step = steps_of_stmt p stmt vs q in
      record {
        front = first ++ more.front;
        now =
            ap (λ xs. first ++ xs) more.now
            ∙ sym (append_assoc first more.front (steps_of_stmt p (Loop count inside) vs q));
        changed = λ f.
            ap (λ xs. first ++ xs) (more.changed f)
            ∙ sym (append_assoc first more.front (steps_of_stmt p (Loop count (f inside)) vs q));
      }
