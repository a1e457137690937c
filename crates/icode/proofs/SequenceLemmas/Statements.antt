-- The actions of statements in a row, and of a loop.
use Rattle.std.proofs.Common.{◌≡◌, ℕ, zero, suc, ◌+◌, List, [], ◌∷◌, ◌++◌, flat_map, refl, sym, ap, ap₂}
use Rattle.std.proofs.Common.{◌∙◌, arith, append-nil, append_assoc}
use Rattle.std.specs.List.{range_with_len}
use Rattle.std.proofs.lemmas.List.Concat.{flat_map-append}
use Rattle.icode.specs.declared.program.Program.{Program}
use Rattle.icode.specs.declared.program.Stmt.{Stmt}
use Rattle.icode.specs.Actions.{Step, actions_of}
use Rattle.icode.specs.Program.{stmt_steps, body_steps}
use Rattle.icode.specs.Sequences.Nests.{bodies}

actions_of-append : (xs ys : List Step) → actions_of (xs ++ ys) ≡ actions_of xs ++ actions_of ys
actions_of-append [] ys = refl
actions_of-append (x ∷ xs) ys = ap (λ zs. x.action ∷ zs) (actions_of-append xs ys)

pub range-last : (a n : ℕ) → range_with_len a (suc n) ≡ range_with_len a n ++ (a + n) ∷ []
range-last a zero = let same : a ≡ a + 0 = omega arith in ap (λ k. k ∷ []) same
range-last a (suc n) =
    let same : a + 1 + n ≡ a + suc n = omega arith in
    ap (λ l. a ∷ l) (range-last (a + 1) n) ∙ ap (λ k. a ∷ (range_with_len (a + 1) n ++ k ∷ [])) same

module _ (p : Program) where
  steps-append : (xs ys : List Stmt) (vs : List ℕ) (q : ℕ) →
      body_steps p (xs ++ ys) vs q ≡ body_steps p xs vs q ++ body_steps p ys vs q
  steps-append [] ys vs q = refl
  steps-append (x ∷ xs) ys vs q =
      ap (λ zs. stmt_steps p x vs q ++ zs) (steps-append xs ys vs q) ∙ sym (append_assoc (stmt_steps p x vs q) (body_steps p xs vs q) (body_steps p ys vs q))
