-- Runs by events and their lines, taken apart.
use Rattle.std.proofs.Common.{◌≡◌, ℕ, suc, ◌+◌, List, [], ◌∷◌, ◌++◌, length, sym, refl, ap, ◌∙◌, subst, arith}
use Rattle.std.proofs.Common.{append_assoc, append-nil}
use Rattle.icode.specs.declared.event.Event.{Event}
use Rattle.icode.specs.Machine.{Code}
use Rattle.runs.specs.Lines.{step_line, step_lines, trace_of}
use Rattle.runs.specs.Standing.{Standing, completion_at, stepped}
use Rattle.runs.specs.Walks.{walked}

module _ (code : Code) where
  pub walked-append : (xs ys : List Event) (s : Standing) → walked code s (xs ++ ys) ≡ walked code (walked code s xs) ys
  walked-append [] ys s = refl
  walked-append (x ∷ xs) ys s = walked-append xs ys (stepped code s x)

  pub lines-append : (xs ys : List Event) (s : Standing) (number : ℕ) →
      step_lines code s number (xs ++ ys) ≡ step_lines code s number xs ++ step_lines code (walked code s xs)
      (number + length xs) ys
  lines-append [] ys s number = let e : number ≡ number + 0 = omega arith in ap (λ n. step_lines code s n ys) e
  lines-append (x ∷ xs) ys s number =
      let line : List ℕ = step_line code s number x in
      let next : Standing = stepped code s x in
      let e : number + 1 + length xs ≡ number + suc (length xs) = omega arith in
      ap (λ l. line ++ l) (lines-append xs ys next (number + 1) ∙ ap (λ n. step_lines code next (number + 1) xs ++ step_lines code (walked code next xs) n ys) e)
      ∙ sym (append_assoc line (step_lines code next (number + 1) xs) (step_lines code (walked code next xs) (number + suc (length xs)) ys))

  -- the lines of the events, and then those of the events that complete them
  pub trace_parts : (s : Standing) (events : List Event) → trace_of code s events ≡ step_lines code s 0 events
      ++ step_lines code (walked code s events) (length events) (completion_at code (walked code s events))
  trace_parts s events =
      let last : Standing = walked code s events in
      let e : 0 + length events ≡ length events = omega arith in
      lines-append events (completion_at code last) s 0 ∙ ap (λ n. step_lines code s 0 events ++ step_lines code last n (completion_at code last)) e

-- the lines of a completion, of a machine that is the same
pub same_rest : (P : List ℕ → Type 0) (own code : Code) (t s : Standing) (n m : ℕ) → own ≡ code → t ≡ s → n ≡ m →
    P (step_lines own t n (completion_at own t)) → P (step_lines code s m (completion_at code s))
same_rest P own code t s n m e f h p =
    subst (λ (k : Code). P (step_lines k s m (completion_at k s))) e
    (subst (λ (u : Standing). P (step_lines own u m (completion_at own u))) f (subst (λ i. P (step_lines own t i (completion_at own t))) h p))

-- the line of one event, on a machine of the same code
pub step_alone : (P : List ℕ → Type 0) (own code : Code) (s : Standing) (number : ℕ) (event : Event) → own ≡ code →
    P (step_line own s number event) → P (step_lines code s number (event ∷ []))
step_alone P own code s number event e p =
    subst P (sym (append-nil (step_line code s number event))) (subst (λ (k : Code). P (step_line k s number event)) e p)
