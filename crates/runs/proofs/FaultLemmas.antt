-- What follows where a fault met a step.
use Rattle.std.proofs.Common.{◌≡◌, ℕ, ◌+◌, List, [], ◌∷◌, ◌++◌, length, Ok, Err, Result, arith, sym, ap, ap₂, ◌∙◌}
use Rattle.std.proofs.Common.{subst, append_assoc}
use Rattle.std.specs.Prelude.{OnErr}
use Rattle.std.specs.declared.option.Option.{Option}
use Rattle.std.specs.Io.KnownBytes.{Appends}
use Rattle.std.proofs.KnownBytes.{Appends-trans}
use Rattle.std.proofs.lemmas.List.{length-append}
use Rattle.io_edge.specs.Taken.{AppendsPrefix}
use Rattle.io_edge.proofs.TakenLemmas.{prefix_after, prefix_more}
use Rattle.icode.specs.declared.event.Event.{Event}
use Rattle.icode.specs.Machine.{Code}
use Rattle.runs.specs.Course.{CompletionActs, PassesThrough}
use Rattle.runs.specs.Faults.{FaultMet}
use Rattle.runs.specs.Lines.{step_lines}
use Rattle.runs.specs.Standing.{Standing, completion_at}
use Rattle.runs.specs.Walks.{completed, walked}
use Rattle.runs.proofs.Walks.{lines-append, walked-append}

pub on_err : {T E P Q : Type 0} (result : Result T E) → (P → Q) → OnErr result P → OnErr result Q
on_err (Ok v) f p = p
on_err (Err e) f p = f p

-- more steps would have followed those that are done
pub passes_more : {code : Code} {s : Standing} {xs : List Event} {t : Standing} → PassesThrough code s xs t →
    (ys : List Event) → PassesThrough code s (xs ++ ys) t
passes_more p ys =
    record {
      front = p.front;
      rest = p.rest ++ ys;
      whole = ap (λ l. l ++ ys) p.whole ∙ append_assoc p.front p.rest ys;
      after = p.after;
    }

module _ {code : Code} where
  module _ {s : Standing} {number : ℕ} {steps : List Event} {t : Standing} {a b : Option (List ℕ)}
      (m : FaultMet code s number steps t a b) where
    -- the output took a front of all lines
    pub met_prefix : AppendsPrefix a b (step_lines code s number steps)
    met_prefix =
        let u : Standing = walked code s m.front in
        let n : ℕ = number + length m.front in
        let parts = ap (step_lines code s number) m.whole ∙ (lines-append code m.front (m.met ∷ m.rest) s number ∙ ap (λ l. step_lines code s number m.front ++ l) (lines-append code (m.met ∷ []) m.rest u n)) in
        subst (AppendsPrefix a b) (sym parts)
        (prefix_after a m.before b (step_lines code s number m.front) _ m.written
        (prefix_more m.before b (step_lines code u n (m.met ∷ [])) (step_lines code (walked code u (m.met ∷ [])) (n + 1) m.rest) m.cut))

    -- the machine has done a front of the steps
    pub met_passes : PassesThrough code s steps t
    met_passes = record { front = m.front ++ m.met ∷ []; rest = m.rest; whole = m.whole ∙ sym (append_assoc m.front (m.met ∷ []) m.rest); after = m.after }

    -- more steps would have followed
    pub met_more : (others : List Event) → FaultMet code s number (steps ++ others) t a b
    met_more others =
        record {
          front = m.front;
          met = m.met;
          rest = m.rest ++ others;
          whole = ap (λ l. l ++ others) m.whole ∙ append_assoc m.front (m.met ∷ m.rest) others;
          after = m.after;
          before = m.before;
          written = m.written;
          cut = m.cut;
        }

  -- it met a step after others, whose lines are all written
  pub met_behind : (s : Standing) (xs ys : List Event) (t : Standing) (a b c : Option (List ℕ)) →
      Appends a b (step_lines code s 0 xs) → FaultMet code (walked code s xs) (length xs) ys t b c →
      FaultMet code s 0 (xs ++ ys) t a c
  met_behind s xs ys t a b c took m =
      let there : walked code (walked code s xs) m.front ≡ walked code s (xs ++ m.front) = sym (walked-append code xs m.front s) in
      let n : length xs + length m.front ≡ 0 + length (xs ++ m.front) = omega (arith, length-append xs m.front) in
      let e : 0 + length xs ≡ length xs = omega arith in
      let parts = lines-append code xs m.front s 0 ∙ ap (λ i. step_lines code s 0 xs ++ step_lines code (walked code s xs) i m.front) e in
      record {
        front = xs ++ m.front;
        met = m.met;
        rest = m.rest;
        whole = ap (λ l. xs ++ l) m.whole ∙ sym (append_assoc xs m.front (m.met ∷ m.rest));
        after = m.after ∙ (sym (walked-append code xs (m.front ++ m.met ∷ []) s) ∙ ap (walked code s) (sym (append_assoc xs m.front (m.met ∷ []))));
        before = m.before;
        written = subst (Appends a m.before) (sym parts) (Appends-trans a b m.before (step_lines code s 0 xs) (step_lines code (walked code s xs) (length xs) m.front) took m.written);
        cut = subst (AppendsPrefix m.before c) (ap₂ (λ (u : Standing) i. step_lines code u i (m.met ∷ [])) there n) m.cut;
      }

-- a machine that is the same goes on after the steps by those that complete them
module _ {own code : Code} (same : own ≡ code) {u : Standing} (s : Standing) (events : List Event)
    (e : u ≡ walked code s events) where
  pub passes_after : {t : Standing} → PassesThrough own u (completion_at own u) t →
      PassesThrough code s (completed code s events) t
  passes_after {t} p =
      let last : Standing = walked code s events in
      let here : PassesThrough code last (completion_at code last) t =
      subst (λ (v : Standing). PassesThrough code v (completion_at code v) t) e (subst (λ (k : Code). PassesThrough k u (completion_at k u) t) same p) in
      record {
        front = events ++ here.front;
        rest = here.rest;
        whole = ap (λ l. events ++ l) here.whole ∙ sym (append_assoc events here.front here.rest);
        after = here.after ∙ sym (walked-append code events here.front s);
      }

  pub met_after : {count : ℕ} {t : Standing} → count ≡ length events → (a b c : Option (List ℕ)) →
      Appends a b (step_lines code s 0 events) → FaultMet own u count (completion_at own u) t b c →
      FaultMet code s 0 (completed code s events) t a c
  met_after {count} {t} h a b c took m =
      met_behind s events (completion_at code (walked code s events)) t a b c took
      (subst (λ n. FaultMet code (walked code s events) n (completion_at code (walked code s events)) t b c) h
      (subst (λ (v : Standing). FaultMet code v count (completion_at code v) t b c) e
      (subst (λ (k : Code). FaultMet k u count (completion_at k u) t b c) same m)))

  pub acts_after : CompletionActs own u → CompletionActs code (walked code s events)
  acts_after p = subst (CompletionActs code) e (subst (λ (k : Code). CompletionActs k u) same p)
