-- Steps of a machine whose lines are written one by one.
use Rattle.std.proofs.Common.{◌≡◌, ℕ, ◌+◌, List, [], ◌∷◌, ◌++◌, length, arith, sym, ap, ap₂, ◌∙◌, subst, refl}
use Rattle.std.proofs.Common.{append_assoc}
use Rattle.std.specs.declared.option.Option.{Option}
use Rattle.std.specs.Io.KnownBytes.{Appends}
use Rattle.std.proofs.KnownBytes.{Appends-nil, Appends-trans}
use Rattle.std.proofs.lemmas.List.{length-append}
use Rattle.io_edge.specs.Taken.{AppendsPrefix}
use Rattle.icode.specs.declared.event.Event.{Event}
use Rattle.icode.specs.Machine.{Code}
use Rattle.runs.specs.Faults.{FaultMet}
use Rattle.runs.specs.Lines.{step_line, step_lines}
use Rattle.runs.specs.Standing.{Standing, stepped}
use Rattle.runs.specs.Walks.{walked}
use Rattle.runs.proofs.Walks.{lines-append, step_alone, walked-append}

-- the steps before those that are left are done, and their lines are written
pub record Goes (code : Code) (before after : Option (List ℕ)) (first : Standing) (from : ℕ) (all : List Event) (s : Standing) (number : ℕ) (left : List Event) : Type 0 where
  pub past : List Event
  pub whole : all ≡ past ++ left
  pub here : s ≡ walked code first past
  pub count : number ≡ from + length past
  pub took : Appends before after (step_lines code first from past)

module _ {code : Code} {a : Option (List ℕ)} {first : Standing} {from : ℕ} {all : List Event} where
  pub goes_first : Goes code a a first from all first from all
  goes_first =
      let e : from ≡ from + 0 = omega arith in
      record { past = []; whole = refl; here = refl; count = e; took = Appends-nil a }

  module _ {b : Option (List ℕ)} {s : Standing} {number : ℕ} {left : List Event}
      (g : Goes code a b first from all s number left) where
    -- the next step, of a machine of the same code
    module _ {own : Code} (same : own ≡ code) {q : Event} {rest : List Event} (e : left ≡ q ∷ rest) {t : Standing}
        (does : t ≡ stepped own s q) (c : Option (List ℕ)) where
      there : t ≡ walked code first (g.past ++ q ∷ [])
      there =
          does ∙ (ap (λ (k : Code). stepped k s q) same
          ∙ (ap (λ (u : Standing). stepped code u q) g.here ∙ sym (walked-append code g.past (q ∷ []) first)))

      line : (P : List ℕ → Type 0) → P (step_line own s number q) →
          P (step_lines code (walked code first g.past) (from + length g.past) (q ∷ []))
      line P took =
          subst P (ap₂ (λ (u : Standing) n. step_lines code u n (q ∷ [])) g.here g.count)
          (step_alone P own code s number q same took)

      pub goes_on : Appends b c (step_line own s number q) → Goes code a c first from all t (number + 1) rest
      goes_on took =
          record {
            past = g.past ++ q ∷ [];
            whole = g.whole ∙ (ap (λ l. g.past ++ l) e ∙ sym (append_assoc g.past (q ∷ []) rest));
            here = there;
            count = omega (arith, g.count, length-append g.past (q ∷ []));
            took = subst (Appends a c) (sym (lines-append code g.past (q ∷ []) first from))
                (Appends-trans a b c (step_lines code first from g.past)
                (step_lines code (walked code first g.past) (from + length g.past) (q ∷ [])) g.took
                (line (Appends b c) took));
          }

      pub goes_met : AppendsPrefix b c (step_line own s number q) → FaultMet code first from all t a c
      goes_met took =
          record {
            front = g.past;
            met = q;
            rest = rest;
            whole = g.whole ∙ ap (λ l. g.past ++ l) e;
            after = there;
            before = b;
            written = g.took;
            cut = line (AppendsPrefix b c) took;
          }
