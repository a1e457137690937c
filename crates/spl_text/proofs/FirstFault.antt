-- The reader's answer is the formula, or the fault that the text shows at the least place; and a text has one answer.
use Rattle.std.proofs.Common.{◌≡◌, ℕ, ◌+◌, ◌≤◌, inl, inr, List, [], ◌∷◌}
use Rattle.std.proofs.Common.{◌++◌, length, take, codes, Some, None, refl, sym, ap, subst, ◌∙◌, append_assoc, arith}
use Rattle.std.proofs.lemmas.Bool.{cases_lt}
use Rattle.std.proofs.lemmas.List.{append-nil, length-append, take_at}
use Rattle.grammar.specs.Grammar.{Begins, IsStuck}
use Rattle.grammar.proofs.Tokens.{split_twice}
use Rattle.spl_ast.specs.Formula.{Formula}
use Rattle.spl_text.specs.declared.reading.SplFault.{SplFault}
use Rattle.spl_text.specs.declared.reading.SplFault.TheVariants as faults
use Rattle.spl_text.specs.Answer.{IsShallow, HasParenthesis, HasMisfit, Shows, IsFineBefore, IsFirst}
use Rattle.spl_text.specs.Fault.{refusal}
use Rattle.spl_text.specs.Spelling.{spells, spells_line}
use Rattle.spl_text.proofs.Fitted.{IsFitted}
use Rattle.spl_text.proofs.Parentheses.{opened_both, closed_both}
use Rattle.spl_text.proofs.SameEnd.{same_end, part_ends}

-- ---- no fault before a place

-- a front of a text that is no longer than another one is a front of that
front_of : (xs ys us vs : List ℕ) → xs ++ ys ≡ us ++ vs → length us ≤ length xs → (m : List ℕ) × (xs ≡ us ++ m)
front_of xs ys us vs e le =
    let m = split_twice xs ys us vs e (omega (arith, le, ap length e, length-append xs ys, length-append us vs)) in
    (m.0, m.1)

-- with which a line begins, too
pub line_begins : (text : List ℕ) → Begins spells text → Begins spells_line text
line_begins text b = (
  b.0,
  b.1,
  record {
    front = text ++ b.0;
    rest = [];
    spelt = b.1;
    whole = sym (append-nil (text ++ b.0));
    begins = b.2;
    ends = record { front = []; rest = []; spelt = tt; whole = refl; begins = inl (refl, refl); ends = (refl, refl) };
  },
)

no_value : {A : Type 0} (x : A) → None ≡ Some x → ⊥
no_value x e = cc

module _ (text met after : List ℕ) (whole : text ≡ met ++ after) (viable : Begins spells_line met)
    (shallow : IsShallow 128 met)
    (fitted : IsFitted met) where
  no_stuck : (at : ℕ) → IsStuck spells_line text at → length met ≤ at
  no_stuck at h =
      let here : take (length met) text ≡ met = ap (take (length met)) whole ∙ take_at met after (length met) refl in
      h.place.longest (length met) (omega (arith, ap length whole, length-append met after))
      (subst (λ z. Begins spells_line z) (sym here) viable)

  no_parenthesis : (at : ℕ) → HasParenthesis text at → length met ≤ at
  no_parenthesis at h =
      elim (cases_lt at (length met)) [
        | inr le ↦ le
        | inl less ↦
            let split : met ++ after ≡ (h.before ++ 40 ∷ []) ++ h.after = sym whole ∙ h.whole ∙ sym
            (append_assoc h.before (40 ∷ []) h.after) in
            let m = front_of met after (h.before ++ 40 ∷ []) h.after split
            (omega (arith, less, h.place, length-append h.before (40 ∷ []))) in
            let few = shallow (h.before ++ 40 ∷ []) m.0 m.1 in
            absurd (omega (arith, few, h.opens, opened_both h.before (40 ∷ []), closed_both h.before (40 ∷ [])))
      ]

  no_misfit : (at first second place : ℕ) → HasMisfit text at first second place → length met ≤ place
  no_misfit at first second place h =
      elim (cases_lt place (length met)) [
        | inr le ↦ le
        | inl less ↦
            let split : met ++ after ≡ (h.before ++ h.part) ++ h.after = sym whole ∙ h.whole ∙ sym
            (append_assoc h.before h.part h.after) in
            let m = front_of met after (h.before ++ h.part) h.after split (omega (arith, less, h.ends)) in
            let end = part_ends h.part h.value h.spelt in
            let closing : h.before ++ h.part ≡ (h.before ++ end.0) ++ codes ")" =
            ap (λ z. h.before ++ z) end.1 ∙ sym (append_assoc h.before end.0 (codes ")")) in
            let w = fitted (h.before ++ end.0) m.0 (m.1 ∙ ap (λ z. z ++ m.0) closing ∙ append_assoc
            (h.before ++ end.0) (codes ")") m.0) in
            let same = same_end h.before h.part w.before w.part h.value w.value h.behind w.behind h.spelt w.spelt
            (closing ∙ w.whole) in
            absurd (no_value (first, second) (sym w.fits ∙ ap refusal (sym same.1) ∙ h.refused))
      ]

  pub fine_before : IsFineBefore text (length met)
  fine_before (faults.Syntax at) place h = subst (λ n. length met ≤ n) (sym h.1) (no_stuck at h.0)
  fine_before (faults.TooDeep at) place h = subst (λ n. length met ≤ n) (sym h.1) (no_parenthesis at h.0)
  fine_before (faults.Shape at first second) place h = no_misfit at first second place h
  fine_before faults.NoMemory place h = absurd h

-- a text that is fine as a whole shows no fault
pub faultless : (text : List ℕ) (f : Formula) → spells_line text f → IsShallow 128 text → IsFitted text →
    (fault : SplFault) (at : ℕ)
    → Shows text fault at → ⊥
faultless text f l shallow fitted fault at h = inside fault at h
    (fine_before text text [] (sym (append-nil text)) viable shallow fitted fault at h)
  where
    viable : Begins spells_line text
    viable = ([], f, subst (λ z. spells_line z f) (sym (append-nil text)) l)

    -- each fault but one is shown inside the text
    inside : (fault : SplFault) (at : ℕ) → Shows text fault at → length text ≤ at → ⊥
    inside (faults.Syntax place) at h le = h.0.nothing f l
    inside (faults.TooDeep place) at h le =
        let p = h.0 in omega (arith, le, h.1, p.place, ap length p.whole, length-append p.before (40 ∷ p.after))
    inside (faults.Shape place first second) at h le =
        omega (
          arith,
          le,
          h.ends,
          ap length h.whole,
          length-append h.before
              (h.part ++ h.after),
          length-append h.part h.after,
          length-append h.before h.part,
        )
    inside faults.NoMemory at h le = h

-- ---- one fault at a place

-- no longest front with which spelling goes on ends before one
not_stuck : (text : List ℕ) (at place : ℕ) (front rest : List ℕ) → IsStuck spells_line text at → place ≡ at → text
    ≡ front ++ rest →
    length front ≡ place + 1 → Begins spells front → ⊥
not_stuck text at place front rest h same whole long b =
    let here : take (length front) text ≡ front = ap (take (length front)) whole ∙ take_at front rest
    (length front) refl in
    let le = h.place.longest (length front) (omega (arith, ap length whole, length-append front rest))
    (subst (λ z. Begins spells_line z) (sym here) (line_begins front b)) in
    omega (arith, le, long, same)

-- fronts of one text that are as long are one
same_front : (xs ys us vs : List ℕ) → xs ++ ys ≡ us ++ vs → length xs ≡ length us → xs ≡ us
same_front xs ys us vs e long =
    sym (take_at xs ys (length xs) refl) ∙ ap (take (length xs)) e ∙ ap (λ n. take n (us ++ vs)) long ∙ take_at us vs
    (length us) refl

last_of : (xs ys : List ℕ) (a b : ℕ) → xs ++ a ∷ [] ≡ ys ++ b ∷ [] → a ≡ b
last_of [] [] a b e = cc
last_of [] (y ∷ ys) a b e = absurd (omega (arith, ap length e, length-append ys (b ∷ [])))
last_of (x ∷ xs) [] a b e = absurd (omega (arith, ap length e, length-append xs (a ∷ [])))
last_of (x ∷ xs) (y ∷ ys) a b e = let tails : xs ++ a ∷ [] ≡ ys ++ b ∷ [] = cc in last_of xs ys a b tails

-- an opening parenthesis ends no part
opens_or_ends : (text : List ℕ) (at first second place deep : ℕ) → HasMisfit text at first second place →
    HasParenthesis text deep →
    place ≡ deep → ⊥
opens_or_ends text at first second place deep h p same =
    let end = part_ends h.part h.value h.spelt in
    let split : (h.before ++ h.part) ++ h.after ≡ (p.before ++ 40 ∷ []) ++ p.after =
    append_assoc h.before h.part h.after ∙ sym h.whole ∙ p.whole ∙ sym (append_assoc p.before (40 ∷ []) p.after) in
    let one = same_front (h.before ++ h.part) h.after (p.before ++ 40 ∷ []) p.after split
    (omega (arith, same, h.ends, p.place, length-append p.before (40 ∷ []))) in
    let bytes : 41 ≡ 40 =
    last_of (h.before ++ end.0) p.before 41 40 (append_assoc h.before end.0 (codes ")") ∙ ap (λ z. h.before ++ z)
    (sym end.1) ∙ one) in
    omega (arith, bytes)

one_misfit : (text : List ℕ) (a first second b other last place : ℕ) → HasMisfit text a first second place →
    HasMisfit text b other last place → faults.Shape a first second ≡ faults.Shape b other last
one_misfit text a first second b other last place h g =
    let split : (h.before ++ h.part) ++ h.after ≡ (g.before ++ g.part) ++ g.after =
    append_assoc h.before h.part h.after ∙ sym h.whole ∙ g.whole ∙ sym (append_assoc g.before g.part g.after) in
    let one = same_front (h.before ++ h.part) h.after (g.before ++ g.part) g.after split
    (omega (arith, h.ends, g.ends)) in
    let same = same_end h.before h.part g.before g.part h.value g.value h.behind g.behind h.spelt g.spelt one in
    let places : a ≡ b = sym h.starts ∙ ap length same.0 ∙ g.starts in
    let numbers : (first, second) ≡ (other, last) = same_some (first, second) (other, last)
    (sym h.refused ∙ ap refusal same.1 ∙ g.refused) in
    ap (λ (n : ℕ). faults.Shape n first second) places ∙ ap (λ (p : ℕ × ℕ). faults.Shape b p.0 p.1) numbers
  where
    same_some : (p q : ℕ × ℕ) → Some p ≡ Some q → p ≡ q
    same_some p q e = cc

stuck_or_deep : (text : List ℕ) (a b place : ℕ) → IsStuck spells_line text a → place ≡ a → HasParenthesis text b →
    place ≡ b → ⊥
stuck_or_deep text a b place h same p other =
    not_stuck text a place (p.before ++ 40 ∷ []) p.after h same
    (p.whole ∙ sym (append_assoc p.before (40 ∷ []) p.after))
    (omega (arith, other, p.place, length-append p.before (40 ∷ []))) p.begins

stuck_or_misfit : (text : List ℕ) (a b first second place : ℕ) → IsStuck spells_line text a → place ≡ a →
    HasMisfit text b first second place → ⊥
stuck_or_misfit text a b first second place h same g =
    not_stuck text a place (g.before ++ g.part) g.after h same
    (g.whole ∙ sym (append_assoc g.before g.part g.after)) g.ends g.begins

one_at_place : (text : List ℕ) (a b : SplFault) (place : ℕ) → Shows text a place → Shows text b place → a ≡ b
one_at_place text (faults.Syntax a) (faults.Syntax b) place h g = ap faults.Syntax (sym h.1 ∙ g.1)
one_at_place text (faults.Syntax a) (faults.TooDeep b) place h g = absurd (stuck_or_deep text a b place h.0 h.1 g.0 g.1)
one_at_place text (faults.Syntax a) (faults.Shape b first second) place h g = absurd
    (stuck_or_misfit text a b first second place h.0 h.1 g)
one_at_place text (faults.TooDeep a) (faults.Syntax b) place h g = absurd (stuck_or_deep text b a place g.0 g.1 h.0 h.1)
one_at_place text (faults.TooDeep a) (faults.TooDeep b) place h g = ap faults.TooDeep (sym h.1 ∙ g.1)
one_at_place text (faults.TooDeep a) (faults.Shape b first second) place h g = absurd
    (opens_or_ends text b first second place a g h.0 h.1)
one_at_place text (faults.Shape a first second) (faults.Syntax b) place h g = absurd
    (stuck_or_misfit text b a first second place g.0 g.1 h)
one_at_place text (faults.Shape a first second) (faults.TooDeep b) place h g = absurd
    (opens_or_ends text a first second place b h g.0 g.1)
one_at_place text (faults.Shape a first second) (faults.Shape b other last) place h g =
    one_misfit text a first second b other last place h g
one_at_place text faults.NoMemory b place h g = absurd h
one_at_place text a faults.NoMemory place h g = absurd g

pub first_once : (text : List ℕ) (a b : SplFault) → IsFirst text a → IsFirst text b → a ≡ b
first_once text a b p q =
    let same : p.0 ≡ q.0 = omega (arith, p.2 b q.0 q.1, q.2 a p.0 p.1) in
    one_at_place text a b q.0 (subst (Shows text a) same p.1) q.1
