-- Fronts of texts in which each closing parenthesis ends a part that is not refused.
use Rattle.std.proofs.Common.{◌≡◌, ℕ, ◌+◌, inl, inr, List, [], ◌∷◌, ◌++◌, length, codes, decimal, None, refl, sym, ap}
use Rattle.std.proofs.Common.{subst}
use Rattle.std.proofs.Common.{◌∙◌, append_assoc, arith}
use Rattle.std.proofs.lemmas.Bool.{cases_lt}
use Rattle.std.proofs.lemmas.List.{append-nil, length-append}
use Rattle.grammar.proofs.Tokens.{split_twice}
use Rattle.spl_ast.specs.Formula.{Formula, Identity, Fourier, Hadamard, Twiddles, Diagonal, Stride, Permutation}
use Rattle.spl_ast.specs.Formula.{GoodThomasIn, GoodThomasOut, Product, TensorLeft, TensorRight, DirectSum, Pending}
use Rattle.spl_text.specs.Answer.{opened, closed, EndsWith, IsBeforePart}
use Rattle.spl_text.specs.Fault.{refusal}
use Rattle.spl_text.specs.Spelling.{spelling, values_text, spells, IsFactor, IsValue, HasSpelling}
use Rattle.spl_text.proofs.Parentheses.{closed_both, Opens, size_balanced, decimal_balanced, values_balanced}
use Rattle.spl_text.proofs.Parentheses.{size_opens_none, decimal_opens_none, values_open_none}

-- the text ends with a part that is not refused
pub record EndsWell (text : List ℕ) : Type 0 where
  pub before : List ℕ
  pub part : List ℕ
  pub value : Formula
  pub whole : text ≡ before ++ part
  pub behind : IsBeforePart before
  pub spelt : spells part value
  pub fits : refusal value ≡ None

abbrev pub IsFitted : List ℕ → Type 0
IsFitted text = (front rest : List ℕ) → text ≡ front ++ (41 ∷ rest) → EndsWell (front ++ codes ")")

-- ---- behind one another

more_ends : (b : ℕ) (xs ys : List ℕ) → EndsWith b ys → EndsWith b (xs ++ ys)
more_ends b xs ys h = (xs ++ h.0, ap (λ z. xs ++ z) h.1 ∙ sym (append_assoc xs h.0 (b ∷ [])))

pub part_behind : (xs ys : List ℕ) → IsBeforePart xs → IsBeforePart ys → IsBeforePart (xs ++ ys)
part_behind xs ys first (inl none) = subst IsBeforePart (sym (ap (λ z. xs ++ z) none ∙ append-nil xs)) first
part_behind xs ys first (inr (inl opening)) = inr (inl (more_ends 40 xs ys opening))
part_behind xs ys first (inr (inr comma)) = inr (inr (more_ends 44 xs ys comma))

ends_behind : (xs ys : List ℕ) → IsBeforePart xs → EndsWell ys → EndsWell (xs ++ ys)
ends_behind xs ys b e = record {
  before = xs ++ e.before;
  part = e.part;
  value = e.value;
  whole = ap (λ z. xs ++ z) e.whole ∙ sym (append_assoc xs e.before e.part);
  behind = part_behind xs e.before b e.behind;
  spelt = e.spelt;
  fits = e.fits;
}

pub fitted_then : (xs ys : List ℕ) → IsFitted xs →
    ((m rest : List ℕ) → ys ≡ m ++ (41 ∷ rest) → EndsWell ((xs ++ m) ++ codes ")"))
    → IsFitted (xs ++ ys)
fitted_then xs ys first second front rest e =
    elim (cases_lt (length ys) (length (41 ∷ rest))) [
      | inl less ↦
          let whole : xs ++ ys ≡ (front ++ codes ")") ++ rest = e ∙ sym (append_assoc front (codes ")") rest) in
          let m = split_twice xs ys (front ++ codes ")") rest whole (omega arith) in
          first front m.0 (m.1 ∙ append_assoc front (codes ")") m.0)
      | inr more ↦
          let m = split_twice front (41 ∷ rest) xs ys (sym e) more in
          subst (λ z. EndsWell (z ++ codes ")")) (sym m.1) (second m.0 rest m.2)
    ]

pub fitted_both : (xs ys : List ℕ) → IsFitted xs → IsBeforePart xs → IsFitted ys → IsFitted (xs ++ ys)
fitted_both xs ys first b second =
    fitted_then xs ys first (λ m rest e. subst EndsWell (sym (append_assoc xs m (codes ")")))
    (ends_behind xs (m ++ codes ")") b (second m rest e)))

pub closes_none : (xs front rest : List ℕ) → closed xs ≡ 0 → xs ≡ front ++ (41 ∷ rest) → ⊥
closes_none xs front rest none e = omega (
  arith,
  none,
  ap closed e,
  closed_both front (41 ∷ rest),
  closed_both
      (41 ∷ []) rest,
)

pub fitted_flat : (xs : List ℕ) → closed xs ≡ 0 → IsFitted xs
fitted_flat xs none front rest e = absurd (closes_none xs front rest none e)

pub fitted_more : (xs ys : List ℕ) → IsFitted xs → closed ys ≡ 0 → IsFitted (xs ++ ys)
fitted_more xs ys first none = fitted_then xs ys first (λ m rest e. absurd (closes_none ys m rest none e))

pub fitted_front : (xs ys text : List ℕ) → text ≡ xs ++ ys → IsFitted text → IsFitted xs
fitted_front xs ys text whole h front rest e = h front (rest ++ ys)
    (whole ∙ ap (λ z. z ++ ys) e ∙ append_assoc front (41 ∷ rest) ys)

-- ---- of a formula no part of which is refused

-- nor is one inside it
abbrev pub PartsFit : Formula → Type 0
PartsFit (Product a b) = ((refusal a ≡ None) × PartsFit a) × ((refusal b ≡ None) × PartsFit b)
PartsFit (TensorLeft a k) = (refusal a ≡ None) × PartsFit a
PartsFit (TensorRight k a) = (refusal a ≡ None) × PartsFit a
PartsFit (DirectSum a b) = ((refusal a ≡ None) × PartsFit a) × ((refusal b ≡ None) × PartsFit b)
PartsFit f = Unit {0}

abbrev pub Fits : Formula → Type 0
Fits f = (refusal f ≡ None) × PartsFit f

-- all of it but its end
pub record HasFront (text : List ℕ) : Type 0 where
  pub front : List ℕ
  pub whole : text ≡ front ++ codes ")"
  pub fitted : IsFitted front

pub with_end : (f : Formula) → HasSpelling f → refusal f ≡ None → HasFront (spelling f) → IsFitted (spelling f)
unfolding spells
with_end f h none front =
    subst IsFitted (sym front.whole)
    (fitted_then front.front (codes ")") front.fitted (λ m rest e.
    let long : length m + length (41 ∷ rest) ≡ 1 = sym (length-append m (41 ∷ rest)) ∙ sym (ap length e) in
    subst EndsWell (front.whole ∙ ap (λ z. z ++ codes ")")
    (sym (append-nil front.front) ∙ ap (λ z. front.front ++ z) (sym (empty m (omega (arith, long))))))
    record {
      before = [];
      part = spelling f;
      value = f;
      whole = refl;
      behind = inl refl;
      spelt = (h, refl);
      fits =
          none;
    }))
  where
    empty : (xs : List ℕ) → length xs ≡ 0 → xs ≡ []
    empty [] h = refl
    empty (x ∷ xs) h = absurd (omega arith)

-- numbers in the parenthesis
of_numbers : (w numbers text : List ℕ) → closed w ≡ 0 → closed numbers ≡ 0 → text ≡ w ++ (numbers ++ codes ")") →
    HasFront text
of_numbers w numbers text none few e = record {
  front = w ++ numbers;
  whole = e ∙ sym (append_assoc w numbers (codes ")"));
  fitted = fitted_flat (w ++ numbers) (omega (arith, none, few, closed_both w numbers));
}

pub none_closed : (xs : List ℕ) → Opens 0 xs → opened xs ≡ 0 → closed xs ≡ 0
none_closed xs o none = omega (arith, o, none)

pub size_closes : (n : ℕ) → IsFactor n → closed (decimal n) ≡ 0
size_closes n h = none_closed (decimal n) (size_balanced n h) (size_opens_none n h)

pub value_closes : (w : ℕ) → IsValue w → closed (decimal w) ≡ 0
value_closes w h = none_closed (decimal w) (decimal_balanced w (omega (arith, h)))
    (decimal_opens_none w (omega (arith, h)))

pub two_closed : (a b : List ℕ) → closed a ≡ 0 → closed b ≡ 0 → closed (a ++ (codes "," ++ b)) ≡ 0
two_closed a b h g = omega (arith, h, g, closed_both a (codes "," ++ b), closed_both (codes ",") b)

-- two pieces and a comma, before the end
pub two : (a b : List ℕ) → a ++ (codes "," ++ (b ++ codes ")")) ≡ (a ++ (codes "," ++ b)) ++ codes ")"
two a b = sym (append_assoc a (codes "," ++ b) (codes ")"))

-- two pieces in the parenthesis
of_two : (w a b text : List ℕ) → closed w ≡ 0 → EndsWith 40 w → IsFitted a →
    ((front : List ℕ) → IsFitted front → EndsWith 44 front → IsFitted (front ++ b))
    → text ≡ w ++ (a ++ (codes "," ++ (b ++ codes ")"))) → HasFront text
of_two w a b text none opening first second e =
    let start : IsFitted (w ++ a) = fitted_both w a (fitted_flat w none) (inr (inl opening)) first in
    record {
      front = ((w ++ a) ++ codes ",") ++ b;
      whole = e ∙ sym (append_assoc w a (codes "," ++ (b ++ codes ")"))) ∙ sym
          (append_assoc (w ++ a) (codes ",") (b ++ codes ")"))
          ∙ sym (append_assoc ((w ++ a) ++ codes ",") b (codes ")"));
      fitted = second ((w ++ a) ++ codes ",") (fitted_more (w ++ a) (codes ",") start refl) (w ++ a, refl);
    }

with_part : (b : List ℕ) → IsFitted b → (front : List ℕ) → IsFitted front → EndsWith 44 front → IsFitted (front ++ b)
with_part b h front g comma = fitted_both front b g (inr (inr comma)) h

with_number : (b : List ℕ) → closed b ≡ 0 → (front : List ℕ) → IsFitted front → EndsWith 44 front → IsFitted
    (front ++ b)
with_number b h front g comma = fitted_more front b g h

pub has_front : (f : Formula) → HasSpelling f → PartsFit f → HasFront (spelling f)
has_front (Identity n) h p = of_numbers (codes "I(") (decimal n) _ refl (size_closes n h) refl
has_front (Fourier n w) h p =
    of_numbers (codes "DFT(") (decimal n ++ (codes "," ++ decimal w)) _ refl
    (two_closed (decimal n) (decimal w) (size_closes n h.0) (value_closes w h.1))
    (ap (λ z. codes "DFT(" ++ z) (two (decimal n) (decimal w)))
has_front (Hadamard n) h p = of_numbers (codes "WHT(") (decimal n) _ refl (size_closes n h) refl
has_front (Twiddles n s w) h p =
    of_numbers (codes "T(") (decimal n ++ (codes "," ++ (decimal s ++ (codes "," ++ decimal w)))) _ refl
    (two_closed (decimal n) (decimal s ++ (codes "," ++ decimal w)) (size_closes n h.0)
    (two_closed (decimal s) (decimal w) (size_closes s h.1) (value_closes w h.2)))
    (ap (λ z. codes "T(" ++ z) (ap (λ z. decimal n ++ (codes "," ++ z)) (two (decimal s) (decimal w)) ∙ two
    (decimal n) (decimal s ++ (codes "," ++ decimal w))))
has_front (Diagonal c) h p =
    of_numbers (codes "DIAG(") (values_text c) _ refl
    (none_closed (values_text c) (values_balanced c h) (values_open_none c h)) refl
has_front (Stride n r) h p =
    of_numbers (codes "L(") (decimal n ++ (codes "," ++ decimal r)) _ refl
    (two_closed (decimal n) (decimal r) (size_closes n h.0) (size_closes r h.1))
    (ap (λ z. codes "L(" ++ z) (two (decimal n) (decimal r)))
has_front (Permutation k) h p =
    of_numbers (codes "PERM(") (values_text k) _ refl
    (none_closed (values_text k) (values_balanced k h) (values_open_none k h)) refl
has_front (GoodThomasIn r s) h p =
    of_numbers (codes "GTIN(") (decimal r ++ (codes "," ++ decimal s)) _ refl
    (two_closed (decimal r) (decimal s) (size_closes r h.0) (size_closes s h.1))
    (ap (λ z. codes "GTIN(" ++ z) (two (decimal r) (decimal s)))
has_front (GoodThomasOut r s) h p =
    of_numbers (codes "GTOUT(") (decimal r ++ (codes "," ++ decimal s)) _ refl
    (two_closed (decimal r) (decimal s) (size_closes r h.0) (size_closes s h.1))
    (ap (λ z. codes "GTOUT(" ++ z) (two (decimal r) (decimal s)))
has_front (Product a b) h p =
    of_two (codes "TIMES(") (spelling a) (spelling b) _ refl (codes "TIMES", refl)
    (with_end a h.0 p.0.0 (has_front a h.0 p.0.1))
    (with_part (spelling b) (with_end b h.1 p.1.0 (has_front b h.1 p.1.1))) refl
has_front (TensorLeft a k) h p =
    of_two (codes "LEFT(") (spelling a) (decimal k) _ refl (codes "LEFT", refl)
    (with_end a h.0 p.0 (has_front a h.0 p.1))
    (with_number (decimal k) (size_closes k h.1)) refl
has_front (TensorRight k a) h p =
    of_two (codes "RIGHT(") (decimal k) (spelling a) _ refl (codes "RIGHT", refl)
    (fitted_flat (decimal k) (size_closes k h.0))
    (with_part (spelling a) (with_end a h.1 p.0 (has_front a h.1 p.1))) refl
has_front (DirectSum a b) h p =
    of_two (codes "SUM(") (spelling a) (spelling b) _ refl (codes "SUM", refl)
    (with_end a h.0 p.0.0 (has_front a h.0 p.0.1))
    (with_part (spelling b) (with_end b h.1 p.1.0 (has_front b h.1 p.1.1))) refl
has_front (Pending a) h p = absurd h

pub spelling_fitted : (f : Formula) → HasSpelling f → Fits f → IsFitted (spelling f)
spelling_fitted f h p = with_end f h p.0 (has_front f h p.1)
