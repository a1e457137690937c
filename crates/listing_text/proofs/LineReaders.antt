-- What reading line by line says of a text.
use Rattle.std.proofs.Common.{◌≡◌, ℕ, zero, suc, ◌+◌, ◌-◌, ◌<◌, ◌≤◌, Bool, true, false, cond, eqb, List, [], ◌∷◌, ◌++◌}
use Rattle.std.proofs.Common.{Option, Some, None, Result, Ok, Err, refl, sym, ap, subst, ◌∙◌, append_assoc, arith}
use Rattle.std.proofs.lemmas.List.{append-nil}
use Rattle.std.proofs.lemmas.List.Sums.{sum_by-cons}
use Rattle.grammar.specs.Grammar.{Begins, first_lines, line_ends}
use Rattle.listing_text.specs.Lines.{is_open, IsLine, one_more, later, taken, valued, ended, read_lines, Judges}

-- Line ends, by cases
ends : List ℕ → ℕ
ends [] = 0
ends (b ∷ text) = cond (eqb b 10) (suc (ends text)) (ends text)

one_end : (k : Bool) (n : ℕ) → cond k 1 0 + n ≡ cond k (suc n) n
one_end true n = omega arith
one_end false n = omega arith

line_ends_are : (text : List ℕ) → line_ends text ≡ ends text
unfolding ends
line_ends_are [] = refl
line_ends_are (b ∷ text) = sum_by-cons (λ x. cond (eqb x 10) 1 0) b text ∙ ap (λ n. cond (eqb b 10) 1 0 + n) (line_ends_are text) ∙ one_end (eqb b 10) (ends text)

-- States that are good follow from good ones, and the text that led to a state is a front of some spelling
pub record IsLineReader {T A : Type 0} (IsGood : T → Type 0) (written : T → List ℕ) (step : T → List ℕ → Option T) (finish : T → Option A) (start : T) (spells : List ℕ → A → Type 0) : Type 0 where
  pub good : IsGood start
  pub empty : written start ≡ []
  pub keeps : (s : T) (l : List ℕ) (t : T) → IsGood s → step s l ≡ Some t → IsGood t × (written t ≡ written s ++ l)
  pub goes_on : (s : T) → IsGood s → Begins spells (written s)
  pub spelt : (s : T) (a : A) → IsGood s → finish s ≡ Some a → spells (written s) a
  pub complete : (text : List ℕ) (a : A) → spells text a → read_lines step finish start [] text ≡ Ok a

-- the front of a line, and a number of lines of the text after it
from_line : List ℕ → ℕ → List ℕ → List ℕ
from_line line zero text = []
from_line line (suc n) text = line ++ first_lines (suc n) text

from_line-nil : (n : ℕ) (text : List ℕ) → from_line [] n text ≡ first_lines n text
unfolding from_line
from_line-nil zero text = refl
from_line-nil (suc n) text = refl

more_ok : {A : Type 0} (r : Result A ℕ) (a : A) → one_more r ≡ Ok a → r ≡ Ok a
more_ok (Ok x) a e = e
more_ok (Err n) a e = absurd cc

more_err : {A : Type 0} (r : Result A ℕ) (n : ℕ) → one_more r ≡ Err n → (m : ℕ) × (r ≡ Err m) × (n ≡ suc m)
more_err (Ok x) n e = absurd cc
more_err (Err m) n e = (m, refl, (let same : n ≡ suc m = cc in same))

module _ {T A : Type 0} (IsGood : T → Type 0) (written : T → List ℕ) (step : T → List ℕ → Option T)
    (finish : T → Option A) (start : T) (spells : List ℕ → A → Type 0)
    (h : IsLineReader IsGood written step finish start spells) where
  all_spelt_end : (s : T) (line : List ℕ) (a : A) (found : Option A) → finish s ≡ found → IsGood s →
      ended line (valued found) ≡ Ok a → spells (written s ++ (line ++ [])) a
  all_spelt_end s [] a (Some x) f g e = subst (λ y. spells y a) (sym (append-nil (written s))) (h.spelt s a g (f ∙ (let same : x ≡ a = cc in ap (λ z. Some z) same)))
  all_spelt_end s [] a None f g e = absurd cc
  all_spelt_end s (b ∷ line) a found f g e = absurd cc

  -- What is spelt, where this is the rest of the text
  AllSpelt : List ℕ → Type 0
  AllSpelt text = (line : List ℕ) (s : T) (a : A) → IsGood s → read_lines step finish s line text ≡ Ok a → spells (written s ++ (line ++ text)) a

  spelt_taken : (b : ℕ) (text line : List ℕ) (s : T) (a : A) (next : Option T) → AllSpelt text →
      step s (line ++ b ∷ []) ≡ next → IsGood s
      → taken next (λ next. read_lines step finish next [] text) ≡ Ok a → spells (written s ++ (line ++ b ∷ text)) a
  unfolding AllSpelt
  spelt_taken b text line s a None again f g e = absurd cc
  spelt_taken b text line s a (Some t) again f g e =
      let kept = h.keeps s (line ++ b ∷ []) t g f in
      subst (λ y. spells y a) (ap (λ y. y ++ text) kept.1 ∙ append_assoc (written s) (line ++ b ∷ []) text ∙ ap (λ y. written s ++ y) (append_assoc line (b ∷ []) text))
      (again [] t a kept.0 (more_ok _ a e))

  spelt_cases : (b : ℕ) (text line : List ℕ) (s : T) (a : A) (k : Bool) → AllSpelt text → IsGood s
      → cond k (taken (step s (line ++ b ∷ [])) (λ next. read_lines step finish next [] text))
      (read_lines step finish s (line ++ b ∷ []) text) ≡ Ok a → spells (written s ++ (line ++ b ∷ text)) a
  unfolding AllSpelt
  spelt_cases b text line s a true again g e = spelt_taken b text line s a (step s (line ++ b ∷ [])) again refl g e
  spelt_cases b text line s a false again g e = subst (λ y. spells (written s ++ y) a) (append_assoc line (b ∷ []) text) (again (line ++ b ∷ []) s a g e)

  all_spelt : (text : List ℕ) → AllSpelt text
  unfolding AllSpelt read_lines
  all_spelt [] line s a g e = all_spelt_end s line a (finish s) refl g e
  all_spelt (b ∷ text) line s a g e = spelt_cases b text line s a (eqb b 10) (all_spelt text) g e

  -- A number of lines is read, and with the next one no spelling goes on
  record Lost (s : T) (line text : List ℕ) (lines : ℕ) : Type 0 where
    pub counted : lines ≤ ends text
    pub before : Begins spells (written s ++ from_line line lines text)
    pub here : lines < ends text → (more : List ℕ) → read_lines step finish s line
        (first_lines (suc lines) text ++ more) ≡ Err lines

  AllLost : List ℕ → Type 0
  AllLost text = (line : List ℕ) (s : T) (lines : ℕ) → IsGood s → read_lines step finish s line text ≡ Err lines → Lost s line text lines

  none_read : (s : T) → IsGood s → Begins spells (written s ++ [])
  none_read s g = subst (λ y. Begins spells y) (sym (append-nil (written s))) (h.goes_on s g)

  lost_end : (s : T) (line : List ℕ) (lines : ℕ) → IsGood s → (found : Option A) →
      ended line (valued found) ≡ Err lines → Lost s line [] lines
  unfolding from_line ends
  lost_end s [] lines g (Some x) e = absurd cc
  lost_end s [] lines g None e =
      let is : lines ≡ 0 = cc in
      subst (Lost s [] []) (sym is) record { counted = omega arith; before = none_read s g; here = λ lt more. absurd (omega arith) }
  lost_end s (b ∷ line) lines g found e =
      let is : lines ≡ 0 = cc in
      subst (Lost s (b ∷ line) []) (sym is) record { counted = omega arith; before = none_read s g; here = λ lt more. absurd (omega arith) }

  lost_taken : (b : ℕ) (text line : List ℕ) (s : T) (lines : ℕ) (next : Option T) → eqb b 10 ≡ true → AllLost text →
      step s (line ++ b ∷ []) ≡ next → IsGood s
      → taken next (λ next. read_lines step finish next [] text) ≡ Err lines → Lost s line (b ∷ text) lines
  unfolding AllLost from_line ends read_lines
  lost_taken b text line s lines None k again f g e =
      let is : lines ≡ 0 = cc in
      subst (Lost s line (b ∷ text)) (sym is) record { counted = omega arith; before = none_read s g; here = λ lt more. rw (k, f) refl }
  lost_taken b text line s lines (Some t) k again f g e =
      let kept = h.keeps s (line ++ b ∷ []) t g f in
      let inner = more_err (read_lines step finish t [] text) lines e in
      let rest = again [] t inner.0 kept.0 inner.1 in
      subst (Lost s line (b ∷ text)) (sym inner.2) record {
        counted = rw k (omega (arith, rest.counted));
        before = rw k (subst (λ y. Begins spells y)
            (ap (λ y. y ++ from_line [] inner.0 text) kept.1 ∙ append_assoc (written s) (line ++ b ∷ []) (from_line [] inner.0 text)
            ∙ ap (λ y. written s ++ y) (append_assoc line (b ∷ []) (from_line [] inner.0 text)) ∙ ap (λ y. written s ++ (line ++ b ∷ y)) (from_line-nil inner.0 text))
            rest.before);
        here = λ lt more. rw (k, f) (ap one_more (rest.here (omega (arith, (rw k at lt))) more));
      }

  lost_cases : (b : ℕ) (text line : List ℕ) (s : T) (lines : ℕ) (k : Bool) → eqb b 10 ≡ k → AllLost text → IsGood s
      → cond k (taken (step s (line ++ b ∷ [])) (λ next. read_lines step finish next [] text))
      (read_lines step finish s (line ++ b ∷ []) text) ≡ Err lines → Lost s line (b ∷ text) lines
  unfolding AllLost from_line ends read_lines
  lost_cases b text line s lines true k again g e = lost_taken b text line s lines (step s (line ++ b ∷ [])) k again refl g e
  lost_cases b text line s lines false k again g e =
      let rest = again (line ++ b ∷ []) s lines g e in
      record {
        counted = rw k rest.counted;
        before = subst (λ y. Begins spells (written s ++ y)) (moved lines) rest.before;
        here = λ lt more. rw k (rest.here (rw k at lt) more);
      }
    where
      moved : (n : ℕ) → from_line (line ++ b ∷ []) n text ≡ from_line line n (b ∷ text)
      moved zero = refl
      moved (suc n) = append_assoc line (b ∷ []) (first_lines (suc n) text) ∙ rw k refl

  all_lost : (text : List ℕ) → AllLost text
  unfolding AllLost read_lines
  all_lost [] line s lines g e = lost_end s line lines g (finish s) e
  all_lost (b ∷ text) line s lines g e = lost_cases b text line s lines (eqb b 10) refl (all_lost text) g e

  pub lines_judge : (text : List ℕ) (r : Result A ℕ) → read_lines step finish start [] text ≡ r → Judges spells text r
  unfolding AllSpelt AllLost
  lines_judge text (Ok a) e = (
    subst (λ y. spells (y ++ text) a) h.empty (all_spelt text [] start a h.good e),
    λ other l. (let same : other ≡ a = ok_is (sym (h.complete text other l) ∙ e) in same),
  )
    where
      ok_is : {x y : A} → (let r : Result A ℕ = Ok x in r ≡ Ok y) → x ≡ y
      ok_is same = cc
  lines_judge text (Err lines) e =
      let lost = all_lost text [] start lines h.good e in
      let all = line_ends_are text in
      let same : lines + 1 - 1 ≡ lines = omega arith in
      let next : lines + 1 ≡ suc lines = omega arith in
      record {
        nothing = λ a l. absurd (not_both a (sym (h.complete text a l) ∙ e));
        counted = (omega arith, omega (arith, lost.counted, all));
        before = subst (λ n. Begins spells (first_lines n text)) (sym same) (subst (λ y. Begins spells y) (ap (λ y. y ++ from_line [] lines text) h.empty ∙ from_line-nil lines text) lost.before);
        here = λ le b. absurd (not_both b.1 (sym (h.complete (first_lines (lines + 1) text ++ b.0) b.1 b.2) ∙ ap (λ n. read_lines step finish start [] (first_lines n text ++ b.0)) next ∙ lost.here (omega (arith, all)) b.0));
      }
    where
      not_both : (a : A) → (let r : Result A ℕ = Ok a in r ≡ Err lines) → ⊥
      not_both a same = cc

-- ---- lines

-- the front of a line goes into it
read-append : {T A : Type 0} (step : T → List ℕ → Option T) (finish : T → Option A) (s : T) (front line rest : List ℕ) →
    is_open front ≡ true → read_lines step finish s line (front ++ rest) ≡ read_lines step finish s (line ++ front) rest
unfolding read_lines
read-append step finish s [] line rest h = ap (λ y. read_lines step finish s y rest) (sym (append-nil line))
read-append {T} {A} step finish s (b ∷ front) line rest h = cases (eqb b 10) refl (λ o. read-append step finish s front (line ++ b ∷ []) rest o) h
  where
    cases : (k : Bool) → eqb b 10 ≡ k → (is_open front ≡ true →
        read_lines step finish s (line ++ b ∷ []) (front ++ rest)
        ≡ read_lines step finish s ((line ++ b ∷ []) ++ front) rest)
        → cond k false (is_open front) ≡ true → read_lines step finish s line (b ∷ (front ++ rest))
        ≡ read_lines step finish s (line ++ b ∷ front) rest
    cases true k again o = absurd cc
    cases false k again o = rw k (again o ∙ ap (λ y. read_lines step finish s y rest) (append_assoc line (b ∷ []) front))

-- a line
pub read_line : {T A : Type 0} (step : T → List ℕ → Option T) (finish : T → Option A) (s : T) (line rest : List ℕ) →
    IsLine line → read_lines step finish s [] (line ++ rest) ≡ taken (step s line)
    (λ next. read_lines step finish next [] rest)
unfolding read_lines
read_line {T} {A} step finish s line rest l =
    ap (λ y. read_lines step finish s [] (y ++ rest)) l.whole ∙ ap (λ y. read_lines step finish s [] y) (append_assoc l.front (10 ∷ []) rest)
    ∙ read-append step finish s l.front [] (10 ∷ rest) l.open_front ∙ ap (λ y. taken (step s y) (λ next. read_lines step finish next [] rest)) (sym l.whole)

-- a line that leads to a state
pub line_leads : {T A : Type 0} (step : T → List ℕ → Option T) (finish : T → Option A) (s t : T) (line rest : List ℕ)
    (a : A) → IsLine line → step s line ≡ Some t → read_lines step finish t [] rest ≡ Ok a →
    read_lines step finish s [] (line ++ rest) ≡ Ok a
line_leads step finish s t line rest a l e r = read_line step finish s line rest l ∙ ap (λ next. taken next (λ next. read_lines step finish next [] rest)) e ∙ ap one_more r

-- the end of a line, and no end
pub read_rest : {T A : Type 0} (step : T → List ℕ → Option T) (finish : T → Option A) (s : T) (rest : List ℕ) →
    is_open rest ≡ true → read_lines step finish s [] rest ≡ ended rest (valued (finish s))
unfolding read_lines
read_rest step finish s rest h = ap (λ y. read_lines step finish s [] y) (sym (append-nil rest)) ∙ read-append step finish s rest [] [] h

pub later-one : {A : Type 0} (count : ℕ) (r : Result A ℕ) → later count (one_more r) ≡ later (count + 1) r
later-one count (Ok x) = refl
later-one count (Err n) = let e : count + suc n ≡ count + 1 + n = omega arith in ap (λ k. Err k) e
