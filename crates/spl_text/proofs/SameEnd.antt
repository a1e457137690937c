-- Parts of a text that end at the same place are the same part. A part is a name, an opening parenthesis, what
-- stands in it, and the parenthesis that closes it. In front of that one no more are closed than opened; so where
-- another part begins earlier and ends at the same place, the shorter one would begin inside its name.
use Rattle.std.proofs.Common.{◌≡◌, ℕ, ◌+◌, ◌≤◌, ◌<◌, inl, inr, Bool, true, leb, ◌&&◌, List, [], ◌∷◌, ◌++◌, length}
use Rattle.std.proofs.Common.{codes, decimal}
use Rattle.std.proofs.Common.{refl, sym, ap, subst, ◌∙◌, append_assoc, arith}
use Rattle.std.proofs.lemmas.Bool.{cases_lt, leb-true, and_parts}
use Rattle.std.proofs.lemmas.List.{append-nil, length-append}
use Rattle.grammar.proofs.Tokens.{split_twice}
use Rattle.spl_ast.specs.Formula.{Formula, Identity, Fourier, Hadamard, Twiddles, Diagonal, Stride, Permutation}
use Rattle.spl_ast.specs.Formula.{GoodThomasIn, GoodThomasOut, Product, TensorLeft, TensorRight, DirectSum, Pending}
use Rattle.spl_text.specs.Answer.{opened, closed, EndsWith, IsBeforePart}
use Rattle.spl_text.specs.Spelling.{spelling, values_text, spells, IsFactor, IsValue, HasSpelling}
use Rattle.spl_text.proofs.Fitted.{two}
use Rattle.spl_text.proofs.Once.{spelt_once}
use Rattle.spl_text.proofs.Parentheses.{opened_both, closed_both, Opens, balanced, size_balanced, decimal_balanced}
use Rattle.spl_text.proofs.Parentheses.{values_balanced, size_opens_none, decimal_opens_none}
use Rattle.spl_text.proofs.Parentheses.{values_open_none}

-- ---- no front closes more than it opens, but for this number

abbrev pub IsLow : ℕ → List ℕ → Type 0
IsLow k text = (front rest : List ℕ) → text ≡ front ++ rest → closed front ≤ opened front + k

pub low_by_count : (k : ℕ) (text : List ℕ) → closed text ≤ k → IsLow k text
low_by_count k text h x y e = omega (arith, h, ap closed e, closed_both x y)

low_both : (j k : ℕ) (xs ys : List ℕ) → Opens j xs → IsLow k xs → IsLow (k + j) ys → IsLow k (xs ++ ys)
low_both j k xs ys o first second x y e =
    elim (cases_lt (length ys) (length y)) [
      | inl more ↦ let m = split_twice xs ys x y e (omega arith) in first x m.0 m.1
      | inr less ↦
          let m = split_twice x y xs ys (sym e) less in
          omega (arith, second m.0 y m.2, o, ap opened m.1, ap closed m.1, opened_both xs m.0, closed_both xs m.0)
    ]

-- ---- the form of a part

all_letters : List ℕ → Bool
all_letters [] = true
all_letters (b ∷ text) = leb 65 b && all_letters text

letter_in : (front rest : List ℕ) (b : ℕ) → all_letters (front ++ b ∷ rest) ≡ true → 65 ≤ b
unfolding all_letters
letter_in [] rest b h = leb-true 65 b (and_parts (leb 65 b) (all_letters rest) h).0
letter_in (c ∷ front) rest b h = letter_in front rest b (and_parts (leb 65 c) (all_letters (front ++ b ∷ rest)) h).1

record HasForm (text : List ℕ) : Type 0 where
  name : List ℕ
  inner : List ℕ
  whole : text ≡ name ++ (40 ∷ (inner ++ codes ")"))
  letters : all_letters name ≡ true
  plain : (opened name ≡ 0) × (closed name ≡ 0)
  flat : Opens 0 inner
  low : IsLow 0 inner

-- what stands in a parenthesis
record IsInner (text : List ℕ) : Type 0 where
  flat : Opens 0 text
  low : IsLow 0 text

numbers_inner : (text : List ℕ) → Opens 0 text → opened text ≡ 0 → IsInner text
numbers_inner text o none = record { flat = o; low = low_by_count 0 text (omega (arith, o, none)) }

both_inner : (xs ys : List ℕ) → IsInner xs → IsInner ys → IsInner (xs ++ (codes "," ++ ys))
both_inner xs ys h g = record {
  flat = balanced xs (codes "," ++ ys) h.flat (balanced (codes ",") ys refl g.flat);
  low = low_both 0 0 xs (codes "," ++ ys) h.flat h.low
      (low_both 0 0 (codes ",") ys refl (low_by_count 0 (codes ",") (omega arith)) g.low);
}

size_inner : (n : ℕ) → IsFactor n → IsInner (decimal n)
size_inner n h = numbers_inner (decimal n) (size_balanced n h) (size_opens_none n h)

value_inner : (w : ℕ) → IsValue w → IsInner (decimal w)
value_inner w h = numbers_inner (decimal w) (decimal_balanced w (omega (arith, h)))
    (decimal_opens_none w (omega (arith, h)))

of_form : (name inner text : List ℕ) → text ≡ name ++ (40 ∷ (inner ++ codes ")")) → all_letters name ≡ true →
    (opened name ≡ 0) × (closed name ≡ 0)
    → IsInner inner → HasForm text
of_form name inner text whole letters plain i = record {
  name = name;
  inner = inner;
  whole = whole;
  letters =
      letters;
  plain = plain;
  flat = i.flat;
  low = i.low;
}

three : (a b c : List ℕ) →
    a ++ (codes "," ++ (b ++ (codes "," ++ (c ++ codes ")")))) ≡
    (a ++ (codes "," ++ (b ++ (codes "," ++ c)))) ++ codes ")"
three a b c = ap (λ z. a ++ (codes "," ++ z)) (two b c) ∙ two a (b ++ (codes "," ++ c))

part_inner : (text : List ℕ) → HasForm text → IsInner text
part_inner text f =
    let closing : Opens 0 (f.inner ++ []) = subst (Opens 0) (sym (append-nil f.inner)) f.flat in
    let behind : IsLow 1 (f.inner ++ codes ")") =
    low_both 0 1 f.inner (codes ")") f.flat (λ x y e. omega (arith, f.low x y e))
    (low_by_count 1 (codes ")") (omega arith)) in
    let head : Opens 1 (f.name ++ 40 ∷ []) = omega (
      arith,
      f.plain.0,
      f.plain.1,
      opened_both f.name
          (40 ∷ []),
      closed_both f.name (40 ∷ []),
    ) in
    let none : closed (f.name ++ 40 ∷ []) ≤ 0 = omega (arith, f.plain.1, closed_both f.name (40 ∷ [])) in
    let whole : text ≡ (f.name ++ 40 ∷ []) ++ (f.inner ++ codes ")") =
    f.whole ∙ sym (append_assoc f.name (40 ∷ []) (f.inner ++ codes ")")) in
    subst IsInner (sym whole) record {
      flat = omega (
        arith,
        head,
        f.flat,
        opened_both (f.name ++ 40 ∷ []) (f.inner ++ codes ")"),
        closed_both
            (f.name ++ 40 ∷ []) (f.inner ++ codes ")"),
        opened_both f.inner (codes ")"),
        closed_both f.inner (codes ")"),
      );
      low = low_both 1 0 (f.name ++ 40 ∷ []) (f.inner ++ codes ")") head
          (low_by_count 0 (f.name ++ 40 ∷ []) none) behind;
    }

form : (f : Formula) → HasSpelling f → HasForm (spelling f)
unfolding all_letters
form (Identity n) h = of_form (codes "I") (decimal n) _ refl refl (refl, refl) (size_inner n h)
form (Fourier n w) h =
    of_form (codes "DFT") (decimal n ++ (codes "," ++ decimal w)) _
    (ap (λ z. codes "DFT(" ++ z) (two (decimal n) (decimal w))) refl (refl, refl)
    (both_inner (decimal n) (decimal w) (size_inner n h.0) (value_inner w h.1))
form (Hadamard n) h = of_form (codes "WHT") (decimal n) _ refl refl (refl, refl) (size_inner n h)
form (Twiddles n s w) h =
    of_form (codes "T") (decimal n ++ (codes "," ++ (decimal s ++ (codes "," ++ decimal w)))) _
    (ap (λ z. codes "T(" ++ z) (three (decimal n) (decimal s) (decimal w))) refl (refl, refl)
    (both_inner (decimal n) (decimal s ++ (codes "," ++ decimal w)) (size_inner n h.0)
    (both_inner (decimal s) (decimal w) (size_inner s h.1) (value_inner w h.2)))
form (Diagonal c) h =
    of_form (codes "DIAG") (values_text c) _ refl refl (refl, refl)
    (numbers_inner (values_text c) (values_balanced c h) (values_open_none c h))
form (Stride n r) h =
    of_form (codes "L") (decimal n ++ (codes "," ++ decimal r)) _
    (ap (λ z. codes "L(" ++ z) (two (decimal n) (decimal r))) refl (refl, refl)
    (both_inner (decimal n) (decimal r) (size_inner n h.0) (size_inner r h.1))
form (Permutation k) h =
    of_form (codes "PERM") (values_text k) _ refl refl (refl, refl)
    (numbers_inner (values_text k) (values_balanced k h) (values_open_none k h))
form (GoodThomasIn r s) h =
    of_form (codes "GTIN") (decimal r ++ (codes "," ++ decimal s)) _
    (ap (λ z. codes "GTIN(" ++ z) (two (decimal r) (decimal s))) refl (refl, refl)
    (both_inner (decimal r) (decimal s) (size_inner r h.0) (size_inner s h.1))
form (GoodThomasOut r s) h =
    of_form (codes "GTOUT") (decimal r ++ (codes "," ++ decimal s)) _
    (ap (λ z. codes "GTOUT(" ++ z) (two (decimal r) (decimal s))) refl (refl, refl)
    (both_inner (decimal r) (decimal s) (size_inner r h.0) (size_inner s h.1))
form (Product a b) h =
    of_form (codes "TIMES") (spelling a ++ (codes "," ++ spelling b)) _
    (ap (λ z. codes "TIMES(" ++ z) (two (spelling a) (spelling b))) refl (refl, refl)
    (both_inner (spelling a) (spelling b) (part_inner (spelling a) (form a h.0)) (part_inner (spelling b) (form b h.1)))
form (TensorLeft a k) h =
    of_form (codes "LEFT") (spelling a ++ (codes "," ++ decimal k)) _
    (ap (λ z. codes "LEFT(" ++ z) (two (spelling a) (decimal k))) refl (refl, refl)
    (both_inner (spelling a) (decimal k) (part_inner (spelling a) (form a h.0)) (size_inner k h.1))
form (TensorRight k a) h =
    of_form (codes "RIGHT") (decimal k ++ (codes "," ++ spelling a)) _
    (ap (λ z. codes "RIGHT(" ++ z) (two (decimal k) (spelling a))) refl (refl, refl)
    (both_inner (decimal k) (spelling a) (size_inner k h.0) (part_inner (spelling a) (form a h.1)))
form (DirectSum a b) h =
    of_form (codes "SUM") (spelling a ++ (codes "," ++ spelling b)) _
    (ap (λ z. codes "SUM(" ++ z) (two (spelling a) (spelling b))) refl (refl, refl)
    (both_inner (spelling a) (spelling b) (part_inner (spelling a) (form a h.0)) (part_inner (spelling b) (form b h.1)))
form (Pending a) h = absurd h

-- ---- one end

-- a text that is not empty and ends with a byte that ends it behind another text, too
last_byte : (before : List ℕ) (x : ℕ) (xs : List ℕ) (b : ℕ) → EndsWith b (before ++ x ∷ xs) → EndsWith b (x ∷ xs)
last_byte before x xs b h =
    let m = split_twice h.0 (b ∷ []) before (x ∷ xs) (sym h.1) (omega arith) in (m.0, m.2)

-- no part begins behind a name's first letters
no_part_in_name : (before : List ℕ) (x : ℕ) (xs rest : List ℕ) → IsBeforePart (before ++ x ∷ xs) →
    all_letters ((x ∷ xs) ++ rest) ≡ true → ⊥
no_part_in_name before x xs rest (inl none) letters =
    let long : length before + length (x ∷ xs) ≡ 0 = sym (length-append before (x ∷ xs)) ∙ ap length none in omega
    (arith, long)
no_part_in_name before x xs rest (inr (inl opening)) letters =
    let last = last_byte before x xs 40 opening in
    let low : 65 ≤ 40 = letter_in last.0 rest 40 (subst (λ z. all_letters z ≡ true)
    (ap (λ z. z ++ rest) last.1 ∙ append_assoc last.0 (40 ∷ []) rest) letters) in
    omega (arith, low)
no_part_in_name before x xs rest (inr (inr comma)) letters =
    let last = last_byte before x xs 44 comma in
    let low : 65 ≤ 44 = letter_in last.0 rest 44 (subst (λ z. all_letters z ≡ true)
    (ap (λ z. z ++ rest) last.1 ∙ append_assoc last.0 (44 ∷ []) rest) letters) in
    omega (arith, low)

-- a part of this form is no end of a longer one that opens and closes as many
not_inside : (k part inner : List ℕ) → 1 ≤ length part → 0 < length k → IsLow 0 inner →
    40 ∷ (inner ++ codes ")") ≡ k ++ part → closed k < opened k
not_inside [] part inner some long low e = absurd (omega (arith, long))
not_inside (c ∷ k) part inner some long low e =
    let head : 40 ≡ c = cc in
    let tail : inner ++ codes ")" ≡ k ++ part = cc in
    let m = split_twice inner (codes ")") k part tail some in
    let few : closed k ≤ opened k + 0 = low k m.0 m.1 in
    subst (λ b. closed (b ∷ k) < opened (b ∷ k)) head
    (omega (arith, few, opened_both (40 ∷ []) k, closed_both (40 ∷ []) k))

begins_together : (before m part other : List ℕ) → IsBeforePart (before ++ m) → HasForm part → HasForm other → other
    ≡ m ++ part →
    m ≡ []
begins_together before [] part other b f g e = refl
begins_together before (x ∷ m) part other b f g e =
    let level : Opens 0 (x ∷ m) =
    omega (
      arith,
      (part_inner part f).flat,
      (part_inner other g).flat,
      ap opened e,
      ap closed e,
      opened_both
          (x ∷ m) part,
      closed_both (x ∷ m) part,
    ) in
    let some : 1 ≤ length part = omega (arith, ap length f.whole, length-append f.name (40 ∷ (f.inner ++ codes ")"))) in
    let both : g.name ++ (40 ∷ (g.inner ++ codes ")")) ≡ (x ∷ m) ++ part = sym g.whole ∙ e in
    absurd (elim (cases_lt (length g.name) (length (x ∷ m))) [
      | inl longer ↦
          let k = split_twice (x ∷ m) part g.name (40 ∷ (g.inner ++ codes ")")) (sym both)
          (omega (
            arith,
            ap length both,
            length-append g.name (40 ∷ (g.inner ++ codes ")")),
            length-append
                (x ∷ m) part,
          )) in
          let more : closed k.0 < opened k.0 = not_inside k.0 part g.inner some
          (omega (arith, ap length k.1, length-append g.name k.0)) g.low k.2 in
          omega (
            arith,
            more,
            level,
            ap opened k.1,
            ap closed k.1,
            opened_both g.name k.0,
            closed_both g.name k.0,
            g.plain.0,
            g.plain.1,
          )
      | inr shorter ↦
          let k = split_twice g.name (40 ∷ (g.inner ++ codes ")")) (x ∷ m) part both
          (omega (
            arith,
            ap length both,
            length-append g.name (40 ∷ (g.inner ++ codes ")")),
            length-append
                (x ∷ m) part,
          )) in
          no_part_in_name before x m k.0 b (subst (λ z. all_letters z ≡ true) k.1 g.letters)
    ])

spelt_form : (part : List ℕ) (f : Formula) → spells part f → HasForm part
unfolding spells
spelt_form part f h = subst HasForm (sym h.1) (form f h.0)

one_way : (before part other rest : List ℕ) (f g : Formula) → IsBeforePart before → spells part f → spells rest g →
    before ++ part ≡ other ++ rest → length part ≤ length rest → (before ≡ other) × (f ≡ g)
one_way before part other rest f g b h k e le =
    let m = split_twice before part other rest e le in
    let none : m.0 ≡ [] =
    begins_together other m.0 part rest (subst IsBeforePart m.1 b) (spelt_form part f h) (spelt_form rest g k) m.2 in
    let same : rest ≡ part = m.2 ∙ ap (λ z. z ++ part) none in
    (m.1 ∙ ap (λ z. other ++ z) none ∙ append-nil other, spelt_once part f g h (subst (λ z. spells z g) same k))

pub same_end : (before part other rest : List ℕ) (f g : Formula) → IsBeforePart before → IsBeforePart other →
    spells part f →
    spells rest g → before ++ part ≡ other ++ rest → (before ≡ other) × (f ≡ g)
same_end before part other rest f g b c h k e =
    elim (cases_lt (length rest) (length part)) [
      | inl longer ↦ let r = one_way other rest before part g f c k h (sym e) (omega arith) in (sym r.0, sym r.1)
      | inr le ↦ one_way before part other rest f g b h k e le
    ]

-- a part ends with the parenthesis that closes it
pub part_ends : (part : List ℕ) (f : Formula) → spells part f → EndsWith 41 part
part_ends part f h =
    let o = spelt_form part f h in (
      o.name ++ (40 ∷ o.inner),
      o.whole ∙ sym
          (append_assoc o.name (40 ∷ o.inner) (codes ")")),
    )
