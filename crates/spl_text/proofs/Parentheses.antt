-- The parentheses of spellings.
use Rattle.std.proofs.Common.{◌≡◌, ℕ, suc, ◌+◌, ◌^◌, ◌<◌, ◌≤◌, max, inl, inr, Bool, true, false, cond, eqb, List, []}
use Rattle.std.proofs.Common.{◌∷◌, ◌++◌, length, codes, decimal, refl, sym, ap, ◌∙◌, arith}
use Rattle.std.specs.Str.Parse.{AllDigits}
use Rattle.std.proofs.lemmas.Bool.{eqb-true, cases_lt}
use Rattle.std.proofs.lemmas.Str.Parse.{digit_from_value}
use Rattle.std.proofs.lemmas.Fmt.{decimal_is_IsNumeral}
use Rattle.std.proofs.lemmas.List.Sums.{sum_by-append}
use Rattle.grammar.proofs.Tokens.{split_twice}
use Rattle.spl_ast.specs.Formula.{Formula, Identity, Fourier, Hadamard, Twiddles, Diagonal, Stride, Permutation}
use Rattle.spl_ast.specs.Formula.{GoodThomasIn, GoodThomasOut, Product, TensorLeft, TensorRight, DirectSum, Pending}
use Rattle.spl_ast.specs.Nesting.{nesting_of}
use Rattle.spl_text.specs.Answer.{opened, closed, IsShallow}
use Rattle.spl_text.specs.Spelling.{spelling, more_text, values_text, AreValues, AreSomeValues, IsFactor, HasSpelling}

pub opened_both : (xs ys : List ℕ) → opened (xs ++ ys) ≡ opened xs + opened ys
opened_both xs ys = sum_by-append _ xs ys

pub closed_both : (xs ys : List ℕ) → closed (xs ++ ys) ≡ closed xs + closed ys
closed_both xs ys = sum_by-append _ xs ys

-- more are opened than closed, by this number
abbrev pub Opens : ℕ → List ℕ → Type 0
Opens n text = opened text ≡ closed text + n

abbrev Closes : List ℕ → Type 0
Closes text = closed text ≡ opened text + 1

pub then_balanced : (n : ℕ) (xs ys : List ℕ) → Opens n xs → Opens 0 ys → Opens n (xs ++ ys)
then_balanced n xs ys h g = omega (arith, h, g, opened_both xs ys, closed_both xs ys)

pub one_deeper : (n : ℕ) (xs ys : List ℕ) → Opens 1 xs → Opens n ys → Opens (suc n) (xs ++ ys)
one_deeper n xs ys h g = omega (arith, h, g, opened_both xs ys, closed_both xs ys)

pub balanced : (xs ys : List ℕ) → Opens 0 xs → Opens 0 ys → Opens 0 (xs ++ ys)
balanced xs ys h g = omega (arith, h, g, opened_both xs ys, closed_both xs ys)

then_closes : (xs ys : List ℕ) → Opens 0 xs → Closes ys → Closes (xs ++ ys)
then_closes xs ys h g = omega (arith, h, g, opened_both xs ys, closed_both xs ys)

enclosed : (xs ys : List ℕ) → Opens 1 xs → Closes ys → Opens 0 (xs ++ ys)
enclosed xs ys h g = omega (arith, h, g, opened_both xs ys, closed_both xs ys)

-- 1 for this code, 0 for another
abbrev counts : ℕ → ℕ → ℕ
counts c x = cond (eqb x c) 1 0

no_code : (c x : ℕ) → c < 48 → 48 ≤ x → counts c x ≡ 0
no_code c x h g = by_test (eqb x c) refl
  where
    by_test : (b : Bool) → eqb x c ≡ b → counts c x ≡ 0
    by_test true e = let same : x ≡ c = eqb-true x c e in absurd (omega arith)
    by_test false e = ap (λ b. cond b 1 0) e

digits_balanced : (xs : List ℕ) → AllDigits 10 xs → Opens 0 xs
digits_balanced [] h = refl
digits_balanced (x ∷ xs) h =
    let low = (digit_from_value x h.0).0 in
    balanced (x ∷ []) xs (ap (λ n. 0 + n) (no_code 40 x (omega arith) low) ∙ sym (ap (λ n. 0 + n + 0) (no_code 41 x (omega arith) low))) (digits_balanced xs h.1)

pub decimal_balanced : (n : ℕ) → n < 2 ^ 64 → Opens 0 (decimal n)
decimal_balanced n h = digits_balanced (decimal n) (decimal_is_IsNumeral n h).0.1

pub size_balanced : (n : ℕ) → IsFactor n → Opens 0 (decimal n)
size_balanced n h = decimal_balanced n (omega (arith, h.1))

more_balanced : (xs : List ℕ) → AreValues xs → Opens 0 (more_text xs)
more_balanced [] h = refl
more_balanced (x ∷ xs) h =
    balanced (codes ",") (decimal x ++ more_text xs) refl (balanced (decimal x) (more_text xs) (decimal_balanced x (omega (arith, h.0))) (more_balanced xs h.1))

pub values_balanced : (xs : List ℕ) → AreSomeValues xs → Opens 0 (values_text xs)
values_balanced [] h = absurd h
values_balanced (x ∷ xs) h = balanced (decimal x) (more_text xs) (decimal_balanced x (omega (arith, h.0))) (more_balanced xs h.1)

closes_one : (xs : List ℕ) → Opens 0 xs → Closes (xs ++ codes ")")
closes_one xs h = then_closes xs (codes ")") h refl

closes_two : (xs ys : List ℕ) → Opens 0 xs → Opens 0 ys → Closes (xs ++ (codes "," ++ (ys ++ codes ")")))
closes_two xs ys h g = then_closes xs (codes "," ++ (ys ++ codes ")")) h (then_closes (codes ",") (ys ++ codes ")") refl (closes_one ys g))

part_one : (w xs : List ℕ) → Opens 1 w → Opens 0 xs → Opens 0 (w ++ (xs ++ codes ")"))
part_one w xs o h = enclosed w (xs ++ codes ")") o (closes_one xs h)

part_two : (w xs ys : List ℕ) → Opens 1 w → Opens 0 xs → Opens 0 ys →
    Opens 0 (w ++ (xs ++ (codes "," ++ (ys ++ codes ")"))))
part_two w xs ys o h g = enclosed w (xs ++ (codes "," ++ (ys ++ codes ")"))) o (closes_two xs ys h g)

pub spelling_balanced : (f : Formula) → HasSpelling f → Opens 0 (spelling f)
spelling_balanced (Identity n) h = part_one (codes "I(") (decimal n) refl (size_balanced n h)
spelling_balanced (Fourier n w) h = part_two (codes "DFT(") (decimal n) (decimal w) refl (size_balanced n h.0) (decimal_balanced w (omega (arith, h.1)))
spelling_balanced (Hadamard n) h = part_one (codes "WHT(") (decimal n) refl (size_balanced n h)
spelling_balanced (Twiddles n s w) h =
    enclosed (codes "T(") (decimal n ++ (codes "," ++ (decimal s ++ (codes "," ++ (decimal w ++ codes ")"))))) refl
    (then_closes (decimal n) (codes "," ++ (decimal s ++ (codes "," ++ (decimal w ++ codes ")")))) (size_balanced n h.0)
    (then_closes (codes ",") (decimal s ++ (codes "," ++ (decimal w ++ codes ")"))) refl (closes_two (decimal s) (decimal w) (size_balanced s h.1) (decimal_balanced w (omega (arith, h.2))))))
spelling_balanced (Diagonal c) h = part_one (codes "DIAG(") (values_text c) refl (values_balanced c h)
spelling_balanced (Stride n r) h = part_two (codes "L(") (decimal n) (decimal r) refl (size_balanced n h.0) (size_balanced r h.1)
spelling_balanced (Permutation k) h = part_one (codes "PERM(") (values_text k) refl (values_balanced k h)
spelling_balanced (GoodThomasIn r s) h = part_two (codes "GTIN(") (decimal r) (decimal s) refl (size_balanced r h.0) (size_balanced s h.1)
spelling_balanced (GoodThomasOut r s) h = part_two (codes "GTOUT(") (decimal r) (decimal s) refl (size_balanced r h.0) (size_balanced s h.1)
spelling_balanced (Product a b) h = part_two (codes "TIMES(") (spelling a) (spelling b) refl (spelling_balanced a h.0) (spelling_balanced b h.1)
spelling_balanced (TensorLeft a k) h = part_two (codes "LEFT(") (spelling a) (decimal k) refl (spelling_balanced a h.0) (size_balanced k h.1)
spelling_balanced (TensorRight k a) h = part_two (codes "RIGHT(") (decimal k) (spelling a) refl (size_balanced k h.0) (spelling_balanced a h.1)
spelling_balanced (DirectSum a b) h = part_two (codes "SUM(") (spelling a) (spelling b) refl (spelling_balanced a h.0) (spelling_balanced b h.1)
spelling_balanced (Pending a) h = absurd h

-- ---- and of their fronts

pub shallow_by_count : (n : ℕ) (text : List ℕ) → opened text ≤ n → IsShallow n text
shallow_by_count n text h x y e = omega (arith, h, ap opened e, opened_both x y)

pub shallow_both : (k n d : ℕ) (xs ys : List ℕ) → Opens k xs → IsShallow d xs → IsShallow n ys → k + n ≤ d →
    IsShallow d (xs ++ ys)
shallow_both k n d xs ys o first second small x y e =
    elim (cases_lt (length ys) (length y)) [
      | inl more ↦ let m = split_twice xs ys x y e (omega arith) in first x m.0 m.1
      | inr less ↦
          let m = split_twice x y xs ys (sym e) less in
          omega (arith, second m.0 y m.2, o, small, ap opened m.1, ap closed m.1, opened_both xs m.0, closed_both xs m.0)
    ]

opens_none : (xs ys : List ℕ) → opened xs ≡ 0 → opened ys ≡ 0 → opened (xs ++ ys) ≡ 0
opens_none xs ys h g = omega (arith, h, g, opened_both xs ys)

digits_open_none : (xs : List ℕ) → AllDigits 10 xs → opened xs ≡ 0
digits_open_none [] h = refl
digits_open_none (x ∷ xs) h = opens_none (x ∷ []) xs (ap (λ n. 0 + n) (no_code 40 x (omega arith) (digit_from_value x h.0).0)) (digits_open_none xs h.1)

pub decimal_opens_none : (n : ℕ) → n < 2 ^ 64 → opened (decimal n) ≡ 0
decimal_opens_none n h = digits_open_none (decimal n) (decimal_is_IsNumeral n h).0.1

pub size_opens_none : (n : ℕ) → IsFactor n → opened (decimal n) ≡ 0
size_opens_none n h = decimal_opens_none n (omega (arith, h.1))

more_opens_none : (xs : List ℕ) → AreValues xs → opened (more_text xs) ≡ 0
more_opens_none [] h = refl
more_opens_none (x ∷ xs) h =
    opens_none (codes ",") (decimal x ++ more_text xs) refl (opens_none (decimal x) (more_text xs) (decimal_opens_none x (omega (arith, h.0))) (more_opens_none xs h.1))

pub values_open_none : (xs : List ℕ) → AreSomeValues xs → opened (values_text xs) ≡ 0
values_open_none [] h = absurd h
values_open_none (x ∷ xs) h = opens_none (decimal x) (more_text xs) (decimal_opens_none x (omega (arith, h.0))) (more_opens_none xs h.1)

-- a part that opens no parenthesis but its own
flat : (w xs : List ℕ) → opened w ≡ 1 → opened xs ≡ 0 → IsShallow 1 (w ++ xs)
flat w xs h g = shallow_by_count 1 (w ++ xs) (omega (arith, h, g, opened_both w xs))

one_number : (xs : List ℕ) → opened xs ≡ 0 → opened (xs ++ codes ")") ≡ 0
one_number xs h = opens_none xs (codes ")") h refl

two_numbers : (xs ys : List ℕ) → opened xs ≡ 0 → opened ys ≡ 0 → opened (xs ++ (codes "," ++ (ys ++ codes ")"))) ≡ 0
two_numbers xs ys h g = opens_none xs (codes "," ++ (ys ++ codes ")")) h (opens_none (codes ",") (ys ++ codes ")") refl (one_number ys g))

-- parts inside a part
then_closed : (n : ℕ) (ys : List ℕ) → Opens 0 ys → IsShallow n ys → IsShallow n (ys ++ codes ")")
then_closed n ys o s = shallow_both 0 0 n ys (codes ")") o s (shallow_by_count 0 (codes ")") (omega arith)) (omega arith)

around : (n : ℕ) (w xs ys : List ℕ) → opened w ≡ 1 → closed w ≡ 0 → Opens 0 xs → Opens 0 ys → IsShallow n xs →
    IsShallow n ys → IsShallow (n + 1) (w ++ (xs ++ (codes "," ++ (ys ++ codes ")"))))
around n w xs ys one none o p s t =
    shallow_both 1 n (n + 1) w (xs ++ (codes "," ++ (ys ++ codes ")"))) (omega (arith, one, none)) (shallow_by_count (n + 1) w (omega (arith, one)))
    (shallow_both 0 n n xs (codes "," ++ (ys ++ codes ")")) o s
    (shallow_both 0 n n (codes ",") (ys ++ codes ")") refl (shallow_by_count n (codes ",") (omega arith)) (then_closed n ys p t) (omega arith)) (omega arith)) (omega arith)

pub less_shallow : (n k : ℕ) (text : List ℕ) → n ≤ k → IsShallow n text → IsShallow k text
less_shallow n k text h s x y e = omega (arith, s x y e, h)

number_shallow : (n : ℕ) (xs : List ℕ) → opened xs ≡ 0 → IsShallow n xs
number_shallow n xs h = shallow_by_count n xs (omega (arith, h))

spelling_shallow : (f : Formula) → HasSpelling f → IsShallow (nesting_of f) (spelling f)
spelling_shallow (Identity n) h = flat (codes "I(") (decimal n ++ codes ")") refl (one_number (decimal n) (size_opens_none n h))
spelling_shallow (Fourier n w) h =
    flat (codes "DFT(") (decimal n ++ (codes "," ++ (decimal w ++ codes ")"))) refl (two_numbers (decimal n) (decimal w) (size_opens_none n h.0) (decimal_opens_none w (omega (arith, h.1))))
spelling_shallow (Hadamard n) h = flat (codes "WHT(") (decimal n ++ codes ")") refl (one_number (decimal n) (size_opens_none n h))
spelling_shallow (Twiddles n s w) h =
    flat (codes "T(") (decimal n ++ (codes "," ++ (decimal s ++ (codes "," ++ (decimal w ++ codes ")"))))) refl
    (opens_none (decimal n) (codes "," ++ (decimal s ++ (codes "," ++ (decimal w ++ codes ")")))) (size_opens_none n h.0)
    (opens_none (codes ",") (decimal s ++ (codes "," ++ (decimal w ++ codes ")"))) refl (two_numbers (decimal s) (decimal w) (size_opens_none s h.1) (decimal_opens_none w (omega (arith, h.2))))))
spelling_shallow (Diagonal c) h = flat (codes "DIAG(") (values_text c ++ codes ")") refl (one_number (values_text c) (values_open_none c h))
spelling_shallow (Stride n r) h =
    flat (codes "L(") (decimal n ++ (codes "," ++ (decimal r ++ codes ")"))) refl (two_numbers (decimal n) (decimal r) (size_opens_none n h.0) (size_opens_none r h.1))
spelling_shallow (Permutation k) h = flat (codes "PERM(") (values_text k ++ codes ")") refl (one_number (values_text k) (values_open_none k h))
spelling_shallow (GoodThomasIn r s) h =
    flat (codes "GTIN(") (decimal r ++ (codes "," ++ (decimal s ++ codes ")"))) refl (two_numbers (decimal r) (decimal s) (size_opens_none r h.0) (size_opens_none s h.1))
spelling_shallow (GoodThomasOut r s) h =
    flat (codes "GTOUT(") (decimal r ++ (codes "," ++ (decimal s ++ codes ")"))) refl (two_numbers (decimal r) (decimal s) (size_opens_none r h.0) (size_opens_none s h.1))
spelling_shallow (Product a b) h =
    around (max (nesting_of a) (nesting_of b)) (codes "TIMES(") (spelling a) (spelling b) refl refl (spelling_balanced a h.0) (spelling_balanced b h.1)
    (less_shallow (nesting_of a) (max (nesting_of a) (nesting_of b)) (spelling a) (omega arith) (spelling_shallow a h.0))
    (less_shallow (nesting_of b) (max (nesting_of a) (nesting_of b)) (spelling b) (omega arith) (spelling_shallow b h.1))
spelling_shallow (TensorLeft a k) h =
    around (nesting_of a) (codes "LEFT(") (spelling a) (decimal k) refl refl (spelling_balanced a h.0) (size_balanced k h.1) (spelling_shallow a h.0)
    (number_shallow (nesting_of a) (decimal k) (size_opens_none k h.1))
spelling_shallow (TensorRight k a) h =
    around (nesting_of a) (codes "RIGHT(") (decimal k) (spelling a) refl refl (size_balanced k h.0) (spelling_balanced a h.1)
    (number_shallow (nesting_of a) (decimal k) (size_opens_none k h.0)) (spelling_shallow a h.1)
spelling_shallow (DirectSum a b) h =
    around (max (nesting_of a) (nesting_of b)) (codes "SUM(") (spelling a) (spelling b) refl refl (spelling_balanced a h.0) (spelling_balanced b h.1)
    (less_shallow (nesting_of a) (max (nesting_of a) (nesting_of b)) (spelling a) (omega arith) (spelling_shallow a h.0))
    (less_shallow (nesting_of b) (max (nesting_of a) (nesting_of b)) (spelling b) (omega arith) (spelling_shallow b h.1))
spelling_shallow (Pending a) h = absurd h

-- a word, a part and a comma, before another part
pub front_shallow : (n : ℕ) (w xs : List ℕ) → opened w ≡ 1 → closed w ≡ 0 → Opens 0 xs → IsShallow n xs →
    IsShallow (suc n) (w ++ (xs ++ codes ","))
front_shallow n w xs one none o s =
    shallow_both 1 n (suc n) w (xs ++ codes ",") (omega (arith, one, none)) (shallow_by_count (suc n) w (omega (arith, one)))
    (shallow_both 0 0 n xs (codes ",") o s (shallow_by_count 0 (codes ",") (omega arith)) (omega arith)) (omega arith)

pub within_shallow : (n : ℕ) (f : Formula) → nesting_of f ≤ n → HasSpelling f → IsShallow n (spelling f)
within_shallow n f small h = less_shallow (nesting_of f) n (spelling f) small (spelling_shallow f h)

pub size_shallow : (n k : ℕ) → IsFactor k → IsShallow n (decimal k)
size_shallow n k h = number_shallow n (decimal k) (size_opens_none k h)
