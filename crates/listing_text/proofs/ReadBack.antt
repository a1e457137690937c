-- The text of a place, with a mark after each constant, is read back.
use Rattle.std.proofs.Common.{◌≡◌, ℕ, zero, suc, ◌<◌, ◌≤◌, ◌^◌, Bool, true, false, cond, eqb, ltb, leb, ◌&&◌, ◌||◌, List, []}
use Rattle.std.proofs.Common.{◌∷◌, ◌++◌, length, codes, decimal, Some, None, Result, Ok, refl, sym, ap, ◌∙◌}
use Rattle.std.proofs.Common.{append_assoc}
use Rattle.std.proofs.Common.{arith, inl, inr}
use Rattle.std.specs.Str.Parse.{AllDigits}
use Rattle.std.proofs.lemmas.Bool.{ne_eqb, leb-true, ltb-true, and_parts, or_parts}
use Rattle.std.proofs.lemmas.Fmt.{decimal_is_IsNumeral, decimal_nonempty}
use Rattle.std.proofs.lemmas.Str.Parse.{digit_from_value}
use Rattle.icode.specs.Plain.{PlainExpr, PlainPart, PlainParts, Sum, NoParts, AndParts, Proc, Var, Product, Rem, Quot}
use Rattle.icode.specs.Plain.{parts_of}
use Rattle.icode.specs.Limits.{is_small, is_small_positive, rank, next_rank, is_sum_within, are_parts_within}
use Rattle.icode.specs.Limits.{is_part_within, sum_parts, all_parts, part_parts, sum_depth, parts_depth, part_depth}
use Rattle.icode.specs.Limits.{is_expr_within}
use Rattle.grammar.specs.Grammar.{word, one_of, number, named_number}
use Rattle.grammar.specs.Reading.{Place, and_then, placed, is_digit, begins, word_at, one_of_in, one_of_at, number_at}
use Rattle.grammar.specs.Reading.{named_number_at}
use Rattle.grammar.proofs.Numbers.{NoDigit}
use Rattle.grammar.proofs.Parts.{Anything, word_reader, number_reader, named_number_reader, one_of_reader, spells_named}
use Rattle.grammar.proofs.Whole.{again}
use Rattle.listing_text.specs.Listing.{sum_with, parts_with, part_with}
use Rattle.listing_text.specs.Reading.{above_all, up_to_at, part_heads, second_heads, division_words, part_at, divided}
use Rattle.listing_text.specs.Reading.{constant_at, marked_inner_at, marked_sum_at}

-- reading gives the value, and leaves this
abbrev pub Back : {A : Type 0} → (Place ℕ → Result (A × Place ℕ) ℕ) → A → Place ℕ → List ℕ → Type 0
Back read x place rest = (q : Place ℕ) × (read place ≡ Ok (x, q)) × (q.rest ≡ rest)

pub then_back : {A B : Type 0} (read : Place ℕ → Result (A × Place ℕ) ℕ) (next : A → Place ℕ → Result (B × Place ℕ) ℕ)
    (x : A) (y : B) (place : Place ℕ) (middle rest : List ℕ)
    → Back read x place middle → ((q : Place ℕ) → q.rest ≡ middle → Back (next x) y q rest) →
    Back (λ place. and_then (read place) next) y place rest
then_back read next x y place middle rest h k =
    let n = k h.0 h.2 in
    (n.0, ap (λ r. and_then r next) h.1 ∙ n.1, n.2)

pub word_back : (w : List ℕ) (place : Place ℕ) (rest : List ℕ) → place.rest ≡ w ++ rest → Back (word_at w) tt place rest
word_back w place rest e = again Anything (word w) (word_at w) (word_reader Anything w) place w rest tt refl tt e

pub number_back : (n : ℕ) (place : Place ℕ) (rest : List ℕ) → n < above_all → NoDigit rest →
    place.rest ≡ decimal n ++ rest → Back (number_at above_all) n place rest
number_back n place rest fits c e = again NoDigit (number above_all) (number_at above_all) (number_reader above_all (omega arith) (omega arith)) place (decimal n) rest n (fits, refl) c e

pub named_back : (w : List ℕ) (n : ℕ) (place : Place ℕ) (rest : List ℕ) → n < above_all → NoDigit rest →
    place.rest ≡ w ++ (decimal n ++ rest) → Back (named_number_at w above_all) n place rest
named_back w n place rest fits c e =
    again NoDigit (named_number w above_all) (named_number_at w above_all) (named_number_reader w above_all (omega arith) (omega arith)) place (w ++ decimal n) rest n (spells_named w above_all n fits) c (e ∙ sym (append_assoc w (decimal n) rest))

-- ---- the first digit

pub small_fits : (n : ℕ) → is_small n ≡ true → n < above_all
small_fits n h = omega (arith, ltb-true n (2 ^ 32) h)

pub positive_fits : (n : ℕ) → is_small_positive n ≡ true → n < above_all
positive_fits n h = small_fits n (and_parts (ltb 0 n) (is_small n) h).1

pub record FirstDigit (text : List ℕ) : Type 0 where
  pub digit : ℕ
  pub others : List ℕ
  pub whole : text ≡ digit ∷ others
  pub low : 48 ≤ digit
  pub high : digit ≤ 57

first_digit_of : (text : List ℕ) → 0 < length text → AllDigits 10 text → FirstDigit text
first_digit_of [] some all = absurd (omega arith)
first_digit_of (x ∷ text) some all =
    let d = digit_from_value x all.0 in
    record { digit = x; others = text; whole = refl; low = d.0; high = d.1 }

pub first_digit : (n : ℕ) → n < above_all → FirstDigit (decimal n)
first_digit n fits = first_digit_of (decimal n) (decimal_nonempty n fits) (decimal_is_IsNumeral n fits).0.1

-- ---- what may come after a place: no digit and no plus

abbrev pub goes_on : ℕ → Bool
goes_on b = is_digit b || eqb 43 b

behind_no_digit : (rest : List ℕ) → begins goes_on rest ≡ false → NoDigit rest
behind_no_digit [] h = refl
behind_no_digit (b ∷ rest) h = (or_parts (is_digit b) (eqb 43 b) h).0

-- a word of some, and its value
head_back : {A : Type 0} (words : List (List ℕ × A)) (x : A) (w rest : List ℕ) (place : Place ℕ) →
    place.rest ≡ w ++ rest → one_of_in words (w ++ rest) ≡ Ok (x, rest) → Back (one_of_at words) x place rest
head_back words x w rest place e h = (
  record { rest = rest; far = place.far },
  ap (λ r. placed place.far (one_of_in words r)) e ∙ ap
      (placed place.far) h,
  refl,
)

-- no plus, no part
no_head : {A : Type 0} (proc var inner end : A) (b : ℕ) (rest : List ℕ) → eqb 43 b ≡ false →
    one_of_in ((codes "+q*", proc) ∷ (codes "+v", var) ∷ (codes "+(", inner) ∷ ([], end) ∷ []) (b ∷ rest) ≡ Ok
    (end, b ∷ rest)
no_head proc var inner end b rest other = rw other refl

none_back : (inner : Place ℕ → Result (PlainExpr × Place ℕ) ℕ) (place : Place ℕ) (rest : List ℕ) →
    place.rest ≡ rest → begins goes_on rest ≡ false → Back (part_at inner) None place rest
none_back inner place [] e h =
    then_back (one_of_at part_heads) _ _ None place [] [] (head_back part_heads _ [] [] place e refl)
    (λ q1 e1. (q1, refl, e1))
none_back inner place (b ∷ rest) e h =
    then_back (one_of_at part_heads) _ _ None place (b ∷ rest) (b ∷ rest)
    (head_back part_heads _ [] (b ∷ rest) place e (no_head _ _ _ _ b rest (or_parts (is_digit b) (eqb 43 b) h).1))
    (λ q1 e1. (q1, refl, e1))

-- the number after a star is no second variable
no_second : (n : ℕ) (rest : List ℕ) → n < above_all →
    one_of_in second_heads (decimal n ++ rest) ≡ Ok (false, decimal n ++ rest)
no_second n rest fits =
    let first = first_digit n fits in
    let other : eqb 118 first.digit ≡ false = ne_eqb 118 first.digit (λ same. omega (arith, first.high, same)) in
    rw first.whole (rw other refl)

abbrev pub list_of : PlainParts → List PlainPart
list_of NoParts = []
list_of (AndParts part rest) = part ∷ list_of rest

parts_of-list_of : (ps : PlainParts) → parts_of (list_of ps) ≡ ps
parts_of-list_of NoParts = refl
parts_of-list_of (AndParts part rest) = ap (AndParts part) (parts_of-list_of rest)

part_counts : (p : PlainPart) → 1 ≤ part_parts p
part_counts (Proc factor) = omega arith
part_counts (Var depth factor) = omega arith
part_counts (Product outer inner factor) = omega arith
part_counts (Rem of divisor factor) = omega arith
part_counts (Quot of divisor factor) = omega arith

-- what comes after parentheses that are divided: `true` for a remainder
abbrev sign : Bool → List ℕ
sign k = cond k (codes ")%") (codes ")/")

sign_reader : (k : Bool) (place : Place ℕ) (rest : List ℕ) → place.rest ≡ sign k ++ rest →
    Back (one_of_at division_words) k place rest
sign_reader k place rest e =
    again Anything (one_of division_words) (one_of_at division_words)
    (one_of_reader Anything (codes ")%", true) ((codes ")/", false) ∷ []) refl) place (sign k) rest k (is k) tt e
  where
    is : (k : Bool) → one_of division_words (sign k) k
    is true = inl (refl, refl)
    is false = inr (inl (refl, refl))

-- ---- constants

-- a number ends before the mark where it would end without it
abbrev pub EndsNumbers : List ℕ → Type 0
EndsNumbers mark = (rest : List ℕ) → NoDigit rest → NoDigit (mark ++ rest)

constant_back : (mark : List ℕ) → EndsNumbers mark → (n : ℕ) (place : Place ℕ) (rest : List ℕ) → n < above_all →
    NoDigit rest → place.rest ≡ decimal n ++ (mark ++ rest) → Back (constant_at mark) n place rest
constant_back [] ends n place rest fits none e = number_back n place rest fits none e
constant_back (b ∷ mark) ends n place rest fits none e =
    let tail : List ℕ = (b ∷ mark) ++ rest in
    then_back (number_at above_all) _ n n place tail rest (number_back n place tail fits (ends rest none) e) (λ q1 e1.
    then_back (word_at (b ∷ mark)) _ tt n q1 rest rest (word_back (b ∷ mark) q1 rest e1) (λ q2 e2. (q2, refl, e2)))

shape_constant : (a b c d : List ℕ) → (a ++ (b ++ c)) ++ d ≡ a ++ (b ++ (c ++ d))
shape_constant a b c d = simp append_assoc

-- ---- places

module _ (mark : List ℕ) (ends : EndsNumbers mark) where
  abbrev place_text : PlainExpr → List ℕ
  place_text e = sum_with mark e

  abbrev parts_text : PlainParts → List ℕ
  parts_text parts = parts_with mark parts

  abbrev part_text : PlainPart → List ℕ
  part_text part = part_with mark part

  abbrev inside : ℕ → Place ℕ → Result (PlainExpr × Place ℕ) ℕ
  inside depth = marked_inner_at mark depth

  parts_no_digit : (ps : PlainParts) (rest : List ℕ) → begins goes_on rest ≡ false → NoDigit (parts_text ps ++ rest)
  parts_no_digit NoParts rest h = behind_no_digit rest h
  parts_no_digit (AndParts (Proc factor) ps) rest h = refl
  parts_no_digit (AndParts (Var depth factor) ps) rest h = refl
  parts_no_digit (AndParts (Product outer inner factor) ps) rest h = refl
  parts_no_digit (AndParts (Rem of divisor factor) ps) rest h = refl
  parts_no_digit (AndParts (Quot of divisor factor) ps) rest h = refl

  -- what is read back in parentheses, given how many are left to open
  InnerBack : ℕ → PlainExpr → Type 0
  InnerBack depth e = (place : Place ℕ) (rest : List ℕ) → place.rest ≡ place_text e ++ rest →
      begins goes_on rest ≡ false → Back (inside depth) e place rest

  division_back : (k : Bool) (depth : ℕ) (of : PlainExpr) (divisor factor : ℕ) → InnerBack depth of →
      is_small_positive divisor ≡ true → is_small_positive factor ≡ true → (place : Place ℕ) (rest : List ℕ) →
      place.rest ≡ codes "+(" ++ (place_text of ++ (sign k ++
      (decimal divisor ++ (codes "*" ++ (decimal factor ++ rest))))) →
      NoDigit rest → Back (part_at (inside depth)) (Some (divided of k divisor factor)) place rest
  unfolding InnerBack
  division_back k depth of divisor factor inner d f place rest e c =
      let last = codes "*" ++ (decimal factor ++ rest) in
      let numbers = decimal divisor ++ last in
      let tail = place_text of ++ (sign k ++ numbers) in
      then_back (one_of_at part_heads) _ _ _ place tail rest (head_back part_heads _ (codes "+(") tail place e refl)
      (λ q1 e1.
      then_back (inside depth) _ of _ q1 (sign k ++ numbers) rest
      (inner q1 (sign k ++ numbers) e1 (no_more k numbers)) (λ q2 e2.
      then_back (one_of_at division_words) _ k _ q2 numbers rest (sign_reader k q2 numbers e2) (λ q3 e3.
      then_back (number_at above_all) _ divisor _ q3 last rest
      (number_back divisor q3 last (positive_fits divisor d) refl e3) (λ q4 e4.
      then_back (named_number_at (codes "*") above_all) _ factor _ q4 rest rest
      (named_back (codes "*") factor q4 rest (positive_fits factor f) c e4)
      (λ q5 e5. (q5, refl, e5))))))
    where
      no_more : (k : Bool) (rest : List ℕ) → begins goes_on (sign k ++ rest) ≡ false
      no_more true rest = refl
      no_more false rest = refl

  proc_back : (depth factor : ℕ) → is_small_positive factor ≡ true → (place : Place ℕ) (rest : List ℕ) →
      place.rest ≡ part_text (Proc factor) ++ rest → NoDigit rest →
      Back (part_at (inside depth)) (Some (Proc factor)) place rest
  proc_back depth factor f place rest e c =
      let tail = decimal factor ++ rest in
      let start : place.rest ≡ codes "+q*" ++ tail = e ∙ simp append_assoc in
      then_back (one_of_at part_heads) _ _ _ place tail rest
      (head_back part_heads _ (codes "+q*") tail place start refl) (λ q1 e1.
      then_back (number_at above_all) _ factor _ q1 rest rest
      (number_back factor q1 rest (positive_fits factor f) c e1) (λ q2 e2. (q2, refl, e2)))

  var_back : (depth variable factor : ℕ) → variable < above_all → is_small_positive factor ≡ true →
      (place : Place ℕ) (rest : List ℕ) → place.rest ≡ part_text (Var variable factor) ++ rest → NoDigit rest →
      Back (part_at (inside depth)) (Some (Var variable factor)) place rest
  var_back depth variable factor v f place rest e c =
      let last = decimal factor ++ rest in
      let tail = decimal variable ++ (codes "*" ++ last) in
      let start : place.rest ≡ codes "+v" ++ tail = e ∙ simp append_assoc in
      then_back (one_of_at part_heads) _ _ _ place tail rest
      (head_back part_heads _ (codes "+v") tail place start refl) (λ q1 e1.
      then_back (number_at above_all) _ variable _ q1 (codes "*" ++ last) rest
      (number_back variable q1 (codes "*" ++ last) v refl e1) (λ q2 e2.
      then_back (word_at (codes "*")) _ tt _ q2 last rest (word_back (codes "*") q2 last e2) (λ q3 e3.
      then_back (one_of_at second_heads) _ false _ q3 last rest
      (head_back second_heads false [] last q3 e3 (no_second factor rest (positive_fits factor f))) (λ q4 e4.
      then_back (number_at above_all) _ factor _ q4 rest rest
      (number_back factor q4 rest (positive_fits factor f) c e4) (λ q5 e5. (q5, refl, e5))))))

  product_back : (depth outer inner factor : ℕ) → outer < above_all → inner < above_all →
      is_small_positive factor ≡ true → (place : Place ℕ) (rest : List ℕ) →
      place.rest ≡ part_text (Product outer inner factor) ++ rest → NoDigit rest →
      Back (part_at (inside depth)) (Some (Product outer inner factor)) place rest
  product_back depth outer inner factor o i f place rest e c =
      let star = codes "*" ++ (decimal factor ++ rest) in
      let last = decimal inner ++ star in
      let second = codes "*" ++ (codes "v" ++ last) in
      let tail = decimal outer ++ second in
      let start : place.rest ≡ codes "+v" ++ tail = e ∙ simp append_assoc in
      then_back (one_of_at part_heads) _ _ _ place tail rest
      (head_back part_heads _ (codes "+v") tail place start refl) (λ q1 e1.
      then_back (number_at above_all) _ outer _ q1 second rest (number_back outer q1 second o refl e1) (λ q2 e2.
      then_back (word_at (codes "*")) _ tt _ q2 (codes "v" ++ last) rest
      (word_back (codes "*") q2 (codes "v" ++ last) e2) (λ q3 e3.
      then_back (one_of_at second_heads) _ true _ q3 last rest
      (head_back second_heads true (codes "v") last q3 e3 refl) (λ q4 e4.
      then_back (number_at above_all) _ inner _ q4 star rest (number_back inner q4 star i refl e4) (λ q5 e5.
      then_back (named_number_at (codes "*") above_all) _ factor _ q5 rest rest
      (named_back (codes "*") factor q5 rest (positive_fits factor f) c e5)
      (λ q6 e6. (q6, refl, e6)))))))

  -- no more parts
  no_parts_back : (depth count : ℕ) (place : Place ℕ) (rest : List ℕ) → place.rest ≡ rest →
      begins goes_on rest ≡ false → Back (up_to_at count (part_at (inside depth))) [] place rest
  unfolding up_to_at
  no_parts_back depth zero place rest e b = (place, refl, e)
  no_parts_back depth (suc count) place rest e b =
      then_back (part_at (inside depth)) _ None [] place rest rest (none_back (inside depth) place rest e b)
      (λ q e1. (q, refl, e1))

  -- a part and more
  and_parts_back : (depth count : ℕ) (part : PlainPart) (parts : List PlainPart) (place : Place ℕ)
      (middle rest : List ℕ) → Back (part_at (inside depth)) (Some part) place middle
      → ((q : Place ℕ) → q.rest ≡ middle → Back (up_to_at count (part_at (inside depth))) parts q rest) →
      Back (up_to_at (suc count) (part_at (inside depth))) (part ∷ parts) place rest
  unfolding up_to_at
  and_parts_back depth count part parts place middle rest h more =
      then_back (part_at (inside depth)) _ (Some part) (part ∷ parts) place middle rest h (λ q e.
      then_back (up_to_at count (part_at (inside depth))) _ parts (part ∷ parts) q rest rest (more q e)
      (λ q2 e2. (q2, refl, e2)))

  -- a constant and its parts
  sum_back_by : (depth constant : ℕ) (ps : PlainParts) → constant < above_all → (place : Place ℕ) (rest : List ℕ) →
      place.rest ≡ place_text (Sum constant ps) ++ rest → begins goes_on rest ≡ false
      → ((q : Place ℕ) → q.rest ≡ parts_text ps ++ rest → Back (up_to_at 64 (part_at (inside depth))) (list_of ps) q
      rest) → Back (marked_sum_at mark depth) (Sum constant ps) place rest
  sum_back_by depth constant ps c place rest e b parts =
      let tail : List ℕ = parts_text ps ++ rest in
      then_back (constant_at mark) _ constant _ place tail rest
      (constant_back mark ends constant place tail c (parts_no_digit ps rest b)
      (e ∙ shape_constant (decimal constant) mark (parts_text ps) rest)) (λ q1 e1.
      then_back (up_to_at 64 (part_at (inside depth))) _ (list_of ps) _ q1 rest rest (parts q1 e1)
      (λ q2 e2. (q2, ap (λ xs. Ok (Sum constant xs, q2)) (parts_of-list_of ps), e2)))

  mutual
    unfolding InnerBack marked_inner_at

    place_back : (e : PlainExpr) (depth open_loops : ℕ) → is_sum_within e open_loops ≡ true → open_loops ≤ 64 →
        sum_parts e ≤ 64 → sum_depth e ≤ depth
        → (place : Place ℕ) (rest : List ℕ) → place.rest ≡ place_text e ++ rest → begins goes_on rest ≡ false →
        Back (marked_sum_at mark depth) e place rest
    place_back (Sum constant ps) depth open_loops w few_open few deep place rest e b =
        let limits = and_parts (is_small constant) (are_parts_within ps open_loops 0) w in
        sum_back_by depth constant ps (small_fits constant limits.0) place rest e b
        (λ q e1. parts_back ps depth open_loops 0 64 limits.1 few_open few few deep q rest e1 b)

    parts_back : (ps : PlainParts) (depth open_loops least count : ℕ) → are_parts_within ps open_loops least ≡ true →
        open_loops ≤ 64 → all_parts ps ≤ 64 → all_parts ps ≤ count → parts_depth ps ≤ depth
        → (place : Place ℕ) (rest : List ℕ) → place.rest ≡ parts_text ps ++ rest → begins goes_on rest ≡ false →
        Back (up_to_at count (part_at (inside depth))) (list_of ps) place rest
    parts_back NoParts depth open_loops least count w few_open few all deep place rest e b =
        no_parts_back depth count place rest e b
    parts_back (AndParts p ps) depth open_loops least zero w few_open few all deep place rest e b =
        absurd (omega (arith, part_counts p, all))
    parts_back (AndParts p ps) depth open_loops least (suc count) w few_open few all deep place rest e b =
        let limits = and_parts (is_part_within p open_loops)
        (leb least (rank p) && are_parts_within ps open_loops (next_rank p)) w in
        let h = part_back p depth open_loops limits.0 few_open (omega (arith, few)) (omega (arith, deep)) place
        (parts_text ps ++ rest) (e ∙ append_assoc (part_text p) (parts_text ps) rest) (parts_no_digit ps rest b) in
        and_parts_back depth count p (list_of ps) place (parts_text ps ++ rest) rest h (λ q e1.
        parts_back ps depth open_loops (next_rank p) count
        (and_parts (leb least (rank p)) (are_parts_within ps open_loops (next_rank p)) limits.1).1 few_open
        (omega (arith, few)) (omega (arith, all, part_counts p)) (omega (arith, deep)) q rest e1 b)

    part_back : (p : PlainPart) (depth open_loops : ℕ) → is_part_within p open_loops ≡ true → open_loops ≤ 64 →
        part_parts p ≤ 64 → part_depth p ≤ depth
        → (place : Place ℕ) (rest : List ℕ) → place.rest ≡ part_text p ++ rest → NoDigit rest →
        Back (part_at (inside depth)) (Some p) place rest
    part_back (Proc factor) depth open_loops w few_open few deep place rest e c = proc_back depth factor w place rest e c
    part_back (Var variable factor) depth open_loops w few_open few deep place rest e c =
        let limits = and_parts (ltb variable open_loops) (is_small_positive factor) w in
        var_back depth variable factor (omega (arith, ltb-true variable open_loops limits.0, few_open)) limits.1 place
        rest e c
    part_back (Product outer inner factor) depth open_loops w few_open few deep place rest e c =
        let limits = and_parts (ltb outer inner) (ltb inner open_loops && is_small_positive factor) w in
        let others = and_parts (ltb inner open_loops) (is_small_positive factor) limits.1 in
        product_back depth outer inner factor
        (omega (arith, ltb-true outer inner limits.0, ltb-true inner open_loops others.0, few_open))
        (omega (arith, ltb-true inner open_loops others.0, few_open)) others.1 place rest e c
    part_back (Rem of divisor factor) zero open_loops w few_open few deep place rest e c = absurd (omega (arith, deep))
    part_back (Rem of divisor factor) (suc depth) open_loops w few_open few deep place rest e c =
        let limits = and_parts (is_sum_within of open_loops) (is_small_positive divisor && is_small_positive factor) w in
        let numbers = and_parts (is_small_positive divisor) (is_small_positive factor) limits.1 in
        division_back true (suc depth) of divisor factor
        (λ q r e1 b. place_back of depth open_loops limits.0 few_open (omega (arith, few)) (omega (arith, deep)) q r e1 b)
        numbers.0 numbers.1 place rest (e ∙ simp append_assoc) c
    part_back (Quot of divisor factor) zero open_loops w few_open few deep place rest e c = absurd (omega (arith, deep))
    part_back (Quot of divisor factor) (suc depth) open_loops w few_open few deep place rest e c =
        let limits = and_parts (is_sum_within of open_loops) (is_small_positive divisor && is_small_positive factor) w in
        let numbers = and_parts (is_small_positive divisor) (is_small_positive factor) limits.1 in
        division_back false (suc depth) of divisor factor
        (λ q r e1 b. place_back of depth open_loops limits.0 few_open (omega (arith, few)) (omega (arith, deep)) q r e1 b)
        numbers.0 numbers.1 place rest (e ∙ simp append_assoc) c

  -- a place within its limits
  pub sum_back : (e : PlainExpr) (open_loops : ℕ) → is_expr_within e open_loops ≡ true → open_loops ≤ 64 →
      (place : Place ℕ) (rest : List ℕ) → place.rest ≡ place_text e ++ rest → begins goes_on rest ≡ false →
      Back (marked_sum_at mark 64) e place rest
  sum_back e open_loops w few_open place rest is none =
      let limits = and_parts (is_sum_within e open_loops) (leb (sum_parts e) 64 && leb (sum_depth e) 64) w in
      let counts = and_parts (leb (sum_parts e) 64) (leb (sum_depth e) 64) limits.1 in
      place_back e 64 open_loops limits.0 few_open (leb-true (sum_parts e) 64 counts.0)
      (leb-true (sum_depth e) 64 counts.1) place rest is none
