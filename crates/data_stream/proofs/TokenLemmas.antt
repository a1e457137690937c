-- How a token grows, byte by byte.
use Rattle.std.proofs.Common.{◌≡◌, ◌<◌, ◌≤◌, ◌+◌, ◌-◌, ◌*◌, ◌^◌, ℕ, Bool, true, false, ◌&&◌, List, [], ◌∷◌, ◌++◌}
use Rattle.std.proofs.Common.{length, refl, sym, ap, ◌∙◌, arith, length-append}
use Rattle.std.proofs.lemmas.Grind.{common_steps}
use Rattle.std.proofs.lemmas.List.Folds.{list_all-append}
use Rattle.std.specs.List.{list_all}
use Rattle.std.specs.Char.{is_ascii_digit}
use Rattle.data_stream.specs.Data.{value_after, value_of, is_good}
use Rattle.data_stream.specs.Token.{IsDigits}

pub value_after-append : (n : ℕ) (xs ys : List ℕ) → value_after n (xs ++ ys) ≡ value_after (value_after n xs) ys
value_after-append n [] ys = refl
value_after-append n (x ∷ xs) ys = value_after-append (n * 10 + (x - 48)) xs ys

pub value_after-ge : (n : ℕ) (xs : List ℕ) → n ≤ value_after n xs
value_after-ge n [] = omega arith
value_after-ge n (x ∷ xs) = let rest = value_after-ge (n * 10 + (x - 48)) xs in omega arith

pub value_of_push : (xs : List ℕ) (x : ℕ) → value_of (xs ++ x ∷ []) ≡ value_of xs * 10 + (x - 48)
value_of_push xs x = value_after-append 0 xs (x ∷ [])

pub both_left : (a b : Bool) → (a && b) ≡ true → a ≡ true
both_left true b h = refl
both_left false b h = h

pub both_right : (a b : Bool) → (a && b) ≡ true → b ≡ true
both_right true b h = h
both_right false b h = absurd (grind arith)

-- what makes a token good
pub record IsGood (token : List ℕ) : Type 0 where
  pub digits : list_all is_ascii_digit token ≡ true
  pub some : 0 < length token
  pub short : length token ≤ 20
  pub fits : value_of token < 2 ^ 64

pub good_parts : (token : List ℕ) → is_good token ≡ true → IsGood token
good_parts token h = grind (arith, common_steps)

pub good_made : (token : List ℕ) → IsGood token → is_good token ≡ true
good_made token h = grind (arith, common_steps, h.digits, h.some, h.short, h.fits)

-- the front of a good token is good
pub good_front : (xs ys : List ℕ) → 0 < length xs → is_good (xs ++ ys) ≡ true → is_good xs ≡ true
good_front xs ys some h =
    let whole = good_parts (xs ++ ys) h in
    let grown : value_of (xs ++ ys) ≡ value_after (value_of xs) ys = value_after-append 0 xs ys in
    let rising = value_after-ge (value_of xs) ys in
    let longer : length (xs ++ ys) ≡ length xs + length ys = length-append xs ys in
    good_made xs (record {
      digits = both_left (list_all is_ascii_digit xs) (list_all is_ascii_digit ys) (sym (list_all-append is_ascii_digit xs ys) ∙ whole.digits);
      some = some;
      short = let short = whole.short in omega arith;
      fits = let fits = whole.fits in omega arith;
    })

-- one digit more
pub digits_push : (count number byte : ℕ) (bytes : List ℕ) → IsDigits count number bytes → is_ascii_digit byte ≡ true →
    count < 20
    → number * 10 + (byte - 48) < 2 ^ 64 → IsDigits (count + 1) (number * 10 + (byte - 48)) (bytes ++ byte ∷ [])
digits_push count number byte bytes d is_digit more fits = record {
  count = length-append bytes (byte ∷ []) ∙ ap (λ n. n + 1) d.count;
  value = value_of_push bytes byte ∙ ap (λ n. n * 10 + (byte - 48)) d.value;
  digits = list_all-append is_ascii_digit bytes (byte ∷ []) ∙ simp (d.digits, is_digit);
  short = let longer = length-append bytes (byte ∷ []) in let at = d.count in omega arith;
  fits = fits;
}

pub not_true : (b : Bool) → (b ≡ true → ⊥) → b ≡ false
not_true true h = absurd (h refl)
not_true false h = refl

pub bad_value : (count number byte : ℕ) (bytes : List ℕ) → IsDigits count number bytes →
    2 ^ 64 ≤ number * 10 + (byte - 48) → is_good (bytes ++ byte ∷ []) ≡ false
bad_value count number byte bytes d large = not_true _ (λ h.
    let whole = good_parts (bytes ++ byte ∷ []) h in
    let grown = value_of_push bytes byte in
    let at = d.value in
    let fits = whole.fits in
    omega arith)

-- what a bad token begins is not good
pub bad_longer : (xs ys : List ℕ) → 0 < length xs → is_good xs ≡ false → is_good (xs ++ ys) ≡ false
bad_longer xs ys some bad = not_true _ (λ h. let front = good_front xs ys some h in cc)

-- digits, at least one of them, are good
pub digits_good : (count number : ℕ) (bytes : List ℕ) → IsDigits count number bytes → 0 < count → is_good bytes ≡ true
digits_good count number bytes d some = good_made bytes (record {
  digits = d.digits;
  some = let at = d.count in omega arith;
  short = d.short;
  fits = let at = d.value in let fits = d.fits in omega arith;
})
