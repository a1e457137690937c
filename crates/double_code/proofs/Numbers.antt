-- Lists of numbers, and the residues that they stand for.
use Rattle.std.proofs.Common.{◌≡◌, ℕ, zero, suc, ◌+◌, ◌*◌, ◌<◌, ◌≤◌, List, [], ◌∷◌, ◌++◌, length, map, flat_map}
use Rattle.std.proofs.Common.{ℤ, pos}
use Rattle.std.proofs.Common.{replicate, refl, sym, ap, ap₂, ◌∙◌, subst, arith, length-append}
use Rattle.std.specs.Prelude.{slice_index, slice_index_or, slice_set}
use Rattle.std.specs.List.{range_with_len}
use Rattle.std.proofs.Math.Nat.{zero-mod}
use Rattle.std.proofs.lemmas.List.{map-set, map-append}
use Rattle.std.proofs.lemmas.List.FromFn.{length-map-range_with_len}
use Rattle.icode.specs.Machine.{words_at, with_words, lane_by_lane, transposed}
use Rattle.double_code.specs.DoubleMachine.{numbers_at, with_numbers, lane_by_two, turned}
use Rattle.double_code.specs.Products.{residue}

-- the number at place i, or 0
abbrev pub number : List ℤ → ℕ → ℤ
number xs i = slice_index_or xs i (pos 0)

-- the residues modulo m of the numbers
abbrev pub residues : ℕ → List ℤ → List ℕ
residues m xs = map (residue m) xs

pub residues-index : (m : ℕ) (xs : List ℤ) (i : ℕ) → slice_index (residues m xs) i ≡ residue m (number xs i)
residues-index m [] i = sym (zero-mod m)
residues-index m (x ∷ xs) zero = refl
residues-index m (x ∷ xs) (suc i) = residues-index m xs i

pub residues-numbers_at : (m n : ℕ) (xs : List ℤ) (i : ℕ) →
    words_at n (residues m xs) i ≡ residues m (numbers_at n xs i)
residues-numbers_at m zero xs i = refl
residues-numbers_at m (suc n) xs i =
    ap₂ (λ y ys. y ∷ ys) (residues-index m xs i) (residues-numbers_at m n xs (i + 1))

pub residues-with_numbers : (m : ℕ) (vs xs : List ℤ) (i : ℕ) →
    with_words (residues m xs) i (residues m vs) ≡ residues m (with_numbers xs i vs)
residues-with_numbers m [] xs i = refl
residues-with_numbers m (v ∷ vs) xs i =
    ap (λ ys. with_words ys (i + 1) (residues m vs)) (sym (map-set (residue m) xs i v))
    ∙ residues-with_numbers m vs (slice_set xs i v) (i + 1)

pub residues-zeros : (m n : ℕ) → residues m (replicate n (pos 0)) ≡ replicate n 0
residues-zeros m zero = refl
residues-zeros m (suc n) = ap₂ (λ y ys. y ∷ ys) (zero-mod m) (residues-zeros m n)

residues-row : (m : ℕ) (f : ℕ → ℕ) (g : ℕ → ℤ) → ((l : ℕ) → f l ≡ residue m (g l)) → (ls : List ℕ) →
    map f ls ≡ residues m (map g ls)
residues-row m f g e [] = refl
residues-row m f g e (l ∷ ls) = ap₂ (λ y ys. y ∷ ys) (e l) (residues-row m f g e ls)

residues-rows : (m : ℕ) (f : ℕ → ℕ → ℕ) (g : ℕ → ℕ → ℤ) → ((k l : ℕ) → f k l ≡ residue m (g k l)) → (ks ls : List ℕ) →
    flat_map (λ k. map (f k) ls) ks ≡ residues m (flat_map (λ k. map (g k) ls) ks)
residues-rows m f g e [] ls = refl
residues-rows m f g e (k ∷ ks) ls =
    ap₂ (λ xs ys. xs ++ ys) (residues-row m (f k) (g k) (e k) ls) (residues-rows m f g e ks ls)
    ∙ sym (map-append (residue m) (map (g k) ls) (flat_map (λ k. map (g k) ls) ks))

pub residues-turned : (m lanes : ℕ) (registers : List ℤ) (source : ℕ) →
    transposed lanes (residues m registers) source ≡ residues m (turned lanes registers source)
residues-turned m lanes registers source =
    residues-rows m
    (λ k l. slice_index (residues m registers) ((source + l) * lanes + k))
    (λ k l. number registers ((source + l) * lanes + k))
    (λ k l. residues-index m registers ((source + l) * lanes + k))
    (range_with_len 0 lanes) (range_with_len 0 lanes)

-- ---- what each number of a list has

abbrev pub Each : (ℤ → Type 0) → List ℤ → Type 0
Each P [] = Unit {0}
Each P (x ∷ xs) = P x × Each P xs

each-append : (P : ℤ → Type 0) (xs ys : List ℤ) → Each P xs → Each P ys → Each P (xs ++ ys)
each-append P [] ys a b = b
each-append P (x ∷ xs) ys a b = (a.0, each-append P xs ys a.1 b)

pub each-numbers_at : (P : ℤ → Type 0) (n : ℕ) (xs : List ℤ) (i : ℕ) →
    ((l : ℕ) → l < n → P (number xs (i + l))) → Each P (numbers_at n xs i)
each-numbers_at P zero xs i h = tt
each-numbers_at P (suc n) xs i h =
    let same : i + 0 ≡ i = omega arith in (
      subst (λ k. P (number xs k)) same (h 0 (omega arith)),
      each-numbers_at P n xs (i + 1) (λ l lt.
          let place : i + suc l ≡ i + 1 + l = omega arith in
          subst (λ k. P (number xs k)) place (h (suc l) (omega arith))),
    )

pub each-zeros : (P : ℤ → Type 0) (n : ℕ) → P (pos 0) → Each P (replicate n (pos 0))
each-zeros P zero p = tt
each-zeros P (suc n) p = (p, each-zeros P n p)

pub each-turned : (P : ℤ → Type 0) (lanes : ℕ) (registers : List ℤ) (source : ℕ) →
    ((k l : ℕ) → k < lanes → l < lanes → P (number registers ((source + l) * lanes + k))) →
    Each P (turned lanes registers source)
each-turned P lanes registers source h = rows lanes 0 (λ k lt. omega arith)
  where
    row : (k n from : ℕ) → k < lanes → ((l : ℕ) → l < from + n → l < lanes) →
        Each P (map (λ l. number registers ((source + l) * lanes + k)) (range_with_len from n))
    row k zero from lt within = tt
    row k (suc n) from lt within = (
      h k from lt (within from (omega arith)),
      row k n (from + 1) lt (λ l less. within l (omega arith)),
    )

    rows : (n from : ℕ) → ((k : ℕ) → k < from + n → k < lanes) →
        Each P (flat_map (λ k. map (λ l. number registers ((source + l) * lanes + k))
        (range_with_len 0 lanes)) (range_with_len from n))
    rows zero from within = tt
    rows (suc n) from within =
        each-append P (map (λ l. number registers ((source + l) * lanes + from)) (range_with_len 0 lanes)) _
        (row from lanes 0 (within from (omega arith)) (λ l less. omega arith))
        (rows n (from + 1) (λ k less. within k (omega arith)))

-- ---- numbers that are made lane by lane

pub each_map : (m : ℕ) (P R : ℤ → Type 0) (f : ℕ → ℕ) (g : ℤ → ℤ) →
    ((a : ℤ) → P a → (f (residue m a) ≡ residue m (g a)) × R (g a)) → (xs : List ℤ) → Each P xs →
    (map f (residues m xs) ≡ residues m (map g xs)) × Each R (map g xs)
each_map m P R f g h [] low = (refl, tt)
each_map m P R f g h (x ∷ xs) low =
    let rest = each_map m P R f g h xs low.1 in
    let here = h x low.0 in
    (ap₂ (λ y ys. y ∷ ys) here.0 rest.0, (here.1, rest.1))

pub each_two : (m : ℕ) (P Q R : ℤ → Type 0) (f : ℕ → ℕ → ℕ) (g : ℤ → ℤ → ℤ) →
    ((a b : ℤ) → P a → Q b → (f (residue m a) (residue m b) ≡ residue m (g a b)) × R (g a b)) →
    (xs ys : List ℤ) → Each P xs → Each Q ys →
    (lane_by_lane f (residues m xs) (residues m ys) ≡ residues m (lane_by_two g xs ys))
    × Each R (lane_by_two g xs ys)
each_two m P Q R f g h (x ∷ xs) (y ∷ ys) low low_too =
    let rest = each_two m P Q R f g h xs ys low.1 low_too.1 in
    let here = h x y low.0 low_too.0 in
    (ap₂ (λ z zs. z ∷ zs) here.0 rest.0, (here.1, rest.1))
each_two m P Q R f g h _ _ low low_too = (refl, tt)

-- ---- lengths

pub length-numbers_at : (n : ℕ) (xs : List ℤ) (i : ℕ) → length (numbers_at n xs i) ≡ n
length-numbers_at zero xs i = refl
length-numbers_at (suc n) xs i = ap suc (length-numbers_at n xs (i + 1))

pub length-lanes : (f : ℤ → ℤ → ℤ) (xs ys : List ℤ) → length xs ≤ length ys → length (lane_by_two f xs ys) ≡ length xs
length-lanes f [] ys le = refl
length-lanes f (x ∷ xs) [] le = absurd (omega arith)
length-lanes f (x ∷ xs) (y ∷ ys) le = ap suc (length-lanes f xs ys (omega arith))

pub length-mapped : (f : ℤ → ℤ) (xs : List ℤ) → length (map f xs) ≡ length xs
length-mapped f [] = refl
length-mapped f (x ∷ xs) = ap suc (length-mapped f xs)

length-rows : (f : ℕ → ℕ → ℤ) (wide n from : ℕ) → length (flat_map (λ k. map (f k) (range_with_len 0 wide))
    (range_with_len from n)) ≡ n * wide
length-rows f wide zero from = omega arith
length-rows f wide (suc n) from =
    let rest = length-rows f wide n (from + 1) in
    let row = length-map-range_with_len (f from) 0 wide in
    length-append (map (f from) (range_with_len 0 wide))
    (flat_map (λ k. map (f k) (range_with_len 0 wide)) (range_with_len (from + 1) n)) ∙ omega (arith, rest, row)

pub length-turned : (lanes : ℕ) (registers : List ℤ) (source : ℕ) →
    length (turned lanes registers source) ≡ lanes * lanes
length-turned lanes registers source = length-rows (λ k l. number registers ((source + l) * lanes + k)) lanes lanes 0
