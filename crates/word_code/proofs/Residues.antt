-- Lists of words, and the residues that they stand for.
use Rattle.std.proofs.Common.{◌≡◌, ℕ, zero, suc, ◌+◌, ◌*◌, ◌%◌, ◌<◌, ◌≤◌, List, [], ◌∷◌, ◌++◌, length, map, flat_map}
use Rattle.std.proofs.Common.{replicate, refl, sym, ap, ap₂, ◌∙◌, arith}
use Rattle.std.specs.Prelude.{slice_index, slice_set}
use Rattle.std.specs.List.{range_with_len}
use Rattle.std.proofs.Math.Nat.{zero-mod}
use Rattle.std.proofs.lemmas.List.{map-set, map-append}
use Rattle.ring_mod.specs.Residue.{product_mod}
use Rattle.icode.specs.Machine.{words_at, with_words, lane_by_lane, transposed}
use Rattle.word_code.specs.Words.{Width, base_of, quotient_of, lazy_product, product_bound}
use Rattle.word_code.specs.WordMachine.{lane_by_three}
use Rattle.word_code.proofs.Arithmetic.{product_word}

-- the residues modulo m of the words
abbrev pub residues : ℕ → List ℕ → List ℕ
residues m xs = map (λ w. w % m) xs

pub residues-index : (m : ℕ) (xs : List ℕ) (i : ℕ) → slice_index (residues m xs) i ≡ slice_index xs i % m
residues-index m [] i = sym (zero-mod m)
residues-index m (x ∷ xs) zero = refl
residues-index m (x ∷ xs) (suc i) = residues-index m xs i

pub residues-words_at : (m n : ℕ) (xs : List ℕ) (i : ℕ) → words_at n (residues m xs) i ≡ residues m (words_at n xs i)
residues-words_at m zero xs i = refl
residues-words_at m (suc n) xs i = ap₂ (λ y ys. y ∷ ys) (residues-index m xs i) (residues-words_at m n xs (i + 1))

pub residues-with_words : (m : ℕ) (vs xs : List ℕ) (i : ℕ) →
    with_words (residues m xs) i (residues m vs) ≡ residues m (with_words xs i vs)
residues-with_words m [] xs i = refl
residues-with_words m (v ∷ vs) xs i =
    ap (λ ys. with_words ys (i + 1) (residues m vs)) (sym (map-set (λ w. w % m) xs i v))
    ∙ residues-with_words m vs (slice_set xs i v) (i + 1)

pub residues-zeros : (m n : ℕ) → residues m (replicate n 0) ≡ replicate n 0
residues-zeros m zero = refl
residues-zeros m (suc n) = ap₂ (λ y ys. y ∷ ys) (zero-mod m) (residues-zeros m n)

residues-row : (m : ℕ) (f g : ℕ → ℕ) → ((l : ℕ) → f l ≡ g l % m) → (ls : List ℕ) → map f ls ≡ residues m (map g ls)
residues-row m f g e [] = refl
residues-row m f g e (l ∷ ls) = ap₂ (λ y ys. y ∷ ys) (e l) (residues-row m f g e ls)

residues-rows : (m : ℕ) (f g : ℕ → ℕ → ℕ) → ((k l : ℕ) → f k l ≡ g k l % m) → (ks ls : List ℕ) →
    flat_map (λ k. map (f k) ls) ks ≡ residues m (flat_map (λ k. map (g k) ls) ks)
residues-rows m f g e [] ls = refl
residues-rows m f g e (k ∷ ks) ls =
    ap₂ (λ xs ys. xs ++ ys) (residues-row m (f k) (g k) (e k) ls) (residues-rows m f g e ks ls)
    ∙ sym (map-append (λ w. w % m) (map (g k) ls) (flat_map (λ k. map (g k) ls) ks))

pub residues-transposed : (m lanes : ℕ) (registers : List ℕ) (source : ℕ) →
    transposed lanes (residues m registers) source ≡ residues m (transposed lanes registers source)
residues-transposed m lanes registers source =
    residues-rows m
    (λ k l. slice_index (residues m registers) ((source + l) * lanes + k))
    (λ k l. slice_index registers ((source + l) * lanes + k))
    (λ k l. residues-index m registers ((source + l) * lanes + k))
    (range_with_len 0 lanes) (range_with_len 0 lanes)

-- words below a bound
abbrev pub AllBelow : ℕ → List ℕ → Type 0
AllBelow bound [] = Unit {0}
AllBelow bound (x ∷ xs) = (x < bound) × AllBelow bound xs

pub below-append : (bound : ℕ) (xs ys : List ℕ) → AllBelow bound xs → AllBelow bound ys → AllBelow bound (xs ++ ys)
below-append bound [] ys a b = b
below-append bound (x ∷ xs) ys a b = (a.0, below-append bound xs ys a.1 b)

pub below-words_at : (bound n : ℕ) (xs : List ℕ) (i : ℕ) → ((l : ℕ) → l < n → slice_index xs (i + l) < bound) →
    AllBelow bound (words_at n xs i)
below-words_at bound zero xs i h = tt
below-words_at bound (suc n) xs i h =
    let first : slice_index xs (i + 0) < bound = h 0 (omega arith) in
    let same : i + 0 ≡ i = omega arith in (
      rw same at first,
      below-words_at bound n xs (i + 1) (λ l lt.
          let next : slice_index xs (i + suc l) < bound = h (suc l) (omega arith) in
          let place : i + suc l ≡ i + 1 + l = omega arith in
          rw place at next),
    )

pub below-zeros : (bound n : ℕ) → 0 < bound → AllBelow bound (replicate n 0)
below-zeros bound zero pos = tt
below-zeros bound (suc n) pos = (pos, below-zeros bound n pos)

-- words that are made lane by lane

pub lazy_map : (m p r : ℕ) (f g : ℕ → ℕ) → ((a : ℕ) → a < p → (f (a % m) ≡ g a % m) × (g a < r)) → (xs : List ℕ) →
    AllBelow p xs →
    (map f (residues m xs) ≡ residues m (map g xs)) × AllBelow r (map g xs)
lazy_map m p r f g h [] low = (refl, tt)
lazy_map m p r f g h (x ∷ xs) low =
    let rest = lazy_map m p r f g h xs low.1 in
    let here = h x low.0 in
    (ap₂ (λ y ys. y ∷ ys) here.0 rest.0, (here.1, rest.1))

pub lazy_lanes : (m p q r : ℕ) (f g : ℕ → ℕ → ℕ) → ((a b : ℕ) → a < p → b < q →
    (f (a % m) (b % m) ≡ g a b % m) × (g a b < r)) → (xs ys : List ℕ) → AllBelow p xs → AllBelow q ys →
    (lane_by_lane f (residues m xs) (residues m ys) ≡ residues m (lane_by_lane g xs ys))
    × AllBelow r (lane_by_lane g xs ys)
lazy_lanes m p q r f g h (x ∷ xs) (y ∷ ys) low low_too =
    let rest = lazy_lanes m p q r f g h xs ys low.1 low_too.1 in
    let here = h x y low.0 low_too.0 in
    (ap₂ (λ z zs. z ∷ zs) here.0 rest.0, (here.1, rest.1))
lazy_lanes m p q r f g h _ _ low low_too = (refl, tt)

-- the factors' quotients
abbrev pub AreQuotients : ℕ → ℕ → List ℕ → List ℕ → Type 0
AreQuotients base m [] [] = Unit {0}
AreQuotients base m [] (q ∷ qs) = ⊥
AreQuotients base m (c ∷ cs) [] = ⊥
AreQuotients base m (c ∷ cs) (q ∷ qs) = (q ≡ quotient_of base m c) × AreQuotients base m cs qs

pub lazy_products : (w : Width) (m p : ℕ) → 0 < w.half → 0 < m → product_bound w * m ≤ base_of w → p ≤ base_of w →
    (xs cs qs : List ℕ) → AllBelow p xs → AreQuotients (base_of w) m cs qs →
    (lane_by_lane (product_mod m) (residues m xs) cs ≡ residues m (lane_by_three (lazy_product w m) xs cs qs))
    × AllBelow (product_bound w * m) (lane_by_three (lazy_product w m) xs cs qs)
lazy_products w m p pos positive room small (x ∷ xs) (c ∷ cs) [] low are = absurd are
lazy_products w m p pos positive room small (x ∷ xs) (c ∷ cs) (q ∷ qs) low are =
    let rest = lazy_products w m p pos positive room small xs cs qs low.1 are.1 in
    let first : x < p = low.0 in
    let here = product_word w m x c q pos positive room (omega (arith, first, small)) are.0 in
    (ap₂ (λ z zs. z ∷ zs) here.0 rest.0, (here.1, rest.1))
lazy_products w m p pos positive room small _ _ qs low are = (refl, tt)

pub length-three : (f : ℕ → ℕ → ℕ → ℕ) (base m : ℕ) (xs cs qs : List ℕ) → length xs ≤ length cs →
    AreQuotients base m cs qs → length (lane_by_three f xs cs qs) ≡ length xs
length-three f base m [] cs qs le are = refl
length-three f base m (x ∷ xs) [] qs le are = absurd (omega arith)
length-three f base m (x ∷ xs) (c ∷ cs) [] le are = absurd are
length-three f base m (x ∷ xs) (c ∷ cs) (q ∷ qs) le are = ap suc (length-three f base m xs cs qs (omega arith) are.1)

pub below-transposed : (bound lanes : ℕ) (registers : List ℕ) (source : ℕ) →
    ((k l : ℕ) → k < lanes → l < lanes → slice_index registers ((source + l) * lanes + k) < bound) →
    AllBelow bound (transposed lanes registers source)
below-transposed bound lanes registers source h = rows lanes 0 (λ k lt. omega arith)
  where
    row : (k n from : ℕ) → k < lanes → ((l : ℕ) → l < from + n → l < lanes) →
        AllBelow bound (map (λ l. slice_index registers ((source + l) * lanes + k)) (range_with_len from n))
    row k zero from lt within = tt
    row k (suc n) from lt within = (h k from lt (within from (omega arith)), row k n (from + 1) lt (λ l less. within l (omega arith)))

    rows : (n from : ℕ) → ((k : ℕ) → k < from + n → k < lanes) →
        AllBelow bound (flat_map (λ k. map (λ l. slice_index registers ((source + l) * lanes + k))
        (range_with_len 0 lanes)) (range_with_len from n))
    rows zero from within = tt
    rows (suc n) from within =
        below-append bound (map (λ l. slice_index registers ((source + l) * lanes + from)) (range_with_len 0 lanes)) _
        (row from lanes 0 (within from (omega arith)) (λ l less. omega arith))
        (rows n (from + 1) (λ k less. within k (omega arith)))
