-- Bounds of words in memory and in registers, and writes to them.
use Rattle.std.proofs.Common.{◌≡◌, ℕ, zero, suc, ◌+◌, ◌-◌, ◌*◌, ◌<◌, ◌≤◌, ◌⊎◌, inl, inr, List, [], ◌∷◌, length, sym, ap}
use Rattle.std.proofs.Common.{◌∙◌, subst, arith, mul-le-mul_left, ⊎_elim}
use Rattle.std.specs.Prelude.{slice_index, slice_set}
use Rattle.std.proofs.lemmas.Bool.{cases_lt}
use Rattle.icode.specs.Machine.{with_words, register_of}
use Rattle.icode.proofs.SequenceLemmas.Placing.{with_words_elsewhere}
use Rattle.word_code.proofs.Residues.{AllBelow, below-words_at}

set_here : (xs : List ℕ) (i v bound : ℕ) → v < bound → slice_index (slice_set xs i v) i < bound
set_here [] i v bound lt = omega arith
set_here (x ∷ xs) zero v bound lt = lt
set_here (x ∷ xs) (suc i) v bound lt = set_here xs i v bound lt

-- a word that is written, or 0 past the end
pub written_below : (vs xs : List ℕ) (i l bound : ℕ) → l < length vs → AllBelow bound vs →
    slice_index (with_words xs i vs) (i + l) < bound
written_below [] xs i l bound lt low = absurd (omega arith)
written_below (v ∷ vs) xs i zero bound lt low =
    let same : i + 0 ≡ i = omega arith in
    let value : slice_index (with_words xs i (v ∷ vs)) (i + 0) ≡ slice_index (slice_set xs i v) i =
    ap (slice_index (with_words (slice_set xs i v) (i + 1) vs)) same
    ∙ with_words_elsewhere vs (slice_set xs i v) (i + 1) i (λ a b. omega arith) in
    subst (λ n. n < bound) (sym value) (set_here xs i v bound low.0)
written_below (v ∷ vs) xs i (suc l) bound lt low =
    let place : i + suc l ≡ i + 1 + l = omega arith in
    subst (λ n. slice_index (with_words (slice_set xs i v) (i + 1) vs) n < bound) (sym place)
    (written_below vs (slice_set xs i v) (i + 1) l bound (omega arith) low.1)

-- a word that is not
pub left_below : (vs xs : List ℕ) (i k bound : ℕ) → (i ≤ k → k < i + length vs → ⊥) → slice_index xs k < bound →
    slice_index (with_words xs i vs) k < bound
left_below vs xs i k bound apart lt = subst (λ n. n < bound) (sym (with_words_elsewhere vs xs i k apart)) lt

-- either
pub write_below : (vs xs : List ℕ) (i k low bound : ℕ) → AllBelow low vs → (i ≤ k → k < i + length vs → low ≤ bound) →
    slice_index xs k < bound → slice_index (with_words xs i vs) k < bound
write_below vs xs i k low bound are fits lt =
    ⊎_elim
    (λ (before : k < i). left_below vs xs i k bound (λ a b. omega arith) lt)
    (λ (from : i ≤ k). ⊎_elim
    (λ (inside : k < i + length vs).
    let l : i + (k - i) ≡ k = omega arith in
    let here : slice_index (with_words xs i vs) k < low = subst (λ n. slice_index (with_words xs i vs) n < low) l (written_below vs xs i (k - i) low (omega arith) are) in
    let le : low ≤ bound = fits from inside in
    let done : slice_index (with_words xs i vs) k < bound = omega (arith, here, le) in done)
    (λ (after : i + length vs ≤ k). left_below vs xs i k bound (λ a b. omega arith) lt)
    (cases_lt k (i + length vs)))
    (cases_lt k i)

-- the bound of each register, in multiples of m
abbrev pub Bounds : Type 0
Bounds = ℕ → ℕ

pub record AreRegistersBelow (m lanes : ℕ) (b : Bounds) (words : List ℕ) : Type 0 where
  pub each : (r l : ℕ) → l < lanes → slice_index words (r * lanes + l) < b r * m

pub register_below : (m lanes : ℕ) (b : Bounds) (words : List ℕ) (r : ℕ) → AreRegistersBelow m lanes b words →
    AllBelow (b r * m) (register_of lanes words r)
register_below m lanes b words r are = below-words_at (b r * m) lanes words (r * lanes) (λ l lt. are.each r l lt)

pub weaker : (m lanes : ℕ) (b c : Bounds) (words : List ℕ) → ((r : ℕ) → b r ≤ c r) → AreRegistersBelow m lanes b words →
    AreRegistersBelow m lanes c words
weaker m lanes b c words le are =
    record { each = λ r l lt. let here = are.each r l lt in let up = mul-le-mul_left m (le r) in omega (arith, here, up) }

-- n registers from r on get the words, and c is what they and the others are below then
pub put_below : (m lanes n r v : ℕ) (b c : Bounds) (words vs : List ℕ) → AreRegistersBelow m lanes b words →
    AllBelow (v * m) vs → length vs ≡ n * lanes →
    ((q : ℕ) → r ≤ q → q < r + n → v ≤ c q) → ((q : ℕ) → (q < r) ⊎ (r + n ≤ q) → b q ≤ c q) →
    AreRegistersBelow m lanes c (with_words words (r * lanes) vs)
put_below m lanes n r v b c words vs are low long new old = record { each = at }
  where
    kept : (q l : ℕ) → l < lanes → (q < r) ⊎ (r + n ≤ q) → slice_index (with_words words (r * lanes) vs) (q * lanes + l)
        < c q * m
    kept q l lt apart =
        let here = are.each q l lt in
        let up = mul-le-mul_left m (old q apart) in
        let bound : slice_index words (q * lanes + l) < c q * m = omega (arith, here, up) in
        left_below vs words (r * lanes) (q * lanes + l) (c q * m)
        (λ from to. elim apart [
          | inl lower ↦ let a = mul-le-mul_left lanes lower in omega (arith, from, a, lt)
          | inr higher ↦ let a = mul-le-mul_left lanes higher in let e : lanes * (r + n) ≡ r * lanes + n * lanes = omega arith in omega (arith, to, a, e, long)
        ])
        bound

    inside : (q l : ℕ) → l < lanes → r ≤ q → q < r + n → slice_index (with_words words (r * lanes) vs) (q * lanes + l)
        < c q * m
    inside q l lt from to =
        let d : q ≡ r + (q - r) = omega arith in
        let place : r * lanes + ((q - r) * lanes + l) ≡ q * lanes + l = sym (ap (λ k. k * lanes + l) d ∙ spread (q - r)) in
        let row : suc (q - r) ≤ n = omega arith in
        let within : (q - r) * lanes + l < length vs = let a = mul-le-mul_left lanes row in let e : lanes * suc (q - r) ≡ (q - r) * lanes + lanes = omega arith in omega (arith, a, e, lt, long) in
        let here : slice_index (with_words words (r * lanes) vs) (q * lanes + l) < v * m =
        subst (λ k. slice_index (with_words words (r * lanes) vs) k < v * m) place (written_below vs words (r * lanes) ((q - r) * lanes + l) (v * m) within low) in
        let up = mul-le-mul_left m (new q from to) in
        omega (arith, here, up)
      where
        spread : (e : ℕ) → (r + e) * lanes + l ≡ r * lanes + (e * lanes + l)
        spread e = omega arith

    at : (q l : ℕ) → l < lanes → slice_index (with_words words (r * lanes) vs) (q * lanes + l) < c q * m
    at q l lt =
        ⊎_elim
        (λ (lower : q < r). kept q l lt (inl lower))
        (λ (from : r ≤ q). ⊎_elim
        (λ (to : q < r + n). inside q l lt from to)
        (λ (higher : r + n ≤ q). kept q l lt (inr higher))
        (cases_lt q (r + n)))
        (cases_lt q r)
