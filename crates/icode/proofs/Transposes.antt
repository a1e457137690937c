-- Registers that are transposed one word after another.
use Rattle.std.proofs.Common.{◌≡◌, ◌⊎◌, inl, inr, Option, None, length-append, ℕ, zero, suc, ◌+◌, ◌*◌, ◌<◌, ◌≤◌, List}
use Rattle.std.proofs.Common.{[], ◌∷◌, length, take, map, flat_map, get_or, Some, refl, sym, ap, ap₂, ◌∙◌, arith}
use Rattle.std.proofs.Common.{⊎_elim, length-take-le, mul-le-mul_left}
use Rattle.std.specs.Prelude.{slice_get, slice_index, slice_set}
use Rattle.std.specs.List.{range_with_len}
use Rattle.std.proofs.lemmas.List.{take_more, length-map}
use Rattle.icode.specs.Machine.{with_words, transposed}
use Rattle.icode.proofs.Words.{with_words-other, slice_index-agree}
use Rattle.icode.proofs.Steps.{slice_get-flat_map}
use Rattle.icode.proofs.LaneSteps.{with_words_more}

length-range : (n first : ℕ) → length (range_with_len first n) ≡ n
length-range zero first = refl
length-range (suc n) first = ap suc (length-range n (first + 1))

slice_get-map_range : (f : ℕ → ℕ) (n first i : ℕ) → i < n → slice_get (map f (range_with_len first n)) i
    ≡ Some (f (first + i))
slice_get-map_range f zero first i lt = absurd (omega arith)
slice_get-map_range f (suc n) first zero lt = ap (λ k. Some (f k)) (omega arith)
slice_get-map_range f (suc n) first (suc i) lt = slice_get-map_range f n (first + 1) i (omega arith) ∙ ap (λ k. Some (f k)) (omega arith)

abbrev row_of : ℕ → List ℕ → ℕ → ℕ → List ℕ
row_of lanes registers source row = map (λ lane. slice_index registers ((source + lane) * lanes + row)) (range_with_len 0 lanes)

length-row_of : (lanes : ℕ) (registers : List ℕ) (source row : ℕ) → length (row_of lanes registers source row) ≡ lanes
length-row_of lanes registers source row = length-map (range_with_len 0 lanes) (λ lane. slice_index registers ((source + lane) * lanes + row)) ∙ length-range lanes 0

some_is : (xs : List ℕ) (i v : ℕ) → slice_get xs i ≡ Some v → slice_index xs i ≡ v
some_is [] i v e = absurd (no_some v e)
  where
    no_some : (v : ℕ) → ◌≡◌ {A = Option ℕ} None (Some v) → ⊥
    no_some v e = cc
some_is (x ∷ xs) zero v e = same x v e
  where
    same : (x v : ℕ) → Some x ≡ Some v → x ≡ v
    same x v e = cc
some_is (x ∷ xs) (suc i) v e = some_is xs i v e

transposed-at : (lanes : ℕ) (registers : List ℕ) (source row lane : ℕ) → row < lanes → lane < lanes →
    slice_index (transposed lanes registers source) (row * lanes + lane)
    ≡ slice_index registers ((source + lane) * lanes + row)
transposed-at lanes registers source row lane row_lt lane_lt =
    let zr : 0 + row ≡ row = omega arith in
    let zl : 0 + lane ≡ lane = omega arith in
    some_is (transposed lanes registers source) (row * lanes + lane) _
    (slice_get-flat_map (row_of lanes registers source) lanes (length-row_of lanes registers source) lanes 0 row lane row_lt lane_lt
    ∙ (ap (λ k. slice_get (row_of lanes registers source k) lane) zr
    ∙ (slice_get-map_range (λ lane. slice_index registers ((source + lane) * lanes + row)) lanes 0 lane lane_lt
    ∙ ap (λ k. Some (slice_index registers ((source + k) * lanes + row))) zl)))

length-flat : (f : ℕ → List ℕ) (len : ℕ) → ((i : ℕ) → length (f i) ≡ len) → (n first : ℕ) →
    length (flat_map f (range_with_len first n)) ≡ n * len
length-flat f len each zero first = sym (zero_mul len)
  where
    zero_mul : (n : ℕ) → 0 * n ≡ 0
    zero_mul n = omega arith
length-flat f len each (suc n) first =
    length-append (f first) (flat_map f (range_with_len (first + 1) n)) ∙ omega (arith, each first, length-flat f len each n (first + 1))

pub length-transposed : (lanes : ℕ) (registers : List ℕ) (source : ℕ) →
    length (transposed lanes registers source) ≡ lanes * lanes
length-transposed lanes registers source = length-flat (row_of lanes registers source) lanes (length-row_of lanes registers source) lanes 0

pub transpose_step : (lanes register source row lane : ℕ) (words old : List ℕ) → row < lanes → lane < lanes →
    ((register + lanes) * lanes ≤ source * lanes) ⊎ ((source + lanes) * lanes ≤ register * lanes) →
    words ≡ with_words old (register * lanes) (take (row * lanes + lane) (transposed lanes old source)) →
    slice_set words ((register + row) * lanes + lane) (slice_index words ((source + lane) * lanes + row))
    ≡ with_words old (register * lanes) (take (row * lanes + (lane + 1)) (transposed lanes old source))
transpose_step lanes register source row lane words old row_lt lane_lt apart e =
    let T : List ℕ = transposed lanes old source in
    let n : ℕ = row * lanes + lane in
    let whole_row : lanes * (row + 1) ≤ lanes * lanes = mul-le-mul_left lanes (omega arith) in
    let whole_lane : lanes * (lane + 1) ≤ lanes * lanes = mul-le-mul_left lanes (omega arith) in
    let inside : n < length T = omega (arith, length-transposed lanes old source) in
    let front : length (take n T) ≡ n = length-take-le n T (omega arith) in
    let place : (register + row) * lanes + lane ≡ register * lanes + length (take n T) = omega (arith, front) in
    let from : ℕ = (source + lane) * lanes + row in
    let outside : register * lanes ≤ from → from < register * lanes + length (take n T) → ⊥ =
    λ low high. ⊎_elim
    (λ (h : (register + lanes) * lanes ≤ source * lanes). omega (arith, front))
    (λ (h : (source + lanes) * lanes ≤ register * lanes). omega (arith, front))
    apart in
    let value : slice_index words from ≡ get_or T n 0 =
    ap (λ ws. slice_index ws from) e
    ∙ (slice_index-agree (with_words old (register * lanes) (take n T)) old from (with_words-other (take n T) old (register * lanes) from outside)
    ∙ sym (transposed-at lanes old source row lane row_lt lane_lt)) in
    let more : n + 1 ≡ row * lanes + (lane + 1) = omega arith in
    ap₂ (λ ws v. slice_set ws ((register + row) * lanes + lane) v) e value
    ∙ (ap (λ k. slice_set (with_words old (register * lanes) (take n T)) k (get_or T n 0)) place
    ∙ (sym (with_words_more (take n T) old (register * lanes) (get_or T n 0))
    ∙ (ap (with_words old (register * lanes)) (sym (take_more T n 0 inside))
    ∙ ap (λ k. with_words old (register * lanes) (take k T)) more)))

pub take-all : (n : ℕ) (xs : List ℕ) → length xs ≤ n → take n xs ≡ xs
take-all zero [] le = refl
take-all (suc n) [] le = refl
take-all zero (x ∷ xs) le = absurd (omega arith)
take-all (suc n) (x ∷ xs) le = ap (λ ys. x ∷ ys) (take-all n xs (omega arith))

-- registers that don't meet have words that don't
pub tile_words : (lanes register source regs : ℕ) → (register + lanes ≤ regs) × (source + lanes ≤ regs)
    × ((register + lanes ≤ source) ⊎ (source + lanes ≤ register)) →
    ((register + lanes) * lanes ≤ source * lanes) ⊎ ((source + lanes) * lanes ≤ register * lanes)
tile_words lanes register source regs h =
    ⊎_elim
    (λ (le : register + lanes ≤ source). inl (omega (arith, mul-le-mul_left lanes le)))
    (λ (le : source + lanes ≤ register). inr (omega (arith, mul-le-mul_left lanes le)))
    h.2
