-- What a tile does: lane l of register r + k becomes lane k of register x + l.
use Rattle.std.proofs.Common.{◌≡◌, ℕ, zero, suc, ◌+◌, ◌*◌, ◌<◌, ◌≤◌, ◌⊎◌, inl, inr, List, [], ◌∷◌, ◌++◌, length, map}
use Rattle.std.proofs.Common.{flat_map, refl, sym, ap, ◌∙◌, arith, append-nil, length-append, mul-le-mul_left}
use Rattle.std.specs.Prelude.{slice_index}
use Rattle.std.specs.List.{range_with_len}
use Rattle.std.proofs.lemmas.Bool.{cases_eq}
use Rattle.std.proofs.lemmas.List.Concat.{flat_map-append}
use Rattle.std.proofs.lemmas.List.FromFn.{get_or-map-range_with_len, length-map-range_with_len}
use Rattle.icode.specs.declared.action.Action.TheVariants.{Tile}
use Rattle.icode.specs.Machine.{Local, effect, transposed}
use Rattle.icode.specs.Sequences.Lanes.{lane_of}
use Rattle.icode.proofs.SequenceLemmas.Placing.{with_words_there, with_words_elsewhere}
use Rattle.icode.proofs.SequenceLemmas.Statements.{range-last}

pub slice_index-front : (xs ys : List ℕ) (i : ℕ) → i < length xs → slice_index (xs ++ ys) i ≡ slice_index xs i
slice_index-front [] ys i below = absurd (omega arith)
slice_index-front (x ∷ xs) ys zero below = refl
slice_index-front (x ∷ xs) ys (suc i) below = slice_index-front xs ys i (omega arith)

slice_index-back : (xs ys : List ℕ) (i : ℕ) → slice_index (xs ++ ys) (length xs + i) ≡ slice_index ys i
slice_index-back [] ys i = ap (slice_index ys) (omega arith)
slice_index-back (x ∷ xs) ys i =
    let same : length (x ∷ xs) + i ≡ suc (length xs + i) = omega arith in ap (slice_index (x ∷ (xs ++ ys))) same ∙ slice_index-back xs ys i

-- n rows of the same width, joined
abbrev joined : ℕ → (ℕ → ℕ → ℕ) → ℕ → List ℕ
joined width item n = flat_map (λ k. map (item k) (range_with_len 0 width)) (range_with_len 0 n)

joined-last : (width : ℕ) (item : ℕ → ℕ → ℕ) (n : ℕ) → joined width item (suc n) ≡ joined width item n ++ map (item n)
    (range_with_len 0 width)
joined-last width item n =
    let row = λ (k : ℕ). map (item k) (range_with_len 0 width) in
    let same : 0 + n ≡ n = omega arith in
    ap (flat_map row) (range-last 0 n ∙ ap (λ k. range_with_len 0 n ++ k ∷ []) same)
    ∙ flat_map-append row (range_with_len 0 n) (n ∷ [])
    ∙ ap (λ xs. joined width item n ++ xs) (append-nil (row n))

length-joined : (width : ℕ) (item : ℕ → ℕ → ℕ) (n : ℕ) → length (joined width item n) ≡ n * width
length-joined width item zero = omega arith
length-joined width item (suc n) =
    let row = map (item n) (range_with_len 0 width) in
    let all = length-append (joined width item n) row in
    let wide = length-map-range_with_len (item n) 0 width in
    ap length (joined-last width item n) ∙ omega (arith, all, wide, length-joined width item n)

at-joined : (width : ℕ) (item : ℕ → ℕ → ℕ) (n k l : ℕ) → k < n → l < width →
    slice_index (joined width item n) (k * width + l) ≡ item k l
at-joined width item zero k l row column = absurd (omega arith)
at-joined width item (suc n) k l row column =
    let long = length-joined width item n in
    ap (λ xs. slice_index xs (k * width + l)) (joined-last width item n)
    ∙ elim (cases_eq k n) [
      | inl last ↦
          let place : k * width + l ≡ length (joined width item n) + l = ap (λ j. j * width + l) last ∙ omega (arith, long) in
          ap (slice_index (joined width item n ++ map (item n) (range_with_len 0 width))) place
          ∙ slice_index-back (joined width item n) (map (item n) (range_with_len 0 width)) l
          ∙ get_or-map-range_with_len (item n) 0 width l l 0 column (omega arith)
          ∙ ap (λ j. item j l) (sym last)
      | inr other ↦
          let lower : k < n = omega arith in
          let inside : k * width + l < length (joined width item n) = let a = mul-le-mul_left width lower in omega (arith, long) in
          slice_index-front (joined width item n) (map (item n) (range_with_len 0 width)) (k * width + l) inside ∙ at-joined width item n k l lower column
    ]

-- the registers that a tile changes
pub tile_by_lane : (m lanes regs : ℕ) (r x : ℕ) (s : Local) (k l : ℕ) → r + lanes ≤ regs →
    regs * lanes ≤ length s.registers → k < lanes → l < lanes →
    lane_of lanes (effect m lanes (Tile r x) s).registers l (r + k) ≡ lane_of lanes s.registers k (x + l)
tile_by_lane m lanes regs r x s k l few wide row column =
    let words = transposed lanes s.registers x in
    let long : length words ≡ lanes * lanes = length-joined lanes (λ k l. slice_index s.registers ((x + l) * lanes + k)) lanes in
    let place : (r + k) * lanes + l ≡ r * lanes + (k * lanes + l) = omega arith in
    let room : r * lanes + length words ≤ length s.registers = let a = mul-le-mul_left lanes few in omega (arith, long) in
    let inside : k * lanes + l < length words = let a = mul-le-mul_left lanes row in omega (arith, long) in
    ap (slice_index (effect m lanes (Tile r x) s).registers) place
    ∙ with_words_there words s.registers (r * lanes) (k * lanes + l) inside room
    ∙ at-joined lanes (λ k l. slice_index s.registers ((x + l) * lanes + k)) lanes k l row column

-- and those that it leaves
pub tile_elsewhere : (m lanes : ℕ) (r x : ℕ) (s : Local) (q l : ℕ) → (q < r) ⊎ (r + lanes ≤ q) → l < lanes →
    lane_of lanes (effect m lanes (Tile r x) s).registers l q ≡ lane_of lanes s.registers l q
tile_elsewhere m lanes r x s q l apart column =
    let words = transposed lanes s.registers x in
    let long : length words ≡ lanes * lanes = length-joined lanes (λ k l. slice_index s.registers ((x + l) * lanes + k)) lanes in
    with_words_elsewhere words s.registers (r * lanes) (q * lanes + l) (λ from to.
    elim apart [
      | inl lower ↦ let a = mul-le-mul_left lanes lower in omega arith
      | inr higher ↦ let a = mul-le-mul_left lanes higher in omega (arith, long)
    ])
