-- What an action leaves depends on what it reads alone.
use Rattle.std.proofs.Common.{◌≡◌, ℕ, zero, suc, ◌+◌, ◌*◌, ◌<◌, ◌≤◌, ◌≢◌, ◌⊎◌, List, [], ◌∷◌, length, map, flat_map, refl}
use Rattle.std.proofs.Common.{sym, ap, ap₂, ◌∙◌, subst, arith, inl, inr, ⊎_elim, Contains, ◌++◌, mul-le-mul_right}
use Rattle.std.specs.Prelude.{slice_get, slice_index, slice_set}
use Rattle.std.specs.List.{range_with_len}
use Rattle.std.proofs.lemmas.Bool.{cases_eq}
use Rattle.std.proofs.lemmas.List.{length-replicate, length-set, length-append}
use Rattle.std.proofs.lemmas.List.FromFn.{length-range_with_len, get_or-range_with_len, length-map-range_with_len}
use Rattle.ring_mod.specs.Residue.{sum_mod, difference_mod, negation_mod, product_mod}
use Rattle.icode.specs.declared.action.Action.{Action}
use Rattle.icode.specs.declared.action.Action.TheVariants.{Load, Store, Zero, Add, Sub, Neg, Mul, Tile}
use Rattle.icode.specs.Fresh.{HasFactors, loaded_words, read_registers, put_registers}
use Rattle.icode.specs.Machine.{Local, with_words, lane_by_lane, transposed, register_of, register_put}
use Rattle.icode.specs.Machine.{memory_after, value_put, effect, stored_words}
use Rattle.icode.proofs.SequenceLemmas.Placing.{length-with_words, length-lane_by_lane, length-mapped}
use Rattle.icode.proofs.Lines.{Contains-head, Contains-tail, Contains-nil, Contains-range}
use Rattle.icode.proofs.Words.{words_at-agree, length-words_at, with_words-agree, slice_index-agree}

-- ---- lists

pub range_item : (a n k : ℕ) → Contains (range_with_len a n) k → (a ≤ k) × (k < a + n)
range_item a n k h =
    let low : h.0 < n = omega (arith, h.1, length-range_with_len a n) in
    let is : k ≡ a + h.0 = sym h.2 ∙ get_or-range_with_len a n h.0 k low in
    (omega (arith, is), omega (arith, is, low))

pub only_item : (x k : ℕ) → Contains (x ∷ []) k → x ≡ k
only_item x k (zero, lt, e) = e
only_item x k (suc n, lt, e) = absurd (omega (arith, lt))

-- two lists of the same length have the same item where the same one is set
set_same : (xs ys : List ℕ) (i v : ℕ) → length xs ≡ length ys → slice_get (slice_set xs i v) i ≡ slice_get (slice_set ys i v) i
set_same [] [] i v e = refl
set_same [] (y ∷ ys) i v e = absurd (omega (arith, e))
set_same (x ∷ xs) [] i v e = absurd (omega (arith, e))
set_same (x ∷ xs) (y ∷ ys) zero v e = refl
set_same (x ∷ xs) (y ∷ ys) (suc i) v e = set_same xs ys i v (omega (arith, e))

-- so have they where the same words are written
pub with_words_same : (vs xs ys : List ℕ) (i k : ℕ) → length xs ≡ length ys → i ≤ k → k < i + length vs →
    slice_get (with_words xs i vs) k ≡ slice_get (with_words ys i vs) k
with_words_same [] xs ys i k e low high = absurd (omega (arith, low, high))
with_words_same (v ∷ vs) xs ys i k e low high =
    ⊎_elim
    (λ (here : k ≡ i).
    with_words-agree vs (slice_set xs i v) (slice_set ys i v) (i + 1) k
    (subst (λ j. slice_get (slice_set xs i v) j ≡ slice_get (slice_set ys i v) j) (sym here) (set_same xs ys i v e)))
    (λ (later : k ≡ i → ⊥).
    with_words_same vs (slice_set xs i v) (slice_set ys i v) (i + 1) k
    (length-set xs i v ∙ e ∙ sym (length-set ys i v)) (omega (arith, low, later)) (omega (arith, high)))
    (cases_eq k i)

-- ---- registers

-- the words of a register
pub record SameRegister (lanes r : ℕ) (xs ys : List ℕ) : Type 0 where
  pub words : (k : ℕ) → r * lanes ≤ k → k < r * lanes + lanes → slice_get xs k ≡ slice_get ys k

pub same_register_of : (lanes r : ℕ) (xs ys : List ℕ) → SameRegister lanes r xs ys →
    register_of lanes xs r ≡ register_of lanes ys r
same_register_of lanes r xs ys same = words_at-agree lanes xs ys (r * lanes) same.words

-- registers do not overlap
pub apart_registers : (lanes r p k : ℕ) → r ≢ p → r * lanes ≤ k → k < r * lanes + lanes → p * lanes ≤ k →
    k < p * lanes + lanes → ⊥
apart_registers lanes r p k ne low high low' high' =
    ⊎_elim
    (λ (less : r < p). over r p less low high low' high')
    (λ (more : p < r). over p r more low' high' low high)
    (other r p ne)
  where
    other : (a b : ℕ) → a ≢ b → (a < b) ⊎ (b < a)
    other zero zero ne = absurd (ne refl)
    other zero (suc b) ne = inl (omega arith)
    other (suc a) zero ne = inr (omega arith)
    other (suc a) (suc b) ne =
        ⊎_elim
        (λ (h : a < b). inl (omega (arith, h)))
        (λ (h : b < a). inr (omega (arith, h)))
        (other a b (λ e. ne (ap suc e)))

    over : (a b : ℕ) → a < b → a * lanes ≤ k → k < a * lanes + lanes → b * lanes ≤ k → k < b * lanes + lanes → ⊥
    over a b less low high low' high' =
        let wide : suc a * lanes ≤ b * lanes = mul-le-mul_right lanes less in
        let spread : suc a * lanes ≡ a * lanes + lanes = omega arith in
        omega (arith, wide, spread, high, low')

-- ---- tiles

map_same : (f g : ℕ → ℕ) (n a : ℕ) → ((k : ℕ) → a ≤ k → k < a + n → f k ≡ g k) → map f (range_with_len a n) ≡ map g (range_with_len a n)
map_same f g zero a h = refl
map_same f g (suc n) a h =
    ap₂ (λ (x : ℕ) (xs : List ℕ). x ∷ xs) (h a (omega arith) (omega arith))
    (map_same f g n (a + 1) (λ k low high. h k (omega (arith, low)) (omega (arith, high))))

flat_same : (f g : ℕ → List ℕ) (n a : ℕ) → ((k : ℕ) → a ≤ k → k < a + n → f k ≡ g k) → flat_map f (range_with_len a n) ≡ flat_map g (range_with_len a n)
flat_same f g zero a h = refl
flat_same f g (suc n) a h =
    ap₂ (λ (x xs : List ℕ). x ++ xs) (h a (omega arith) (omega arith))
    (flat_same f g n (a + 1) (λ k low high. h k (omega (arith, low)) (omega (arith, high))))

pub tile_same : (lanes x : ℕ) (xs ys : List ℕ) →
    ((r : ℕ) → Contains (range_with_len x lanes) r → SameRegister lanes r xs ys) →
    transposed lanes xs x ≡ transposed lanes ys x
tile_same lanes x xs ys same =
    flat_same (λ k. map (λ l. slice_index xs ((x + l) * lanes + k)) (range_with_len 0 lanes))
    (λ k. map (λ l. slice_index ys ((x + l) * lanes + k)) (range_with_len 0 lanes)) lanes 0
    (λ k _ high.
    map_same (λ l. slice_index xs ((x + l) * lanes + k)) (λ l. slice_index ys ((x + l) * lanes + k)) lanes 0
    (λ l _ below.
    slice_index-agree xs ys ((x + l) * lanes + k)
    ((same (x + l) (Contains-range lanes x (x + l) (omega arith) (omega (arith, below)))).words ((x + l) * lanes + k)
    (omega arith) (omega (arith, high)))))

pub tile_length : (lanes x : ℕ) (xs : List ℕ) → length (transposed lanes xs x) ≡ lanes * lanes
tile_length lanes x xs = rows lanes 0
  where
    rows : (n a : ℕ) → length (flat_map (λ k. map (λ l. slice_index xs ((x + l) * lanes + k)) (range_with_len 0 lanes)) (range_with_len a n)) ≡ n * lanes
    rows zero a = omega arith
    rows (suc n) a =
        let one = length-map-range_with_len (λ l. slice_index xs ((x + l) * lanes + a)) 0 lanes in
        let rest = rows n (a + 1) in
        let both = length-append (map (λ l. slice_index xs ((x + l) * lanes + a)) (range_with_len 0 lanes)) (flat_map (λ k. map (λ l. slice_index xs ((x + l) * lanes + k)) (range_with_len 0 lanes)) (range_with_len (a + 1) n)) in
        let spread : suc n * lanes ≡ lanes + n * lanes = omega arith in
        omega (arith, one, rest, both, spread)

-- ---- what an action puts

-- how many words it puts into registers
abbrev pub width_put : ℕ → Action → ℕ
width_put lanes (Load r address) = lanes
width_put lanes (Store address r) = 0
width_put lanes (Zero r) = lanes
width_put lanes (Add r x y) = lanes
width_put lanes (Sub r x y) = lanes
width_put lanes (Neg r x) = lanes
width_put lanes (Mul r x factors) = lanes
width_put lanes (Tile r x) = lanes * lanes

-- those of the registers that it puts are among them
single_put : (lanes r p k : ℕ) → Contains (r ∷ []) p → p * lanes ≤ k → k < p * lanes + lanes →
    (r * lanes ≤ k) × (k < r * lanes + lanes)
single_put lanes r p k has low high =
    subst (λ p. p * lanes ≤ k → k < p * lanes + lanes → (r * lanes ≤ k) × (k < r * lanes + lanes)) (only_item r p has) (λ a b. (a, b)) low high

tile_put : (lanes r p k : ℕ) → Contains (range_with_len r lanes) p → p * lanes ≤ k → k < p * lanes + lanes →
    (r * lanes ≤ k) × (k < r * lanes + lanes * lanes)
tile_put lanes r p k has low high =
    let item = range_item r lanes p has in
    let from : r * lanes ≤ p * lanes = mul-le-mul_right lanes item.0 in
    let to : suc p * lanes ≤ (r + lanes) * lanes = mul-le-mul_right lanes item.1 in
    let spread : suc p * lanes ≡ p * lanes + lanes = omega arith in
    let parts : (r + lanes) * lanes ≡ r * lanes + lanes * lanes = omega arith in
    (omega (arith, from, low), omega (arith, to, spread, parts, high))

pub put_within : (lanes : ℕ) (a : Action) (p k : ℕ) → Contains (put_registers lanes a) p → p * lanes ≤ k →
    k < p * lanes + lanes → (register_put a * lanes ≤ k) × (k < register_put a * lanes + width_put lanes a)
put_within lanes (Load r address) p k has low high = single_put lanes r p k has low high
put_within lanes (Store address r) p k has low high = absurd (Contains-nil p has)
put_within lanes (Zero r) p k has low high = single_put lanes r p k has low high
put_within lanes (Add r x y) p k has low high = single_put lanes r p k has low high
put_within lanes (Sub r x y) p k has low high = single_put lanes r p k has low high
put_within lanes (Neg r x) p k has low high = single_put lanes r p k has low high
put_within lanes (Mul r x factors) p k has low high = single_put lanes r p k has low high
put_within lanes (Tile r x) p k has low high = tile_put lanes r p k has low high

-- ---- what an action leaves

-- the two states have the same words in what the action reads
pub record ReadsSame (lanes : ℕ) (a : Action) (s t : Local) : Type 0 where
  pub memory_long : length s.memory ≡ length t.memory
  pub registers_long : length s.registers ≡ length t.registers
  pub loads : (k : ℕ) → Contains (loaded_words lanes a) k → slice_get s.memory k ≡ slice_get t.memory k
  pub reads : (r : ℕ) → Contains (read_registers lanes a) r → SameRegister lanes r s.registers t.registers

-- after it, words and registers that were the same still are, and so are those that it has put
pub record LeavesSame (lanes : ℕ) (a : Action) (s t after other : Local) : Type 0 where
  pub memory_long : length after.memory ≡ length s.memory
  pub memory_long_too : length other.memory ≡ length t.memory
  pub registers_long : length after.registers ≡ length s.registers
  pub registers_long_too : length other.registers ≡ length t.registers
  pub words : (k : ℕ) → (slice_get s.memory k ≡ slice_get t.memory k) ⊎ Contains (stored_words lanes a) k →
      slice_get after.memory k ≡ slice_get other.memory k
  pub files : (r : ℕ) → SameRegister lanes r s.registers t.registers ⊎ Contains (put_registers lanes a) r →
      SameRegister lanes r after.registers other.registers

memory_long : (lanes : ℕ) (a : Action) (s : Local) → length (memory_after lanes a s) ≡ length s.memory
memory_long lanes (Store address r) s = length-with_words (register_of lanes s.registers r) s.memory address
memory_long lanes _ s = refl

words_same : (lanes : ℕ) (a : Action) (s t : Local) → ReadsSame lanes a s t → (k : ℕ) →
    (slice_get s.memory k ≡ slice_get t.memory k) ⊎ Contains (stored_words lanes a) k →
    slice_get (memory_after lanes a s) k ≡ slice_get (memory_after lanes a t) k
words_same lanes (Store address r) s t same k h =
    let value = same_register_of lanes r s.registers t.registers (same.reads r (Contains-head r [])) in
    subst (λ vs. slice_get (with_words s.memory address (register_of lanes s.registers r)) k ≡ slice_get (with_words t.memory address vs) k) value
    (⊎_elim
    (λ (before : slice_get s.memory k ≡ slice_get t.memory k). with_words-agree (register_of lanes s.registers r) s.memory t.memory address k before)
    (λ (stored : Contains (range_with_len address lanes) k).
    let item = range_item address lanes k stored in
    let long = length-words_at lanes s.registers (r * lanes) in
    with_words_same (register_of lanes s.registers r) s.memory t.memory address k same.memory_long item.0 (omega (arith, item.1, long)))
    h)
words_same lanes _ s t same k h = ⊎_elim (λ before. before) (λ stored. absurd (Contains-nil k stored)) h

-- an action that puts the same words into registers, enough of them, does so
pub put_leaves_same : (lanes : ℕ) (a : Action) (s t : Local) (vs us : List ℕ) → ReadsSame lanes a s t → vs ≡ us →
    width_put lanes a ≤ length vs →
    LeavesSame lanes a s t
    (record { memory = memory_after lanes a s; registers = with_words s.registers (register_put a * lanes) vs })
    (record { memory = memory_after lanes a t; registers = with_words t.registers (register_put a * lanes) us })
put_leaves_same lanes a s t vs us same value enough =
    subst (λ us. LeavesSame lanes a s t
    (record { memory = memory_after lanes a s; registers = with_words s.registers (register_put a * lanes) vs })
    (record { memory = memory_after lanes a t; registers = with_words t.registers (register_put a * lanes) us })) value
    (record {
      memory_long = memory_long lanes a s;
      memory_long_too = memory_long lanes a t;
      registers_long = length-with_words vs s.registers (register_put a * lanes);
      registers_long_too = length-with_words vs t.registers (register_put a * lanes);
      words = words_same lanes a s t same;
      files = λ r h. record {
        words = λ k low high. ⊎_elim
            (λ (before : SameRegister lanes r s.registers t.registers). with_words-agree vs s.registers t.registers (register_put a * lanes) k (before.words k low high))
            (λ (put : Contains (put_registers lanes a) r).
            let within = put_within lanes a r k put low high in
            with_words_same vs s.registers t.registers (register_put a * lanes) k same.registers_long within.0 (omega (arith, within.1, enough)))
            h;
      };
    })

-- ---- on residues

pub second_item : (x y : ℕ) → Contains (x ∷ y ∷ []) y
second_item x y = Contains-tail x (y ∷ []) y (Contains-head y [])

value_same : (m lanes : ℕ) (a : Action) (s t : Local) → ReadsSame lanes a s t → value_put m lanes a s ≡ value_put m lanes a t
value_same m lanes (Load r address) s t same =
    words_at-agree lanes s.memory t.memory address (λ k low high. same.loads k (Contains-range lanes address k low high))
value_same m lanes (Store address r) s t same = refl
value_same m lanes (Zero r) s t same = refl
value_same m lanes (Add r x y) s t same =
    ap₂ (lane_by_lane (sum_mod m)) (same_register_of lanes x s.registers t.registers (same.reads x (Contains-head x (y ∷ []))))
    (same_register_of lanes y s.registers t.registers (same.reads y (second_item x y)))
value_same m lanes (Sub r x y) s t same =
    ap₂ (lane_by_lane (difference_mod m)) (same_register_of lanes x s.registers t.registers (same.reads x (Contains-head x (y ∷ []))))
    (same_register_of lanes y s.registers t.registers (same.reads y (second_item x y)))
value_same m lanes (Neg r x) s t same = ap (map (negation_mod m)) (same_register_of lanes x s.registers t.registers (same.reads x (Contains-head x [])))
value_same m lanes (Mul r x factors) s t same =
    ap (λ vs. lane_by_lane (product_mod m) vs factors) (same_register_of lanes x s.registers t.registers (same.reads x (Contains-head x [])))
value_same m lanes (Tile r x) s t same = tile_same lanes x s.registers t.registers same.reads

value_wide : (m lanes : ℕ) (a : Action) (s : Local) → HasFactors lanes a → width_put lanes a ≤ length (value_put m lanes a s)
value_wide m lanes (Load r address) s has = let e = length-words_at lanes s.memory address in omega (arith, e)
value_wide m lanes (Store address r) s has = omega arith
value_wide m lanes (Zero r) s has = let e = length-replicate {A = ℕ} lanes 0 in omega (arith, e)
value_wide m lanes (Add r x y) s has =
    let one = length-words_at lanes s.registers (x * lanes) in
    let other = length-words_at lanes s.registers (y * lanes) in
    let e = length-lane_by_lane (sum_mod m) (register_of lanes s.registers x) (register_of lanes s.registers y) (omega (arith, one, other)) in
    omega (arith, e, one)
value_wide m lanes (Sub r x y) s has =
    let one = length-words_at lanes s.registers (x * lanes) in
    let other = length-words_at lanes s.registers (y * lanes) in
    let e = length-lane_by_lane (difference_mod m) (register_of lanes s.registers x) (register_of lanes s.registers y) (omega (arith, one, other)) in
    omega (arith, e, one)
value_wide m lanes (Neg r x) s has =
    let one = length-words_at lanes s.registers (x * lanes) in
    let e = length-mapped (negation_mod m) (register_of lanes s.registers x) in
    omega (arith, e, one)
value_wide m lanes (Mul r x factors) s has =
    let one = length-words_at lanes s.registers (x * lanes) in
    let e = length-lane_by_lane (product_mod m) (register_of lanes s.registers x) factors (omega (arith, one, has)) in
    omega (arith, e, one)
value_wide m lanes (Tile r x) s has = let e = tile_length lanes x s.registers in omega (arith, e)

pub effect_leaves_same : (m lanes : ℕ) (a : Action) (s t : Local) → HasFactors lanes a → ReadsSame lanes a s t →
    LeavesSame lanes a s t (effect m lanes a s) (effect m lanes a t)
effect_leaves_same m lanes a s t has same =
    put_leaves_same lanes a s t (value_put m lanes a s) (value_put m lanes a t) same (value_same m lanes a s t same) (value_wide m lanes a s has)
