-- The passes of a term have places within the limits.
use Rattle.std.proofs.Common.{◌≡◌, ℕ, suc, ◌+◌, ◌*◌, ◌-◌, ◌^◌, ◌<◌, ◌≤◌, Bool, true, arith, refl, sym, ap, ap₂, ◌∙◌}
use Rattle.std.proofs.Common.{List, [], ◌∷◌, ◌++◌, length, inl, inr, subst, append_assoc, Option, Some, None}
use Rattle.std.specs.Prelude.{map, nat_lt, nat_le, ◌&&◌, slice_index}
use Rattle.std.specs.List.{list_all, range_with_len}
use Rattle.std.proofs.Math.Nat.{pow-succ', mul-le-mul, mul-le-mul_right}
use Rattle.std.proofs.Math.Pow.{pow_mono}
use Rattle.std.proofs.lemmas.Bool.{cases_eq, cases_lt, and_from}
use Rattle.std.proofs.lemmas.Bool.Decides.{nat_tests}
use Rattle.std.proofs.lemmas.List.FromFn.{get_or-map-range_with_len, length-map-range_with_len}
use Rattle.index_fn.specs.Mapping.{Mapping, at}
use Rattle.operators.specs.Sum.{list_below}
use Rattle.operators.proofs.Lists.{at-list_below, length-list_below}
use Rattle.perm_algebra.specs.Affine.{Sum, constant, variable, remainder, top, peak, levels, parts, added}
use Rattle.sigma_spl.specs.Good.{AreBelow, CanNest, IsGoodTerm}
use Rattle.sigma_spl.specs.Limits.{AreSeveral, HasRows, HasSeveral, AreWithin, MergeLimits}
use Rattle.sigma_spl.specs.Merge.{most, Merging, nothing, limits_of, is_limited, are_small, is_multiplier_within}
use Rattle.sigma_spl.specs.Merge.{is_within, can_multiply, suits, multiplied, one_loop, copying, settled, with_passes}
use Rattle.sigma_spl.specs.Merge.{factor_places, with_copy, with_diagonal, from_end, ended, place_sum, items_in}
use Rattle.sigma_spl.specs.Merge.{new_nest, renumbered, renumbered_places, lifted, side, sides, merged, if_any}
use Rattle.sigma_spl.specs.Nest.{PlainFactors, spread, factor_count, PlainMultiplier, PlainNest}
use Rattle.sigma_spl.specs.Term.{PlainTerm, same, gath, scat, diag, nest, move, product, beside}
use Rattle.sigma_spl.specs.Work.{PlainWork, kernel, rows, horner, tile, copy, work_size}
use Rattle.sigma_spl.proofs.Keeps.{merged-reaches, nothing-stands, inner_positive}
use Rattle.sigma_spl.proofs.Sides.{rest_of, rest-index}
use Rattle.sigma_spl.proofs.Small.{max-lt, divided-true, HasCounts, place-small, renumbered-small, behind-small}
use Rattle.sigma_spl.proofs.Walk.{chosen, and-left, and-right, AreMoves, Stands}
use Rattle.sigma_spl.proofs.Within.{within-append, TablesFit, AreInside', within-settled, within-pass}
use Rattle.sigma_spl.proofs.Within.{within-scatter, inside-end, within-ended, within-multiplied, IsSmall, limited}
use Rattle.sigma_spl.proofs.Within.{small-true, constant-small}
use Rattle.operators.specs.declared.paths.Tensor.TheVariants.{Blocks, Columns}
use Rattle.operators.specs.Paths.Tensors.{Path, count_of, size_under}

-- ---- from tests

pub le-true : (a b : ℕ) → nat_le a b ≡ true → a ≤ b
le-true a b h = grind (arith, nat_tests)

pub lt-true : (a b : ℕ) → nat_lt a b ≡ true → a < b
lt-true a b h = grind (arith, nat_tests)

pub tested : (room n : ℕ) (cs : ℕ → ℕ) (e : Sum) → is_limited room n cs e ≡ true → IsSmall room n cs e
tested room n cs e h =
    let first = nat_le (parts e) room && nat_le (levels e) 64 in
    let bounds = nat_lt (top e cs) n && nat_lt (peak e) n in
    let one = and-left first (bounds && are_small cs e) h in
    let two = and-right first (bounds && are_small cs e) h in
    let three = and-left bounds (are_small cs e) two in
    record {
      parts = le-true _ _ (and-left (nat_le (parts e) room) _ one);
      levels = le-true _ _ (and-right (nat_le (parts e) room) _ one);
      top = lt-true _ _ (and-left (nat_lt (top e cs) n) _ three);
      peak = lt-true _ _ (and-right (nat_lt (top e cs) n) _ three);
      small = and-right bounds (are_small cs e) two;
    }

roomier : (room more n : ℕ) (cs : ℕ → ℕ) (e : Sum) → room ≤ more → IsSmall room n cs e → IsSmall more n cs e
roomier room more n cs e h s = record { parts = omega (arith, h, s.parts); levels = s.levels; top = s.top; peak = s.peak; small = s.small }

-- ---- tensors that fit

-- a number of tensors stand round n words, in an array of at most 2 ^ 20
abbrev pub IsRound : ℕ → ℕ → Type 0
IsRound u n = n * 2 ^ u ≤ 2 ^ 20

pub few-round : (u n : ℕ) → 0 < n → IsRound u n → u ≤ 20
few-round u n some h =
    elim (cases_lt 20 u) [
      | inl many ↦
          let high : 2 ^ 21 ≤ 2 ^ u = pow_mono {i = 21} {j = u} (omega arith) in
          let one : 1 * 2 ^ u ≤ n * 2 ^ u = mul-le-mul_right (2 ^ u) (omega arith) in absurd (omega (arith, high, one, h))
      | inr few ↦ few
    ]

pub round-word : (u n : ℕ) → IsRound u n → n ≤ 2 ^ 20
round-word u n h =
    let low : 2 ^ 0 ≤ 2 ^ u = pow_mono {i = 0} {j = u} (omega arith) in
    let one : 1 * n ≤ 2 ^ u * n = mul-le-mul_right n (omega (arith, low)) in
    let turned : 2 ^ u * n ≡ n * 2 ^ u = omega arith in omega (arith, one, turned, h)

double : (p n c : ℕ) → 2 ≤ c → n * (2 * p) ≤ c * n * p
double p n c two = let more = mul-le-mul_right (n * p) two in let left : 2 * (n * p) ≡ n * (2 * p) = omega arith in let right : c * (n * p) ≡ c * n * p = omega arith in omega (arith, more, left, right)

pub round-inner : (path : Path) (u d : ℕ) → AreSeveral path → IsRound u (size_under path d) →
    IsRound (u + length path) d
round-inner [] u d several h = let e : u ≡ u + 0 = omega arith in subst (λ z. IsRound z d) e h
round-inner (Blocks c ∷ path) u d several h =
    let n = size_under path d in
    let more = double (2 ^ u) n c several.0 in
    let inner = round-inner path (suc u) d several.1 (omega (arith, more, h, ap (λ z. n * z) (pow-succ' 2 u))) in
    subst (λ z. IsRound z d) (omega arith) inner
round-inner (Columns c ∷ path) u d several h =
    let n = size_under path d in
    let more = double (2 ^ u) n c several.0 in
    let turned : n * c * 2 ^ u ≡ c * n * 2 ^ u = ap (λ z. z * 2 ^ u) (omega arith) in
    let inner = round-inner path (suc u) d several.1 (omega (arith, more, turned, h, ap (λ z. n * z) (pow-succ' 2 u))) in
    subst (λ z. IsRound z d) (omega arith) inner

-- ---- new nests

pub counts-first : (path : Path) (v : ℕ) (cs : ℕ → ℕ) (more : List ℕ) →
    ((i : ℕ) → cs (v + i) ≡ slice_index (map count_of path ++ more) i) → HasCounts path v cs
counts-first [] v cs more is = tt
counts-first (t ∷ path) v cs more is = (ap cs (omega arith) ∙ is 0, counts-first path (v + 1) cs more (λ i. ap cs (omega arith) ∙ is (suc i)))

pub at-row : (path : Path) (n : ℕ) → slice_index (map count_of path ++ n ∷ n ∷ []) (length path) ≡ n
at-row [] n = refl
at-row (t ∷ path) n = at-row path n

pub at-column : (path : Path) (n : ℕ) → slice_index (map count_of path ++ n ∷ n ∷ []) (suc (length path)) ≡ n
at-column [] n = refl
at-column (t ∷ path) n = at-column path n

map-id : (ks : List ℕ) → map (λ k. k) ks ≡ ks
map-id [] = refl
map-id (k ∷ ks) = ap (λ z. k ∷ z) (map-id ks)

pub below-all : (m : ℕ) (ks : List ℕ) → ((i : ℕ) → i < length ks → slice_index ks i < m) → AreBelow m ks
below-all m [] h = tt
below-all m (k ∷ ks) h = (h 0 (omega arith), below-all m ks (λ i below. h (suc i) (omega arith)))

range-below : (d : ℕ) → AreBelow d (range_with_len 0 d)
range-below d =
    let same : map (λ k. k) (range_with_len 0 d) ≡ range_with_len 0 d = map-id (range_with_len 0 d) in
    let size : length (range_with_len 0 d) ≡ d = ap length (sym same) ∙ length-map-range_with_len (λ k. k) 0 d in
    below-all d (range_with_len 0 d) (λ i below.
    let within : i < d = omega (arith, size, below) in
    subst (λ v. v < d) (sym (ap (λ ks. slice_index ks i) (sym same) ∙ get_or-map-range_with_len (λ k. k) 0 d i i 0 within (omega arith))) within)

pub turn-fits : (d c : ℕ) → d ≤ 2 ^ 20 → c ≤ 2 ^ 20 → (d - 1) * (c - 1) + (d - 1) < 2 ^ 64
turn-fits d c low high =
    let first : d - 1 ≤ 2 ^ 20 = omega (arith, low) in
    let second : c - 1 ≤ 2 ^ 20 = omega (arith, high) in
    let most : (d - 1) * (c - 1) ≤ 2 ^ 20 * 2 ^ 20 = mul-le-mul first second in omega (arith, most, low)

module _ (room : ℕ) (path : Path) (d : ℕ) (several : AreSeveral path) (some : 0 < d) (high : size_under path d ≤ 2 ^ 20)
    (short : length path + 2 ≤ room) where
  abbrev cs : ℕ → ℕ
  cs = slice_index (map count_of path ++ d ∷ d ∷ [])

  counted : HasCounts path 0 cs
  counted = counts-first path 0 cs (d ∷ d ∷ []) (λ i. ap cs (omega arith))

  place-limited : (r : ℕ) (e : Sum) → r ≤ 2 → IsSmall r d cs e →
      is_limited room (size_under path d) cs (place_sum path d 0 e) ≡ true
  place-limited r e few h = limited room (size_under path d) cs (place_sum path d 0 e) (roomier (r + length path) room _ cs _ (omega arith) (place-small path r d 0 e cs several counted some high h))

  constants-limited : (n : ℕ) (ks : List ℕ) → d ≤ n → n ≤ 2 ^ 20 → AreBelow d ks →
      list_all (is_limited room (size_under path d) cs) (map (place_sum path d 0) (map constant ks)) ≡ true
  constants-limited n [] fits low h = refl
  constants-limited n (k ∷ ks) fits low h = and_from _ _ (place-limited 0 (constant k) (omega arith) (constant-small 0 d cs k h.0 (omega (arith, fits, low)))) (constants-limited n ks fits low h.1)

  -- the variable after those of the loops, which runs below d
  variable-small : (v : ℕ) → 2 ≤ d → cs v ≡ d → IsSmall 1 d cs (variable 1 v (constant 0))
  variable-small v two is =
      record { parts = omega arith; levels = omega arith; top = let one : 1 * (cs v - 1) + 0 ≡ d - 1 = ap (λ z. 1 * (z - 1) + 0) is ∙ omega arith in omega (arith, one, two); peak = max-lt 1 0 d (omega arith) (omega arith); small = refl }

  turn-small : (v : ℕ) → 2 ≤ d → d ≤ 2 ^ 20 → cs v ≡ d → IsSmall 2 d cs
      (remainder 1 (variable (d - 1) v (constant (d - 1))) d (constant 0))
  turn-small v two low is =
      record {
        parts = omega arith;
        levels = omega arith;
        top = omega (arith, two);
        peak = max-lt 1 0 d (omega arith) (omega arith);
        small =
            let word : (d - 1) * (cs v - 1) + (d - 1) < 2 ^ 64 = turn-fits d (cs v) low (omega (arith, is, low)) in
            and_from _ _ (divided-true cs 1 (variable (d - 1) v (constant (d - 1))) d (omega arith) (omega arith) (omega (arith, two)) (omega (arith, low)) (omega (arith, low)) word)
            (and_from _ _ (and_from _ _ (small-true (d - 1) (omega (arith, low))) (small-true (d - 1) (omega (arith, low)))) refl);
      }

pub both-within : (a b : Bool) → a ≡ true → b ≡ true → (((a && b) && true) && true) ≡ true
both-within a b h k = and_from _ _ (and_from _ _ (and_from _ _ h k) refl) refl

pub item-low : (path : Path) (d : ℕ) → AreSeveral path → 0 < d → size_under path d ≤ 2 ^ 20 → d ≤ 2 ^ 20
item-low path d several some high = round-word (0 + length path) d (round-inner path 0 d several (let e : size_under path d * 2 ^ 0 ≡ size_under path d = omega arith in omega (arith, e, high)))

starts-below : (v : ℕ) (ks : List ℕ) → AreBelow v ks → AreBelow (v * v) (map (λ k. k * v) ks)
starts-below v [] h = tt
starts-below v (k ∷ ks) h = (start k h.0, starts-below v ks h.1) where
  start : (k : ℕ) → k < v → k * v < v * v
  start k below = let m = mul-le-mul_right v (let p : suc k ≤ v = omega arith in p) in let e : suc k * v ≡ k * v + v = omega arith in omega (arith, m, e, below)

starts-listed : (v : ℕ) (ks : List ℕ) → map constant (map (λ k. k * v) ks) ≡ map (λ k. constant (k * v)) ks
starts-listed v [] = refl
starts-listed v (k ∷ ks) = ap (λ z. constant (k * v) ∷ z) (starts-listed v ks)

tile-limited : (room : ℕ) (path : Path) (v : ℕ) → AreSeveral path → 0 < v * v → size_under path (v * v) ≤ 2 ^ 20 →
    length path + 2 ≤ room → v * v ≤ 2 ^ 20 →
    list_all (is_limited room (size_under path (v * v)) (slice_index (map count_of path ++ v * v ∷ v * v ∷ [])))
    (map (place_sum path (v * v) 0) (map (λ k. constant (k * v)) (range_with_len 0 v))) ≡ true
tile-limited room path v several some high short low =
    subst (λ es. list_all (is_limited room (size_under path (v * v)) (slice_index (map count_of path ++ v * v ∷ v * v ∷ []))) (map (place_sum path (v * v) 0) es) ≡ true) (starts-listed v (range_with_len 0 v))
    (constants-limited room path (v * v) several some high short (v * v) (map (λ k. k * v) (range_with_len 0 v)) (omega arith) low (starts-below v (range_with_len 0 v) (range-below v)))

pub new-within : (room lanes : ℕ) (path : Path) (w : PlainWork) → CanNest lanes path w → HasRows w → AreSeveral path →
    0 < work_size w → size_under path (work_size w) ≤ 2 ^ 20 → length path + 2 ≤ room →
    is_within room (size_under path (work_size w)) (new_nest path w (items_in w (length path)) ∷ []) ≡ true
new-within room lanes path (kernel trees) can long several some high short =
    let d = work_size (kernel trees) in
    let low = item-low path d several some high in
    let all = constants-limited room path d several some high short d (range_with_len 0 d) (omega arith) low (range-below d) in both-within _ _ all all
new-within room lanes path (rows root d) can long several some high short =
    both-within _ _
    (and_from _ _ (place-limited room path d several some high short 1 _ (omega arith) (variable-small room path d several some high short (length path + 1) long (ap (slice_index (map count_of path ++ d ∷ d ∷ [])) (omega arith) ∙ at-column path d))) refl)
    (and_from _ _ (place-limited room path d several some high short 1 _ (omega arith) (variable-small room path d several some high short (length path) long (at-row path d))) refl)
new-within room lanes path (horner root d) can long several some high short =
    both-within _ _
    (and_from _ _ (place-limited room path d several some high short 2 _ (omega arith) (turn-small room path d several some high short (length path + 1) long (item-low path d several some high) (ap (slice_index (map count_of path ++ d ∷ d ∷ [])) (omega arith) ∙ at-column path d))) refl)
    (and_from _ _ (place-limited room path d several some high short 1 _ (omega arith) (variable-small room path d several some high short (length path) long (at-row path d))) refl)
new-within room lanes path (tile v) can long several some high short =
    let d = v * v in
    let low = item-low path d several some high in
    let all = tile-limited room path v several some high short low in both-within _ _ all all
new-within room lanes path (copy d) can long several some high short =
    let low = item-low path d several some high in
    let all = constants-limited room path d several some high short d (range_with_len 0 d) (omega arith) low (range-below d) in both-within _ _ all all

-- copies that take listed items
pub moved-within : (room : ℕ) (path : Path) (ks : List ℕ) → AreSeveral path → 0 < length ks →
    size_under path (length ks) ≤ 2 ^ 20 → length path + 2 ≤ room → AreBelow (length ks) ks →
    is_within room (size_under path (length ks)) (new_nest path (copy (length ks)) (map constant ks) ∷ []) ≡ true
moved-within room path ks several some high short h =
    let d = length ks in
    let low = item-low path d several some high in
    both-within _ _ (constants-limited room path d several some high short d ks (omega arith) low h) (constants-limited room path d several some high short d (range_with_len 0 d) (omega arith) low (range-below d))

pub table-within : (room n : ℕ) → 0 < n → n ≤ 2 ^ 20 → 2 ≤ room → TablesFit room n
table-within room n some high wide f stay =
    let ks = list_below n (at f) in
    let size : length ks ≡ n = length-list_below n (at f) in
    let entries : AreBelow (length ks) ks = below-all (length ks) ks (λ i below. subst (λ v. v < length ks) (sym (at-list_below n (at f) i (omega (arith, size, below)))) (omega (arith, size, stay i (omega (arith, size, below))))) in
    subst (λ z. is_within room z (new_nest [] (copy (length ks)) (map constant ks) ∷ []) ≡ true) size
    (moved-within room [] ks tt (omega (arith, size, some)) (omega (arith, size, high)) wide entries)

pub several-one : (n : ℕ) → 0 < n → AreSeveral (one_loop n) × (length (one_loop n) ≤ 1)
    × (size_under (one_loop n) 1 ≡ n)
several-one n some =
    elim (cases_eq n 1) [
      | inl one ↦ let is : one_loop n ≡ [] = grind (arith, nat_tests) in
          (subst AreSeveral (sym is) tt, omega (arith, ap length is), ap (λ p. size_under p 1) is ∙ sym one)
      | inr several ↦ let is : one_loop n ≡ Blocks n ∷ [] = grind (arith, nat_tests) in
          (subst AreSeveral (sym is) (omega (arith, some, several), tt), omega (arith, ap length is), ap (λ p. size_under p 1) is ∙ omega arith)
    ]

pub copying-within : (room n : ℕ) → 0 < n → n ≤ 2 ^ 20 → 3 ≤ room → is_within room n (copying n) ≡ true
copying-within room n some high wide =
    let h = several-one n some in
    subst (λ z. is_within room z (copying n) ≡ true) h.2 (new-within room 0 (one_loop n) (copy 1) tt tt h.0 (omega arith) (omega (arith, h.2, high)) (omega (arith, h.1, wide)))

-- ---- diagonals

sums-id : (es : List Sum) → map (λ e. e) es ≡ es
sums-id [] = refl
sums-id (e ∷ es) = ap (λ z. e ∷ z) (sums-id es)

pub spread-within : (room n : ℕ) (factors : PlainFactors) (zs : List PlainNest) → factor_count factors ≡ n →
    is_within room n zs ≡ true → is_within room n (multiplied factors [] zs) ≡ true
spread-within room n factors [] count h = refl
spread-within room n factors (z ∷ zs) count h =
    let cs = limits_of z in
    let places = list_all (is_limited room n cs) z.gathers && list_all (is_limited room n cs) z.scatters in
    let here = and-left (places && is_multiplier_within room cs z.multiplier) _ h in
    let both = and-left places _ here in
    and_from _ _
    (and_from _ _ both (ap₂ (λ k es. list_all (is_limited room k cs) es) count (sums-id z.scatters) ∙ and-right (list_all (is_limited room n cs) z.gathers) _ both))
    (spread-within room n factors zs count (and-right (places && is_multiplier_within room cs z.multiplier) _ h))

module _ (room n : ℕ) (some : 0 < n) (high : n ≤ 2 ^ 20) (wide : 3 ≤ room) where
  pub tables : TablesFit room n
  tables = table-within room n some high (omega arith)

  pub copy-within : (st : Merging) (path : Path) (factors : PlainFactors) → size_under path (factor_count factors) ≡ n →
      AreInside' room n tables st.waiting → AreWithin room n st.passes →
      AreWithin room n (with_copy (most room) n st path factors).passes
  copy-within st path factors count stay before =
      chosen (λ (next : Merging). AreWithin room n next.passes) (can_multiply room n factors (factor_places st.waiting path factors) (copying n)) _ _
      (λ can. (within-multiplied room n factors (factor_places st.waiting path factors) (copying n) (copying-within room n some high wide) can, before))
      (spread-within room n (spread path factors) (copying n) count (copying-within room n some high wide), within-append room n (settled (most room) n st.waiting) st.passes (within-settled room n tables st.waiting stay) before)

  pub diagonal-within : (waiting : List Mapping) (passes : List (List PlainNest)) (path : Path)
      (factors : PlainFactors) → size_under path (factor_count factors) ≡ n → AreInside' room n tables waiting →
      AreWithin room n passes →
      AreWithin room n (with_diagonal (most room) n waiting passes path factors).passes
  diagonal-within waiting [] path factors count stay before = copy-within (record { waiting = waiting; passes = [] }) path factors count stay before
  diagonal-within waiting (zs ∷ ps) path factors count stay before =
      chosen (λ (next : Merging). AreWithin room n next.passes) (suits path zs && can_multiply room n factors (factor_places waiting path factors) zs) _ _
      (λ can. (within-multiplied room n factors (factor_places waiting path factors) zs before.0 (and-right (suits path zs) _ can), before.1))
      (copy-within (record { waiting = waiting; passes = zs ∷ ps }) path factors count stay before)

  pub passes-within : (st : Merging) (ps : List (List PlainNest)) → AreWithin room n ps →
      AreInside' room n tables st.waiting → AreWithin room n st.passes →
      AreWithin room n (with_passes (most room) n st ps).passes
  passes-within st [] h stay before = before
  passes-within st (zs ∷ []) h stay before = within-pass room n tables st zs h.0 stay before
  passes-within st (zs ∷ ys ∷ ps) h stay before = (h.0, passes-within st (ys ∷ ps) h.1 stay before)

-- ---- side by side

rest-counts : (path : Path) (counts more : List ℕ) → rest_of path ((map count_of path ++ counts) ++ more) ≡ counts
    ++ more
rest-counts [] counts more = refl
rest-counts (t ∷ path) counts more = rest-counts path counts more

module _ (room n before k : ℕ) (path : Path) (several : AreSeveral path) (some : 0 < n)
    (high : size_under path n ≤ 2 ^ 20) (short : length path ≤ room) (fits : before + k ≤ n) where
  abbrev limits : PlainNest → ℕ → ℕ
  limits z = slice_index ((map count_of path ++ z.counts) ++ work_size z.work ∷ work_size z.work ∷ [])

  same-limits : (z : PlainNest) (i : ℕ) → limits z (i + length path) ≡ limits_of z i
  same-limits z i =
      rest-index path ((map count_of path ++ z.counts) ++ work_size z.work ∷ work_size z.work ∷ []) i
      ∙ ap (λ l. slice_index l i) (rest-counts path z.counts (work_size z.work ∷ work_size z.work ∷ []))

  sum-within : (z : PlainNest) (e : Sum) → is_limited (room - length path) k (limits_of z) e ≡ true →
      is_limited room (size_under path n) (limits z) (place_sum path n 0
      (added (constant before) (renumbered (length path) e))) ≡ true
  sum-within z e h =
      let low = item-low path n several some high in
      let inner = behind-small before (room - length path) k n (limits z) (renumbered (length path) e) fits low (renumbered-small (length path) (room - length path) k (limits_of z) (limits z) e (same-limits z) (tested _ _ _ e h)) in
      let counts : HasCounts path 0 (limits z) =
      counts-first path 0 (limits z) (z.counts ++ work_size z.work ∷ work_size z.work ∷ []) (λ i. ap (limits z) (omega arith) ∙ ap (λ l. slice_index l i) (append_assoc (map count_of path) z.counts (work_size z.work ∷ work_size z.work ∷ []))) in
      limited room (size_under path n) (limits z) _ (roomier (room - length path + length path) room _ (limits z) _ (omega arith) (place-small path (room - length path) n 0 _ (limits z) several counts some high inner))

  sums-within : (z : PlainNest) (es : List Sum) → list_all (is_limited (room - length path) k (limits_of z)) es ≡ true →
      list_all (is_limited room (size_under path n) (limits z))
      (map (λ e. place_sum path n 0 (added (constant before) (renumbered (length path) e))) es) ≡ true
  sums-within z [] h = refl
  sums-within z (e ∷ es) h = and_from _ _ (sum-within z e (and-left (is_limited (room - length path) k (limits_of z) e) _ h)) (sums-within z es (and-right (is_limited (room - length path) k (limits_of z) e) _ h))

  places-within : (z : PlainNest) (count : ℕ) (es : List Sum) →
      list_all (is_limited (room - length path) count (limits_of z)) es ≡ true →
      list_all (is_limited room count (limits z)) (map (renumbered (length path)) es) ≡ true
  places-within z count [] h = refl
  places-within z count (e ∷ es) h =
      and_from _ _
      (limited room count (limits z) _ (roomier (room - length path) room count (limits z) _ (omega arith)
      (renumbered-small (length path) (room - length path) count (limits_of z) (limits z) e (same-limits z) (tested _ _ _ e (and-left (is_limited (room - length path) count (limits_of z) e) _ h)))))
      (places-within z count es (and-right (is_limited (room - length path) count (limits_of z) e) _ h))

  multiplier-within : (z : PlainNest) (o : Option PlainMultiplier) →
      is_multiplier_within (room - length path) (limits_of z) o ≡ true →
      is_multiplier_within room (limits z) (renumbered_places (length path) o) ≡ true
  multiplier-within z None h = refl
  multiplier-within z (Some d) h = places-within z (factor_count d.factors) d.places h

  lifted-within : (zs : List PlainNest) → is_within (room - length path) k zs ≡ true →
      is_within room (size_under path n) (map (lifted path n before) zs) ≡ true
  lifted-within [] h = refl
  lifted-within (z ∷ zs) h =
      let inner = room - length path in
      let places = list_all (is_limited inner k (limits_of z)) z.gathers && list_all (is_limited inner k (limits_of z)) z.scatters in
      let here = and-left (places && is_multiplier_within inner (limits_of z) z.multiplier) _ h in
      let both = and-left places _ here in
      and_from _ _
      (and_from _ _
      (and_from _ _ (sums-within z z.gathers (and-left (list_all (is_limited inner k (limits_of z)) z.gathers) _ both)) (sums-within z z.scatters (and-right (list_all (is_limited inner k (limits_of z)) z.gathers) _ both)))
      (multiplier-within z z.multiplier (and-right places _ here)))
      (lifted-within zs (and-right (places && is_multiplier_within inner (limits_of z) z.multiplier) _ h))

together : (room n : ℕ) (zs ys : List PlainNest) → is_within room n zs ≡ true → is_within room n ys ≡ true →
    is_within room n (zs ++ ys) ≡ true
together room n [] ys h g = g
together room n (z ∷ zs) ys h g =
    let one = (list_all (is_limited room n (limits_of z)) z.gathers && list_all (is_limited room n (limits_of z)) z.scatters) && is_multiplier_within room (limits_of z) z.multiplier in
    and_from _ _ (and-left one _ h) (together room n zs ys (and-right one _ h) g)

module _ (room k l : ℕ) (path : Path) (several : AreSeveral path) (left : 0 < k) (right : 0 < l)
    (high : size_under path (k + l) ≤ 2 ^ 20) (short : length path + 3 ≤ room) where
  side-within : (zs ys : List PlainNest) → is_within (room - length path) k zs ≡ true →
      is_within (room - length path) l ys ≡ true → is_within room (size_under path (k + l)) (side path k l zs ys) ≡ true
  side-within zs ys h g =
      together room (size_under path (k + l)) (map (lifted path (k + l) 0) zs) _
      (lifted-within room (k + l) 0 k path several (omega arith) high (omega arith) (omega arith) zs h)
      (lifted-within room (k + l) k l path several (omega arith) high (omega arith) (omega arith) ys g)

  low : k + l ≤ 2 ^ 20
  low = item-low path (k + l) several (omega arith) high

  pub sides-within : (ps qs : List (List PlainNest)) → AreWithin (room - length path) k ps →
      AreWithin (room - length path) l qs → AreWithin room (size_under path (k + l)) (sides path k l ps qs)
  sides-within [] [] h g = tt
  sides-within (zs ∷ ps) [] h g = (side-within zs (copying l) h.0 (copying-within (room - length path) l right (omega (arith, low)) (omega arith)), sides-within ps [] h.1 tt)
  sides-within [] (ys ∷ qs) h g = (side-within (copying k) ys (copying-within (room - length path) k left (omega (arith, low)) (omega arith)) g.0, sides-within [] qs tt g.1)
  sides-within (zs ∷ ps) (ys ∷ qs) h g = (side-within zs ys h.0 g.0, sides-within ps qs h.1 g.1)

-- ---- terms

pub moves-inside : (lanes : ℕ) → (room n : ℕ) (fit : TablesFit room n) (fs : List Mapping) → AreMoves lanes n fs →
    AreInside' room n fit fs
moves-inside lanes room n fit [] h = tt
moves-inside lanes room n fit (f ∷ fs) h = (h.0.permutes.there_below, moves-inside lanes room n fit fs h.1)

-- the passes of a part
pub part-within : (lanes : ℕ) → (v k : ℕ) (a : PlainTerm) → 0 < k → IsRound v k → IsGoodTerm lanes k a →
    AreWithin (64 - v) k (merged (most (64 - v)) k nothing a).passes →
    AreWithin (64 - v) k (ended (most (64 - v)) k (from_end (merged (most (64 - v)) k nothing a).waiting)
    (merged (most (64 - v)) k nothing a).passes)
part-within lanes v k a some round good within =
    let few = few-round v k some round in
    let fit = table-within (64 - v) k some (round-word v k round) (omega (arith, few)) in
    let reach = merged-reaches lanes 1 k (most (64 - v)) nothing a (omega arith) some good (nothing-stands lanes 1 k) in
    within-ended (64 - v) k fit (from_end (merged (most (64 - v)) k nothing a).waiting) (merged (most (64 - v)) k nothing a).passes (inside-end (64 - v) k fit _ (moves-inside lanes (64 - v) k fit _ reach.stands.moves)) within

-- u tensors stand round the term
pub merged-within : (lanes : ℕ) → (u n : ℕ) (st : Merging) (t : PlainTerm) → 0 < n → IsRound u n →
    IsGoodTerm lanes n t → HasSeveral t → Stands lanes 1 n st → AreWithin (64 - u) n st.passes →
    AreWithin (64 - u) n (merged (most (64 - u)) n st t).passes
merged-within lanes u n st same some round good several stands before = before
merged-within lanes u n st (gath f) some round good several stands before = before
merged-within lanes u n st (scat f) some round good several stands before =
    let few = few-round u n some round in
    within-scatter (64 - u) n (table-within (64 - u) n some (round-word u n round) (omega (arith, few))) st.waiting st.passes f before
merged-within lanes u n st (diag path factors) some round good several stands before =
    let few = few-round u n some round in
    let high = round-word u n round in
    let wide : 3 ≤ 64 - u = omega (arith, few) in
    diagonal-within (64 - u) n some high wide st.waiting st.passes path factors good (moves-inside lanes (64 - u) n (tables (64 - u) n some high wide) st.waiting stands.moves) before
merged-within lanes u n st (nest path w) some round good several stands before =
    let few = few-round u n some round in
    let high = round-word u n round in
    let fit = table-within (64 - u) n some high (omega (arith, few)) in
    let size = good.1 in
    let item = inner_positive path (work_size w) (subst (λ z. 0 < z) (sym size) some) in
    let inner : length path + u ≤ 20 = let g = few-round (u + length path) (work_size w) item (round-inner path u (work_size w) several.0 (subst (IsRound u) (sym size) round)) in omega (arith, g) in
    within-pass (64 - u) n fit st (new_nest path w (items_in w (length path)) ∷ [])
    (subst (λ z. is_within (64 - u) z (new_nest path w (items_in w (length path)) ∷ []) ≡ true) size (new-within (64 - u) lanes path w good.0 several.1 several.0 item (omega (arith, size, high)) (omega (arith, inner))))
    (moves-inside lanes (64 - u) n fit st.waiting stands.moves) before
merged-within lanes u n st (move path ks) some round good several stands before =
    let few = few-round u n some round in
    let high = round-word u n round in
    let fit = table-within (64 - u) n some high (omega (arith, few)) in
    let size = good.1 in
    let item = inner_positive path (length ks) (subst (λ z. 0 < z) (sym size) some) in
    let inner : length path + u ≤ 20 = let g = few-round (u + length path) (length ks) item (round-inner path u (length ks) several (subst (IsRound u) (sym size) round)) in omega (arith, g) in
    within-pass (64 - u) n fit st (new_nest path (copy (length ks)) (map constant ks) ∷ [])
    (subst (λ z. is_within (64 - u) z (new_nest path (copy (length ks)) (map constant ks) ∷ []) ≡ true) size (moved-within (64 - u) path ks several item (omega (arith, size, high)) (omega (arith, inner)) good.0))
    (moves-inside lanes (64 - u) n fit st.waiting stands.moves) before
merged-within lanes u n st (product a b) some round good several stands before =
    let first = merged-reaches lanes 1 n (most (64 - u)) st a (omega arith) some good.0 stands in
    merged-within lanes u n (merged (most (64 - u)) n st a) b some round good.1 several.1 first.stands (merged-within lanes u n st a some round good.0 several.0 stands before)
merged-within lanes u n st (beside path k a l b) some round good several stands before =
    let few = few-round u n some round in
    let high = round-word u n round in
    let wide : 3 ≤ 64 - u = omega (arith, few) in
    let size = good.2 in
    let whole = round-inner path u (k + l) several.0 (subst (IsRound u) (sym size) round) in
    let deep : length path + u ≤ 20 = let g = few-round (u + length path) (k + l) (omega (arith, good.0)) whole in omega (arith, g) in
    let v = u + length path in
    let room : 64 - u - length path ≡ 64 - v = omega (arith, deep) in
    let left : IsRound v k = let m = mul-le-mul_right (2 ^ v) (let p : k ≤ k + l = omega arith in p) in omega (arith, m, whole) in
    let right : IsRound v l = let m = mul-le-mul_right (2 ^ v) (let p : l ≤ k + l = omega arith in p) in omega (arith, m, whole) in
    let ps = part-within 0 v k a good.0 left good.3 (merged-within 0 v k nothing a good.0 left good.3 several.1 (nothing-stands 0 1 k) tt) in
    let qs = part-within 0 v l b good.1 right good.4 (merged-within 0 v l nothing b good.1 right good.4 several.2 (nothing-stands 0 1 l) tt) in
    let inner = 64 - u - length path in
    let first = ended (most inner) k (from_end (merged (most inner) k nothing a).waiting) (merged (most inner) k nothing a).passes in
    let second = ended (most inner) l (from_end (merged (most inner) l nothing b).waiting) (merged (most inner) l nothing b).passes in
    let both = sides-within (64 - u) k l path several.0 good.0 good.1 (omega (arith, size, high)) (omega (arith, deep)) first second
    (subst (λ r. AreWithin r k (ended (most r) k (from_end (merged (most r) k nothing a).waiting) (merged (most r) k nothing a).passes)) (sym room) ps)
    (subst (λ r. AreWithin r l (ended (most r) l (from_end (merged (most r) l nothing b).waiting) (merged (most r) l nothing b).passes)) (sym room) qs) in
    passes-within (64 - u) n some high wide st (sides path k l first second) (subst (λ z. AreWithin (64 - u) z (sides path k l first second)) size both)
    (moves-inside lanes (64 - u) n (tables (64 - u) n some high wide) st.waiting stands.moves) before

any-within : (n : ℕ) (ps : List (List PlainNest)) → 0 < n → n ≤ 2 ^ 20 → AreWithin 64 n ps →
    AreWithin 64 n (if_any n ps)
any-within n [] some high h = (copying-within 64 n some high (omega arith), tt)
any-within n (zs ∷ ps) some high h = h

pub merge_limits : MergeLimits
merge_limits lanes n t some high good several =
    let round : IsRound 0 n = omega (arith, high) in
    any-within n _ some high (part-within lanes 0 n t some round good (merged-within lanes 0 n nothing t some round good several (nothing-stands lanes 1 n) tt))

-- a sum within the limits stays below its bound
pub top-below : (room n : ℕ) (cs : ℕ → ℕ) (e : Sum) → is_limited room n cs e ≡ true → top e cs < n
top-below room n cs e h =
    let first = nat_le (parts e) room && nat_le (levels e) 64 in
    let bounds = nat_lt (top e cs) n && nat_lt (peak e) n in
    let both = and-left bounds (are_small cs e) (and-right first (bounds && are_small cs e) h) in
    lt-true _ _ (and-left (nat_lt (top e cs) n) _ both)
