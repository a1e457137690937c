-- The items of works, whose places can be made.
use Rattle.std.proofs.Common.{◌≡◌, ℕ, zero, suc, ◌+◌, ◌-◌, ◌*◌, ◌^◌, ◌<◌, ◌≤◌, arith, refl, sym, ap, ◌∙◌, List, [], ◌∷◌}
use Rattle.std.proofs.Common.{◌++◌, length, inl, inr, subst}
use Rattle.std.specs.Prelude.{All, map, slice_index}
use Rattle.std.specs.List.{range_with_len}
use Rattle.std.proofs.Math.Nat.{mul-le-mul_right}
use Rattle.std.proofs.lemmas.List.FromFn.{map-range_with_len_more}
use Rattle.std.proofs.lemmas.Bool.{cases_eq, and_from}
use Rattle.std.proofs.lemmas.Bool.Decides.{nat_tests}
use Rattle.std.proofs.lemmas.List.Elements.{All-nil, All-cons}
use Rattle.perm_algebra.specs.Affine.{Sum, constant, variable, remainder}
use Rattle.perm_algebra.specs.Views.{plain_sum}
use Rattle.perm_algebra.specs.declared.Affine.{Affine}
use Rattle.operators.specs.Sum.{list_below}
use Rattle.operators.proofs.Lists.{length-list_below}
use Rattle.sigma_spl.specs.Good.{AreBelow}
use Rattle.sigma_spl.specs.Limits.{AreSeveral, HasRows}
use Rattle.sigma_spl.specs.Merge.{items_in, items_out, one_loop}
use Rattle.sigma_spl.specs.Work.{PlainWork, kernel, rows, horner, tile, copy, work_size}
use Rattle.sigma_spl.proofs.Small.{max-lt, divided-true}
use Rattle.sigma_spl.proofs.Within.{IsSmall, constant-small, small-true}
use Rattle.sigma_spl.proofs.Limited.{turn-fits, counts-first}
use Rattle.sigma_spl.proofs.Fitting.{le-times}
use Rattle.sigma_spl.proofs.Natural.{size-one_loop}
use Rattle.operators.specs.declared.paths.Tensor.TheVariants.{Blocks, Columns}
use Rattle.operators.specs.Paths.Tensors.{Path, count_of, size_under}
use Rattle.loop_nests.specs.NewNests.{CanMove}
use Rattle.loop_nests.specs.Placed.{AllCanPlace, CanPlace}
use Rattle.loop_nests.proofs.Naming.{can-place}

-- ---- items

-- sums that name items of a copy of n items
abbrev pub AreItems : ℕ → (ℕ → ℕ) → List Sum → Type 0
AreItems n cs [] = Unit {0}
AreItems n cs (e ∷ es) = IsSmall 64 n cs e × AreItems n cs es

pub constant-items : (n : ℕ) (cs : ℕ → ℕ) (ks : List ℕ) → n ≤ 2 ^ 20 → AreBelow n ks → AreItems n cs (map constant ks)
constant-items n cs [] high h = tt
constant-items n cs (k ∷ ks) high h = (constant-small 64 n cs k h.0 high, constant-items n cs ks high h.1)

range-items : (n : ℕ) (cs : ℕ → ℕ) (k len : ℕ) → n ≤ 2 ^ 20 → k + len ≤ n →
    AreItems n cs (map constant (range_with_len k len))
range-items n cs k zero high h = tt
range-items n cs k (suc len) high h =
    (constant-small 64 n cs k (omega arith) high, range-items n cs (k + 1) len high (omega arith))

start-below : (k v : ℕ) → k < v → k * v < v * v
start-below k v below = let m = mul-le-mul_right v (let p : suc k ≤ v = omega arith in p) in let e : suc k * v ≡ k * v + v = omega arith in omega (arith, m, e, below)

tile-items : (v : ℕ) (cs : ℕ → ℕ) (k len : ℕ) → v * v ≤ 2 ^ 20 → k + len ≤ v →
    AreItems (v * v) cs (map (λ k. constant (k * v)) (range_with_len k len))
tile-items v cs k zero high h = tt
tile-items v cs k (suc len) high h =
    let below = start-below k v (omega arith) in
    (constant-small 64 (v * v) cs (k * v) below high, tile-items v cs (k + 1) len high (omega arith))

-- the variable v, which runs below n
pub variable-item : (n : ℕ) (cs : ℕ → ℕ) (v : ℕ) → 2 ≤ n → cs v ≡ n → IsSmall 64 n cs (variable 1 v (constant 0))
variable-item n cs v two is =
    let one : 1 * (cs v - 1) + 0 ≡ n - 1 = ap (λ z. 1 * (z - 1) + 0) is ∙ omega arith in
    record {
      parts = omega arith;
      levels = omega arith;
      top = omega (arith, one, two);
      peak = max-lt 1 0 n (omega arith) (omega arith);
      small = refl;
    }

-- the last item first
turn-item : (n : ℕ) (cs : ℕ → ℕ) (v : ℕ) → 2 ≤ n → n ≤ 2 ^ 20 → cs v ≡ n →
    IsSmall 64 n cs (remainder 1 (variable (n - 1) v (constant (n - 1))) n (constant 0))
turn-item n cs v two low is =
    let word : (n - 1) * (cs v - 1) + (n - 1) < 2 ^ 64 = turn-fits n (cs v) low (omega (arith, is, low)) in
    let last = small-true (n - 1) (omega (arith, low)) in
    record {
      parts = omega arith;
      levels = omega arith;
      top = omega (arith, two);
      peak = max-lt 1 0 n (omega arith) (omega arith);
      small = and_from _ _
          (divided-true cs 1 (variable (n - 1) v (constant (n - 1))) n
          (omega arith) (omega arith) (omega (arith, two)) (omega (arith, low)) (omega (arith, low)) word)
          (and_from _ _ (and_from _ _ last last) refl);
    }

loaded-items : (depth : ℕ) (cs : ℕ → ℕ) (w : PlainWork) → HasRows w → work_size w ≤ 2 ^ 20 →
    cs (depth + 1) ≡ work_size w → AreItems (work_size w) cs (items_in w depth)
loaded-items depth cs (kernel trees) long high is =
    range-items (work_size (kernel trees)) cs 0 (work_size (kernel trees)) high (omega arith)
loaded-items depth cs (rows root n) long high is = (variable-item n cs (depth + 1) long is, tt)
loaded-items depth cs (horner root n) long high is = (turn-item n cs (depth + 1) long high is, tt)
loaded-items depth cs (tile v) long high is = tile-items v cs 0 v high (omega arith)
loaded-items depth cs (copy n) long high is = range-items n cs 0 n high (omega arith)

stored-items : (depth : ℕ) (cs : ℕ → ℕ) (w : PlainWork) → HasRows w → work_size w ≤ 2 ^ 20 →
    cs depth ≡ work_size w → AreItems (work_size w) cs (items_out w depth)
stored-items depth cs (kernel trees) long high is =
    range-items (work_size (kernel trees)) cs 0 (work_size (kernel trees)) high (omega arith)
stored-items depth cs (rows root n) long high is = (variable-item n cs depth long is, tt)
stored-items depth cs (horner root n) long high is = (variable-item n cs depth long is, tt)
stored-items depth cs (tile v) long high is = tile-items v cs 0 v high (omega arith)
stored-items depth cs (copy n) long high is = range-items n cs 0 n high (omega arith)

-- ---- the counts of a path

pub low-of : (path : Path) (n : ℕ) → AreSeveral path → size_under path n ≤ 2 ^ 20 → n ≤ 2 ^ 20
low-of [] n several high = high
low-of (Blocks c ∷ path) n several high = let within = le-times c (size_under path n) (omega (arith, several.0)) in low-of path n several.1 (omega (arith, within, high))
low-of (Columns c ∷ path) n several high =
    let turned : size_under path n * c ≡ c * size_under path n = omega arith in
    let within = le-times c (size_under path n) (omega (arith, several.0)) in low-of path n several.1 (omega (arith, within, turned, high))

-- a path is shorter than what it makes
pub length-below : (path : Path) (n : ℕ) → AreSeveral path → 0 < n → length path < size_under path n
length-below [] n several some = some
length-below (Blocks c ∷ path) n several some = let more = mul-le-mul_right (size_under path n) several.0 in omega (arith, more, length-below path n several.1 some)
length-below (Columns c ∷ path) n several some =
    let turned : size_under path n * c ≡ c * size_under path n = omega arith in
    let more = mul-le-mul_right (size_under path n) several.0 in omega (arith, more, turned, length-below path n several.1 some)

-- what the variables of a new nest run below: those of the path's loops, and the two of work on n words
abbrev limits : Path → ℕ → ℕ → ℕ
limits path n = slice_index (map count_of path ++ n ∷ n ∷ [])

at-row : (path : Path) (n : ℕ) → limits path n (length path) ≡ n
at-row [] n = refl
at-row (t ∷ path) n = at-row path n

at-column : (path : Path) (n : ℕ) → limits path n (suc (length path)) ≡ n
at-column [] n = refl
at-column (t ∷ path) n = at-column path n

-- ---- items one by one

named-each : (path : Path) (n : ℕ) (es : List Sum) → AreSeveral path → 0 < n → size_under path n ≤ 2 ^ 20 →
    AreItems n (limits path n) es → AllCanPlace path n es
named-each path n [] several some high h = tt
named-each path n (e ∷ es) several some high h =
    let cs = limits path n in
    let short = length-below path n several some in
    let counted = counts-first path 0 cs (n ∷ n ∷ []) (λ i. ap cs (omega arith)) in (
      can-place 64 cs path n 0 e several counted some high (omega (arith, short, high)) h.0,
      named-each path n es several some high h.1,
    )

pub all_named : (path : Path) (n : ℕ) (items : List Affine) (es : List Sum) → map plain_sum items ≡ es →
    AllCanPlace path n es → All (λ e. CanPlace path n 0 (plain_sum e)) items
all_named path n items es same h = each items (subst (AllCanPlace path n) (sym same) h)
  where
    each : (xs : List Affine) → AllCanPlace path n (map plain_sum xs) → All (λ e. CanPlace path n 0 (plain_sum e)) xs
    each [] k = All-nil (λ e. CanPlace path n 0 (plain_sum e))
    each (x ∷ xs) k = All-cons (λ e. CanPlace path n 0 (plain_sum e)) x xs k.0 (each xs k.1)

pub loads_named : (path : Path) (w : PlainWork) → HasRows w → AreSeveral path → 0 < work_size w →
    size_under path (work_size w) ≤ 2 ^ 20 → AllCanPlace path (work_size w) (items_in w (length path))
loads_named path w long several some high =
    let n = work_size w in
    let cs = limits path n in
    let column : cs (length path + 1) ≡ n = ap cs (omega arith) ∙ at-column path n in
    named-each path n _ several some high (loaded-items (length path) cs w long (low-of path n several high) column)

pub stores_named : (path : Path) (w : PlainWork) → HasRows w → AreSeveral path → 0 < work_size w →
    size_under path (work_size w) ≤ 2 ^ 20 → AllCanPlace path (work_size w) (items_out w (length path))
stores_named path w long several some high =
    let n = work_size w in
    named-each path n _ several some high
    (stored-items (length path) (limits path n) w long (low-of path n several high) (at-row path n))

pub places_named : (path : Path) (ks : List ℕ) → AreBelow (length ks) ks → AreSeveral path → 0 < length ks →
    size_under path (length ks) ≤ 2 ^ 20 → CanMove path ks
places_named path ks below several some high =
    let n = length ks in
    named-each path n _ several some high (constant-items n (limits path n) ks (low-of path n several high) below)

-- under no tensors there is nothing to name
pub alone_named : (n : ℕ) (es : List Sum) → AllCanPlace [] n es
alone_named n [] = tt
alone_named n (e ∷ es) = (tt, alone_named n es)

-- ---- a loop over all words

pub loop_size : (n : ℕ) → size_under (one_loop n) 1 ≡ n
loop_size = size-one_loop

-- ---- values of a function

pub values_count : (ks : List ℕ) (n : ℕ) (f : ℕ → ℕ) → ks ≡ list_below n f → length ks ≡ n
values_count ks n f is = ap length is ∙ length-list_below n f

pub values_more : (n : ℕ) (f : ℕ → ℕ) → list_below (n + 1) f ≡ list_below n f ++ f n ∷ []
values_more n f = map-range_with_len_more f 0 n n (omega arith)
