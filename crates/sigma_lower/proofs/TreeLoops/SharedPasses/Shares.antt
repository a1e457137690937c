-- Each processor's share of a root of r * s words: a block of r / p rows in the first phase, and s / p columns in the second one.
use Rattle.sigma_lower.proofs.Words.{◌≡◌, ◌≢◌, ℕ, ◌+◌, ◌*◌, ◌/◌, ◌%◌, ◌<◌, ◌≤◌, arith, sym, ap, ap₂, ◌∙◌, List, [], ◌∷◌}
use Rattle.sigma_lower.proofs.Words.{subst, mod-lt, div-lt_iff_lt-mul, ◌==◌, slice_index, div-add-mod', mul-div_right}
use Rattle.sigma_lower.proofs.Words.{Mapping, at, Target, stride, row-of, column-of, place_below, factor_positive}
use Rattle.sigma_lower.proofs.Words.{wrapped, chosen, within, Blocks, Columns, Path, size_under, place, AreInRange}
use Rattle.sigma_lower.proofs.Words.{HasParts, CanShareLayout, Layout, is-one, div-one, mod-one, IsDealt, is_dealt}
use Rattle.sigma_lower.proofs.Words.{place-below, IsWide, wide_from, wide_part, IsOwner}
use Rattle.std.proofs.Math.Nat.{div-div-eq-div-mul, mul-mod_right}
use Rattle.sigma_lower.proofs.TreeTerms.Permuted.{StaysBelow, wrapped-below}
use Rattle.sigma_lower.proofs.TreeTerms.Vectors.{apart}

-- several processors have equal shares of the rows and columns, each of whole lines and vectors
pub record AreShares (c : Target) (r s : ℕ) : Type 0 where
  pub several : 1 < c.procs
  pub size : r * s ≡ c.size
  pub low : 1 ≤ c.size
  pub lanes : 1 ≤ c.lanes
  pub rows : IsDealt c.procs c.line r
  pub columns : IsDealt c.procs c.line s
  pub row_vectors : IsWide c.lanes (r / c.procs)
  pub column_vectors : IsWide c.lanes (s / c.procs)
  pub vectors : IsWide c.lanes s

pub shares : (c : Target) (l : Layout) (r s : ℕ) → CanShareLayout c l → 1 < c.procs → HasParts c r s → r * s ≡ c.size →
    AreShares c r s
shares c l r s can several fits product =
    let line_low : 1 ≤ c.line = can.line in
    let positive : 0 < c.procs = omega (arith, several) in
    let both = fits.procs several in
    let left : IsDealt c.procs c.line r = is_dealt c.procs c.line r positive (omega (arith, line_low)) both.0 in
    let right : IsDealt c.procs c.line s = is_dealt c.procs c.line s positive (omega (arith, line_low)) both.1 in
    let in_line : c.line % c.lanes ≡ 0 = can.in_line several in
    let part : IsWide c.lanes (s / c.procs) = wide_part c.lanes c.line (s / c.procs) right.lines in_line in
    let whole : s ≡ c.lanes * (c.procs * (s / c.procs / c.lanes)) = right.parts ∙ ap (λ n. c.procs * n) part ∙ omega arith in
    record {
      several = several;
      size = product;
      low = can.some;
      lanes = can.lanes;
      rows = left;
      columns = right;
      row_vectors = wide_part c.lanes c.line (r / c.procs) left.lines in_line;
      column_vectors = part;
      vectors = wide_from c.lanes s (ap (λ n. n % c.lanes) whole ∙ mul-mod_right c.lanes (c.procs * (s / c.procs / c.lanes)));
    }

-- what p times it is the whole is a processor's block
pub block-of : (c : Target) (b : ℕ) → 1 < c.procs → c.procs * b ≡ c.size → c.size / c.procs ≡ b
block-of c b several e = let positive : 0 < c.procs = omega (arith, several) in ap (λ n. n / c.procs) (sym e) ∙ mul-div_right b positive

pub row-block : (c : Target) (r s : ℕ) → AreShares c r s → c.procs * (r / c.procs * s) ≡ c.size
row-block c r s h = sym (sym h.size ∙ ap (λ n. n * s) h.rows.parts ∙ omega arith)

pub column-block : (c : Target) (r s : ℕ) → AreShares c r s → c.procs * (s / c.procs * r) ≡ c.size
column-block c r s h = sym (sym h.size ∙ ap (λ n. r * n) h.columns.parts ∙ omega arith)

-- ---- owners

-- the block of n / p words that a word stands in
abbrev pub block_owner : Target → ℕ → ℕ
block_owner c a = a / (c.size / c.procs)

-- the share of the s columns that a word stands in
abbrev pub column_owner : Target → ℕ → ℕ → ℕ
column_owner c s a = a % s / (s / c.procs)

same-lines : (a b line w : ℕ) → a / line ≡ b / line → a / (line * w) ≡ b / (line * w)
same-lines a b line w e = sym (div-div-eq-div-mul a line w) ∙ ap (λ x. x / w) e ∙ div-div-eq-div-mul b line w

pub block-owner : (c : Target) (r s : ℕ) → AreShares c r s → IsOwner c (block_owner c)
block-owner c r s h =
    let p = c.procs in
    let w = r / p / c.line * s in
    let block : c.size / p ≡ r / p * s = block-of c (r / p * s) h.several (row-block c r s h) in
    let lines : c.size / p ≡ c.line * w = block ∙ ap (λ n. n * s) (wide_from c.line (r / p) h.rows.lines) ∙ omega arith in
    let whole : c.size ≡ p * (c.size / p) = sym (row-block c r s h) ∙ ap (λ n. p * n) (sym block) in
    let low : 1 ≤ c.size = h.low in
    let positive : 0 < c.size / p = factor_positive p (c.size / p) 0 (omega (arith, whole, low)) in
    record {
      lines = λ a b _ _ e. ap (λ n. a / n) lines ∙ same-lines a b c.line w e ∙ ap (λ n. b / n) (sym lines);
      procs = λ a below. (div-lt_iff_lt-mul positive).1 (omega (arith, whole, below));
    }

-- the share by the line that a word stands in
column-line : (p line w s u a : ℕ) → 0 < line → u ≡ w * line → s ≡ p * w * line → a % s / u ≡ a / line % (p * w) / w
column-line p line w s u a positive eu es =
    let x = a / line in
    let l = a % line in
    let below : l < line = mod-lt a positive in
    ap₂ (λ n m. n % s / m) (sym (div-add-mod' a line)) eu
    ∙ ap (λ m. (x * line + l) % m / (w * line)) es
    ∙ ap (λ n. n / (w * line)) (apart x (p * w) line l below).column
    ∙ (apart (x % (p * w)) w line l below).row

pub column-owner : (c : Target) (r s : ℕ) → 1 ≤ c.line → AreShares c r s → IsOwner c (column_owner c s)
column-owner c r s line_low h =
    let p = c.procs in
    let u = s / p in
    let w = u / c.line in
    let positive : 0 < c.line = omega (arith, line_low) in
    let share : u ≡ w * c.line = wide_from c.line u h.columns.lines in
    let whole : s ≡ p * w * c.line = h.columns.parts ∙ ap (λ n. p * n) share ∙ omega arith in
    let low : 1 ≤ c.size = h.low in
    let some : 0 < s = factor_positive r s 0 (omega (arith, h.size, low)) in
    let parts : s ≡ p * u = h.columns.parts in
    let part : 0 < u = factor_positive p u 0 (omega (arith, parts, some)) in
    record {
      lines = λ a b _ _ e. column-line p c.line w s u a positive share whole ∙ ap (λ x. x % (p * w) / w) e ∙ sym (column-line p c.line w s u b positive share whole);
      procs = λ a below. (div-lt_iff_lt-mul part).1 (omega (arith, parts, mod-lt a some));
    }

-- ---- natural places

-- the items of each processor's copies stand at places that it owns
abbrev pub OwnsNatural : Target → Path → ℕ → (ℕ → ℕ) → Type 0
OwnsNatural c path n owner = (q : ℕ) (vs : List ℕ) (k : ℕ) → q < c.procs → AreInRange path vs → (c.procs ≢ 1 → slice_index vs 0 ≡ q) → k < n → owner (place path n vs k) ≡ q

pub block-natural : (c : Target) (rest : Path) (n : ℕ) → 1 < c.procs → c.procs * size_under rest n ≡ c.size →
    OwnsNatural c (Blocks c.procs ∷ rest) n (block_owner c)
block-natural c rest n several e q [] k below range head inside = absurd range
block-natural c rest n several e q (x ∷ vs) k below range head inside =
    let size = size_under rest n in
    let y = place rest n vs k in
    ap (λ b. (x * size + y) / b) (block-of c size several e)
    ∙ row-of x y size (place-below rest n vs k range.1 inside)
    ∙ head (λ one. absurd (omega (arith, one, several)))

-- ---- functions that stay in blocks

pub block-keeps : (b k : ℕ) (rest : Path) (n : ℕ) (f : Mapping) → size_under rest n ≡ b → 0 < b → StaysBelow n (at f) →
    (i : ℕ) → at (wrapped (Blocks k ∷ rest) n f) i / b ≡ i / b
block-keeps b k rest n f e some stays i =
    let size = size_under rest n in
    let positive : 0 < size = omega (arith, e, some) in
    let inner = at (wrapped rest n f) (i % size) in
    ap (λ m. (i / size * size + inner) / m) (sym e)
    ∙ row-of (i / size) inner size (wrapped-below rest n f stays (i % size) (mod-lt i positive))
    ∙ ap (λ m. i / m) e

columns-keep : (b v : ℕ) (f : ℕ → ℕ) → 0 < v → ((i : ℕ) → f i / b ≡ i / b) → (i : ℕ) →
    (f (i / v) * v + i % v) / (v * b) ≡ i / (v * b)
columns-keep b v f positive h i =
    sym (div-div-eq-div-mul (f (i / v) * v + i % v) v b)
    ∙ ap (λ x. x / b) (row-of (f (i / v)) (i % v) v (mod-lt i positive))
    ∙ h (i / v)
    ∙ div-div-eq-div-mul i v b

-- in blocks of b vectors
pub columns-keeps : (b v : ℕ) (path : Path) (n : ℕ) (f : Mapping) → 0 < v →
    ((i : ℕ) → at (wrapped path n f) i / b ≡ i / b) → (i : ℕ) →
    at (wrapped (within (Columns v) path) n f) i / (v * b) ≡ i / (v * b)
columns-keeps b v path n f positive h =
    chosen (λ z. (i : ℕ) → at (wrapped z n f) i / (v * b) ≡ i / (v * b)) (v == 1) path (Columns v ∷ path)
    (λ one.
    let same : b ≡ v * b = sym (ap (λ m. m * b) (is-one v one) ∙ omega arith) in
    subst (λ m. (i : ℕ) → at (wrapped path n f) i / m ≡ i / m) same h)
    (columns-keep b v (at (wrapped path n f)) positive h)

-- ---- functions on columns

-- g is f on each of k columns
abbrev pub IsOnColumns : ℕ → (ℕ → ℕ) → (ℕ → ℕ) → Type 0
IsOnColumns k f g = (i : ℕ) → g i ≡ f (i / k) * k + i % k

pub one-column : (f : ℕ → ℕ) → IsOnColumns 1 f f
one-column f i = sym (ap₂ (λ x y. f x * 1 + y) (div-one i) (mod-one i) ∙ omega arith)

more-columns : (k v : ℕ) (f g : ℕ → ℕ) → 0 < v → IsOnColumns k f g → IsOnColumns (k * v) f (λ i. g (i / v) * v + i % v)
more-columns k v f g positive h i =
    let a = i / v in
    let l = i % v in
    let below : l < v = mod-lt i positive in
    let whole : i ≡ a * v + l = sym (div-add-mod' i v) in
    ap (λ y. y * v + l) (h a)
    ∙ omega arith
    ∙ sym (ap₂ (λ x y. f x * (k * v) + y) (ap (λ n. n / (k * v)) whole ∙ (apart a k v l below).row) (ap (λ n. n % (k * v)) whole ∙ (apart a k v l below).column))

columns-within : (k v : ℕ) (path : Path) (n : ℕ) (f : ℕ → ℕ) (g : Mapping) → 0 < v →
    IsOnColumns k f (at (wrapped path n g)) → IsOnColumns (k * v) f (at (wrapped (within (Columns v) path) n g))
columns-within k v path n f g positive h =
    chosen (λ z. IsOnColumns (k * v) f (at (wrapped z n g))) (v == 1) path (Columns v ∷ path)
    (λ one.
    let same : k ≡ k * v = sym (ap (λ m. k * m) (is-one v one) ∙ omega arith) in
    subst (λ m. IsOnColumns m f (at (wrapped path n g))) same h)
    (more-columns k v f (at (wrapped path n g)) positive h)

-- on w columns of v words each
pub both-columns : (v w k : ℕ) (path : Path) (n : ℕ) (g : Mapping) → 0 < v → 0 < w → w * v ≡ k →
    IsOnColumns k (at (wrapped path n g)) (at (wrapped (within (Columns v) (within (Columns w) path)) n g))
both-columns v w k path n g hv hw e =
    let f = at (wrapped path n g) in
    let inner : IsOnColumns (1 * w) f (at (wrapped (within (Columns w) path) n g)) = columns-within 1 w path n f g hw (one-column f) in
    let same : 1 * w * v ≡ k = omega arith ∙ e in
    subst (λ m. IsOnColumns m f (at (wrapped (within (Columns v) (within (Columns w) path)) n g))) same (columns-within (1 * w) v (within (Columns w) path) n f g hv inner)

-- such a function stays in its column
pub stays-in_column : (c : Target) (s : ℕ) (f g : ℕ → ℕ) → 0 < s → IsOnColumns s f g → (i : ℕ) →
    column_owner c s (g i) ≡ column_owner c s i
stays-in_column c s f g positive h i = ap (λ x. x / (s / c.procs)) (ap (λ x. x % s) (h i) ∙ column-of (f (i / s)) (i % s) s (mod-lt i positive))

-- lines that are dealt go from the block of a processor to its columns
pub dealt-owner : (p m u i : ℕ) → 0 < u → i / (u * m) < p → (stride p m (i / u) * u + i % u) % (p * u) / u ≡ i / (u * m)
dealt-owner p m u i positive below =
    let x = i / u in
    let q = x / m in
    let l = i % u in
    let same : q ≡ i / (u * m) = div-div-eq-div-mul i u m in
    let inside : l < u = mod-lt i positive in
    let row : q < p = omega (arith, same, below) in
    ap (λ y. y / u) (ap (λ y. y % (p * u)) (rows x q l) ∙ column-of (x % m) (q * u + l) (p * u) (place_below q l p u row inside))
    ∙ row-of q l u inside
    ∙ same
  where
    rows : (x q l : ℕ) → ((x % m) * p + q) * u + l ≡ (x % m) * (p * u) + (q * u + l)
    rows x q l = omega arith
