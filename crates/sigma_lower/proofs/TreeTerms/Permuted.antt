-- Gathers and diagonals under tensors.
use Rattle.sigma_lower.proofs.Words.{◌≡◌, ℕ, ◌+◌, ◌*◌, ◌/◌, ◌%◌, ◌<◌, arith, refl, sym, ap, ap₂, ◌∙◌, List, [], ◌∷◌}
use Rattle.sigma_lower.proofs.Words.{mod-lt, div-lt_iff_lt-mul, slice_index, div-add-mod', Mapping, at}
use Rattle.sigma_lower.proofs.Words.{IsPermutationBelow, gather, scale, on_columns, on_blocks, column, at-list_below}
use Rattle.sigma_lower.proofs.Words.{list_below-same, row-of, column-of, place_below, factor_positive, Blocks, Columns}
use Rattle.sigma_lower.proofs.Words.{Path, size_under, under, wrapped, inner_of, block}
use Rattle.operators.proofs.Lists.{list_below-same_rows, on_columns-same, on_blocks-same}
use Rattle.operators.proofs.Places.{column_at, block_at}

-- f stays below n
abbrev pub StaysBelow : ℕ → (ℕ → ℕ) → Type 0
StaysBelow n f = (i : ℕ) → i < n → f i < n

blocks_of_gather : (k n : ℕ) (f : ℕ → ℕ) (x : List ℕ) → StaysBelow n f →
    on_blocks k n (gather n f) x ≡ gather (k * n) (λ w. w / n * n + f (w % n)) x
blocks_of_gather k n f x h =
    list_below-same_rows k n _ _ (λ a b row below.
    ap₂ (λ i j. slice_index (gather n f (block n i x)) j) (row-of a b n below) (column-of a b n below)
    ∙ at-list_below n _ b below
    ∙ block_at n a x (f b) (h b below)
    ∙ sym (ap₂ (λ i j. slice_index x (i * n + f j)) (row-of a b n below) (column-of a b n below)))

columns_of_gather : (n k : ℕ) (f : ℕ → ℕ) (x : List ℕ) → StaysBelow n f →
    on_columns n k (gather n f) x ≡ gather (n * k) (λ w. f (w / k) * k + w % k) x
columns_of_gather n k f x h =
    list_below-same_rows n k _ _ (λ a b row below.
    ap₂ (λ i j. slice_index (gather n f (column n k j x)) i) (row-of a b k below) (column-of a b k below)
    ∙ at-list_below n _ a row
    ∙ column_at n k b x (f a) (h a row)
    ∙ sym (ap₂ (λ i j. slice_index x (f i * k + j)) (row-of a b k below) (column-of a b k below)))

pub wrapped-below : (path : Path) (n : ℕ) (f : Mapping) → StaysBelow n (at f) →
    StaysBelow (size_under path n) (at (wrapped path n f))
wrapped-below [] n f h i below = h i below
wrapped-below (Blocks c ∷ path) n f h i below =
    let size = size_under path n in
    let positive : 0 < size = factor_positive c size i below in
    place_below (i / size) (at (wrapped path n f) (i % size)) c size ((div-lt_iff_lt-mul positive).1 below) (wrapped-below path n f h (i % size) (mod-lt i positive))
wrapped-below (Columns c ∷ path) n f h i below =
    let positive : 0 < c = factor_positive (size_under path n) c i below in
    place_below (at (wrapped path n f) (i / c)) (i % c) (size_under path n) c (wrapped-below path n f h (i / c) ((div-lt_iff_lt-mul positive).1 below)) (mod-lt i positive)

-- a permutation under tensors is the gather of its index function under them
pub gather-under : (path : Path) (n : ℕ) (f : Mapping) (x : List ℕ) → StaysBelow n (at f) →
    under path n (gather n (at f)) x ≡ gather (size_under path n) (at (wrapped path n f)) x
gather-under [] n f x h = refl
gather-under (Blocks c ∷ path) n f x h =
    on_blocks-same c (size_under path n) _ _ x (λ y. gather-under path n f y h)
    ∙ blocks_of_gather c (size_under path n) (at (wrapped path n f)) x (wrapped-below path n f h)
gather-under (Columns c ∷ path) n f x h =
    on_columns-same (size_under path n) c _ _ x (λ y. gather-under path n f y h)
    ∙ columns_of_gather (size_under path n) c (at (wrapped path n f)) x (wrapped-below path n f h)

blocks_of_scale : (m k n : ℕ) (d : ℕ → ℕ) (x : List ℕ) → on_blocks k n (scale m n d) x ≡ scale m (k * n)
    (λ w. d (w % n)) x
blocks_of_scale m k n d x =
    list_below-same_rows k n _ _ (λ a b row below.
    ap₂ (λ i j. slice_index (scale m n d (block n i x)) j) (row-of a b n below) (column-of a b n below)
    ∙ at-list_below n _ b below
    ∙ ap₂ (λ e y. (d e * y) % m) (sym (column-of a b n below)) (block_at n a x b below))

columns_of_scale : (m n k : ℕ) (d : ℕ → ℕ) (x : List ℕ) → on_columns n k (scale m n d) x ≡ scale m (n * k)
    (λ w. d (w / k)) x
columns_of_scale m n k d x =
    list_below-same_rows n k _ _ (λ a b row below.
    ap₂ (λ i j. slice_index (scale m n d (column n k j x)) i) (row-of a b k below) (column-of a b k below)
    ∙ at-list_below n _ a row
    ∙ ap₂ (λ e y. (d e * y) % m) (sym (row-of a b k below)) (column_at n k b x a row))

-- a diagonal under tensors
pub scale-under : (path : Path) (m n : ℕ) (d : ℕ → ℕ) (x : List ℕ) →
    under path n (scale m n d) x ≡ scale m (size_under path n) (λ w. d (at (inner_of path n) w)) x
scale-under [] m n d x = refl
scale-under (Blocks c ∷ path) m n d x =
    let size = size_under path n in
    on_blocks-same c size _ _ x (λ y. scale-under path m n d y)
    ∙ blocks_of_scale m c size (λ w. d (at (inner_of path n) w)) x
    ∙ list_below-same (c * size) _ _ (λ w below. ap (λ e. (d e * slice_index x w) % m) (omega arith))
scale-under (Columns c ∷ path) m n d x =
    let size = size_under path n in
    on_columns-same size c _ _ x (λ y. scale-under path m n d y)
    ∙ columns_of_scale m size c (λ w. d (at (inner_of path n) w)) x
    ∙ list_below-same (size * c) _ _ (λ w below. ap (λ e. (d e * slice_index x w) % m) (omega arith))

-- two index functions that undo one another do so under tensors
pub wrapped-inverse : (path : Path) (n : ℕ) (f g : Mapping) → StaysBelow n (at g) →
    ((i : ℕ) → i < n → at f (at g i) ≡ i) → (i : ℕ) → i < size_under path n →
    at (wrapped path n f) (at (wrapped path n g) i) ≡ i
wrapped-inverse [] n f g h back i below = back i below
wrapped-inverse (Blocks c ∷ path) n f g h back i below =
    let size = size_under path n in
    let positive : 0 < size = factor_positive c size i below in
    let inner : at (wrapped path n g) (i % size) < size = wrapped-below path n g h (i % size) (mod-lt i positive) in
    ap₂ (λ a b. a * size + at (wrapped path n f) b) (row-of (i / size) _ size inner) (column-of (i / size) _ size inner)
    ∙ ap (λ b. i / size * size + b) (wrapped-inverse path n f g h back (i % size) (mod-lt i positive))
    ∙ div-add-mod' i size
wrapped-inverse (Columns c ∷ path) n f g h back i below =
    let positive : 0 < c = factor_positive (size_under path n) c i below in
    let row : i / c < size_under path n = (div-lt_iff_lt-mul positive).1 below in
    ap₂ (λ a b. at (wrapped path n f) a * c + b) (row-of (at (wrapped path n g) (i / c)) (i % c) c (mod-lt i positive)) (column-of (at (wrapped path n g) (i / c)) (i % c) c (mod-lt i positive))
    ∙ ap (λ a. a * c + i % c) (wrapped-inverse path n f g h back (i / c) row)
    ∙ div-add-mod' i c

pub wrapped-permutes : (path : Path) (n : ℕ) (f g : Mapping) → IsPermutationBelow n (at f) (at g) →
    IsPermutationBelow (size_under path n) (at (wrapped path n f)) (at (wrapped path n g))
wrapped-permutes path n f g h =
    record {
      there_below = wrapped-below path n f h.there_below;
      back_below = wrapped-below path n g h.back_below;
      back-there = wrapped-inverse path n g f h.there_below h.back-there;
      there-back = wrapped-inverse path n f g h.back_below h.there-back;
    }
