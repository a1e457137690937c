-- A tensor of one copy changes nothing.
use Rattle.std.proofs.Common.{◌≡◌, ℕ, ◌+◌, ◌*◌, ◌/◌, ◌%◌, ◌<◌, Bool, true, false, arith, refl, sym, ap, ap₂, ◌∙◌, List}
use Rattle.std.proofs.Common.{[], ◌∷◌, ◌++◌, if◌then◌else◌, mod-lt, div-lt_iff_lt-mul}
use Rattle.std.specs.Prelude.{slice_index, ◌==◌}
use Rattle.std.proofs.lemmas.Bool.Decides.{nat_tests}
use Rattle.std.proofs.lemmas.List.FromFn.{fill_by_all}
use Rattle.operators.specs.Identities.{HasSize}
use Rattle.operators.specs.Operator.{Operator, on_columns, on_blocks, column, block}
use Rattle.operators.specs.Sum.{list_below}
use Rattle.operators.proofs.Lists.{at-list_below, list_below-same, row-of, column-of, place_below, factor_positive}
use Rattle.operators.specs.declared.paths.Tensor.{Tensor}
use Rattle.operators.specs.declared.paths.Tensor.TheVariants.{Blocks, Columns}
use Rattle.operators.specs.Paths.Tensors.{Path, count_of, grown, size_under, copies_of, one_under, under, Reads}
use Rattle.operators.proofs.PathLemmas.Under.{under-size, one_under-same}
use Rattle.sigma_spl.specs.Good.{AreBlocks}
use Rattle.smp_rewrite.specs.Smp.{within}

-- ---- one copy

on_blocks-one : (n : ℕ) (a : Operator) (x : List ℕ) → HasSize n a → Reads n a → on_blocks 1 n a x ≡ a x
on_blocks-one n a x size reads =
    let item = λ (p : ℕ). slice_index (a (block n (p / n) x)) (p % n) in
    let one : 1 * n ≡ n = omega arith in
    ap (λ k. list_below k item) one
    ∙ sym (fill_by_all item (a x) n 0 (size x) (λ p below.
    let place : p ≡ 0 * n + p = omega arith in
    ap (λ y. slice_index y p) (sym (reads x))
    ∙ ap (λ y. slice_index (a y) p) (list_below-same n _ _ (λ j _. ap (slice_index x) (omega arith)))
    ∙ sym (ap₂ (λ i j. slice_index (a (block n i x)) j) (ap (λ q. q / n) place ∙ row-of 0 p n below) (ap (λ q. q % n) place ∙ column-of 0 p n below))))

on_columns-one : (n : ℕ) (a : Operator) (x : List ℕ) → HasSize n a → Reads n a → on_columns n 1 a x ≡ a x
on_columns-one n a x size reads =
    let item = λ (p : ℕ). slice_index (a (column n 1 (p % 1) x)) (p / 1) in
    let one : n * 1 ≡ n = omega arith in
    ap (λ k. list_below k item) one
    ∙ sym (fill_by_all item (a x) n 0 (size x) (λ p below.
    let place : p ≡ p * 1 + 0 = omega arith in
    ap (λ y. slice_index y p) (sym (reads x))
    ∙ ap (λ y. slice_index (a y) p) (list_below-same n _ _ (λ j _. ap (slice_index x) (omega arith)))
    ∙ sym (ap₂ (λ i j. slice_index (a (column n 1 j x)) i) (ap (λ q. q / 1) place ∙ row-of p 0 1 (omega arith)) (ap (λ q. q % 1) place ∙ column-of p 0 1 (omega arith)))))

one_under-one : (t : Tensor) (n : ℕ) (a : Operator) (x : List ℕ) → count_of t ≡ 1 → HasSize n a → Reads n a →
    one_under t n a x ≡ a x
one_under-one (Blocks k) n a x one size reads = ap (λ k. on_blocks k n a x) one ∙ on_blocks-one n a x size reads
one_under-one (Columns k) n a x one size reads = ap (λ k. on_columns n k a x) one ∙ on_columns-one n a x size reads

pub grown-one : (t : Tensor) (n : ℕ) → count_of t ≡ 1 → grown t n ≡ n
grown-one (Blocks k) n one = ap (λ k. k * n) one ∙ omega arith
grown-one (Columns k) n one = ap (λ k. n * k) one ∙ omega arith

-- ---- what is under tensors reads no more than its size

pub reads-one_under : (t : Tensor) (n : ℕ) (a : Operator) → Reads (grown t n) (one_under t n a)
reads-one_under (Blocks k) n a x =
    list_below-same (k * n) _ _ (λ p below.
    let positive : 0 < n = factor_positive k n p below in
    let row : p / n < k = (div-lt_iff_lt-mul positive).1 below in
    ap (λ y. slice_index (a y) (p % n)) (list_below-same n _ _ (λ j within. at-list_below (k * n) (slice_index x) (p / n * n + j) (place_below (p / n) j k n row within))))
reads-one_under (Columns k) n a x =
    list_below-same (n * k) _ _ (λ p below.
    let positive : 0 < k = factor_positive n k p below in
    ap (λ y. slice_index (a y) (p / k)) (list_below-same n _ _ (λ i within. at-list_below (n * k) (slice_index x) (i * k + p % k) (place_below i (p % k) n k within (mod-lt p positive)))))

pub reads-under : (path : Path) (n : ℕ) (a : Operator) → Reads n a → Reads (size_under path n) (under path n a)
reads-under [] n a h = h
reads-under (t ∷ path) n a h = reads-one_under t (size_under path n) (under path n a)

-- ---- one more tensor, unless it has one copy

pub is-one : (n : ℕ) → (n == 1) ≡ true → n ≡ 1
is-one n e = grind (arith, nat_tests)

under-pick : (b : Bool) (t : Tensor) (path : Path) (n : ℕ) (a : Operator) (x : List ℕ) → (b ≡ true → count_of t ≡ 1) →
    HasSize n a → Reads n a →
    under (if b then path else t ∷ path) n a x ≡ under (t ∷ path) n a x
under-pick true t path n a x one size reads = sym (one_under-one t (size_under path n) (under path n a) x (one refl) (under-size path n a size) (reads-under path n a reads))
under-pick false t path n a x one size reads = refl

pub under-within : (t : Tensor) (path : Path) (n : ℕ) (a : Operator) (x : List ℕ) → HasSize n a → Reads n a →
    under (within t path) n a x ≡ one_under t (size_under path n) (under path n a) x
under-within t path n a x size reads = under-pick (count_of t == 1) t path n a x (is-one (count_of t)) size reads

size-pick : (b : Bool) (t : Tensor) (path : Path) (n : ℕ) → (b ≡ true → count_of t ≡ 1) →
    size_under (if b then path else t ∷ path) n ≡ grown t (size_under path n)
size-pick true t path n one = sym (grown-one t (size_under path n) (one refl))
size-pick false t path n one = refl

pub size-within : (t : Tensor) (path : Path) (n : ℕ) → size_under (within t path) n ≡ grown t (size_under path n)
size-within t path n = size-pick (count_of t == 1) t path n (is-one (count_of t))

copies-pick : (b : Bool) (t : Tensor) (path : Path) → (b ≡ true → count_of t ≡ 1) →
    copies_of (if b then path else t ∷ path) ≡ count_of t * copies_of path
copies-pick true t path one = sym (ap (λ k. k * copies_of path) (one refl) ∙ omega arith)
copies-pick false t path one = refl

pub copies-within : (t : Tensor) (path : Path) → copies_of (within t path) ≡ count_of t * copies_of path
copies-within t path = copies-pick (count_of t == 1) t path (is-one (count_of t))

-- blocks in blocks
pick-blocks : (b : Bool) (k : ℕ) (path : Path) → AreBlocks path → AreBlocks (if b then path else Blocks k ∷ path)
pick-blocks true k path h = h
pick-blocks false k path h = h

pub blocks-within : (k : ℕ) (path : Path) → AreBlocks path → AreBlocks (within (Blocks k) path)
blocks-within k path h = pick-blocks (k == 1) k path h

-- several more tensors
abbrev pub within_all : Path → Path → Path
within_all [] path = path
within_all (t ∷ ts) path = within t (within_all ts path)

size-within_all : (ts path : Path) (n : ℕ) → size_under (within_all ts path) n ≡ size_under (ts ++ path) n
size-within_all [] path n = refl
size-within_all (t ∷ ts) path n = size-within t (within_all ts path) n ∙ ap (grown t) (size-within_all ts path n)

pub under-within_all : (ts path : Path) (n : ℕ) (a : Operator) (x : List ℕ) → HasSize n a → Reads n a →
    under (within_all ts path) n a x ≡ under (ts ++ path) n a x
under-within_all [] path n a x size reads = refl
under-within_all (t ∷ ts) path n a x size reads =
    under-within t (within_all ts path) n a x size reads
    ∙ ap (λ k. one_under t k (under (within_all ts path) n a) x) (size-within_all ts path n)
    ∙ one_under-same t (size_under (ts ++ path) n) (under (within_all ts path) n a) (under (ts ++ path) n a) x (λ y. under-within_all ts path n a y size reads)

-- two more tensors
pub under-within_two : (t v : Tensor) (path : Path) (n : ℕ) (a : Operator) (x : List ℕ) → HasSize n a → Reads n a →
    under (within t (within v path)) n a x ≡ one_under t (grown v (size_under path n))
    (one_under v (size_under path n) (under path n a)) x
under-within_two t v path n a x size reads = under-within_all (t ∷ v ∷ []) path n a x size reads
