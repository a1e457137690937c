-- The entries of diagonals under tensors.
use Rattle.std.proofs.Common.{◌≡◌, ℕ, zero, suc, ◌*◌, ◌<◌, ◌≤◌, List, [], ◌∷◌, length, refl, ap, ◌∙◌, arith, mul_comm}
use Rattle.std.proofs.Common.{zero-mul, mul-zero, suc-mul, slice_index}
use Rattle.std.proofs.lemmas.List.FromFn.{fill_by_all}
use Rattle.index_fn.specs.Mapping.{at}
use Rattle.operators.specs.Sum.{list_below}
use Rattle.operators.proofs.Lists.{at-list_below, length-list_below, list_below-same}
use Rattle.sigma_spl.specs.Nest.{PlainFactors, spread, factor_at, factor_count, inner_of}
use Rattle.code_gen.specs.PassCode.Statements.{diagonal_of}
use Rattle.operators.specs.Paths.Tensors.{Path, count_of, grown, size_under}
use Rattle.operators.specs.declared.paths.Tensor.{Tensor}
use Rattle.operators.specs.declared.paths.Tensor.TheVariants.{Blocks, Columns}
use Rattle.sigma_spl.proofs.Keeps.{inner-below}

-- one tensor more
pub grown-is : (t : Tensor) (n : ℕ) → count_of t * n ≡ grown t n
grown-is (Blocks k) n = refl
grown-is (Columns k) n = mul_comm k n

-- a list is what stands at its places
pub values-are : (entries : List ℕ) → entries ≡ list_below (length entries) (slice_index entries)
values-are entries = fill_by_all (slice_index entries) entries (length entries) 0 refl (λ i below. refl)

-- what is under tensors has places where the whole has some, and no more
grown-some : (t : Tensor) (n : ℕ) → 0 < grown t n → (0 < n) × (n ≤ grown t n)
grown-some (Blocks zero) n h = let none = zero-mul n in absurd (omega arith)
grown-some (Blocks (suc k)) zero h = let none = mul-zero (suc k) in absurd (omega arith)
grown-some (Blocks (suc k)) (suc n) h = let more = suc-mul k (suc n) in (omega arith, omega arith)
grown-some (Columns zero) n h = let none = mul-zero n in absurd (omega arith)
grown-some (Columns (suc k)) zero h = let none = zero-mul (suc k) in absurd (omega arith)
grown-some (Columns (suc k)) (suc n) h = let same = mul_comm (suc n) (suc k) in let more = suc-mul k (suc n) in (omega arith, omega arith)

pub inner-some : (path : Path) (n : ℕ) → 0 < size_under path n → (0 < n) × (n ≤ size_under path n)
inner-some [] n h = (h, omega arith)
inner-some (t ∷ path) n h =
    let outer = grown-some t (size_under path n) h in
    let inner = inner-some path n outer.0 in
    (inner.0, let low = inner.1 in let high = outer.1 in omega arith)

pub diagonal-size : (m : ℕ) (factors : PlainFactors) (inner : List ℕ) → inner ≡ diagonal_of m factors →
    length inner ≡ factor_count factors
diagonal-size m factors inner is = ap length is ∙ length-list_below (factor_count factors) (factor_at m factors)

-- the entries of a diagonal under tensors are taken from those of the diagonal
pub spread-is : (m : ℕ) (path : Path) (factors : PlainFactors) (inner : List ℕ) → inner ≡ diagonal_of m factors →
    list_below (size_under path (length inner)) (λ i. slice_index inner (at (inner_of path (length inner)) i))
    ≡ diagonal_of m (spread path factors)
spread-is m path factors inner is =
    ap (λ (n : ℕ). list_below (size_under path n) (λ i. slice_index inner (at (inner_of path n) i))) (diagonal-size m factors inner is)
    ∙ list_below-same (size_under path (factor_count factors)) _ _ (λ i inside.
    ap (λ (xs : List ℕ). slice_index xs (at (inner_of path (factor_count factors)) i)) is ∙ at-list_below (factor_count factors) (factor_at m factors) (at (inner_of path (factor_count factors)) i) (inner-below path (factor_count factors) i inside))
