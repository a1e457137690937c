-- Passes that code can be made of, and terms that can be merged.
use Rattle.std.specs.Prelude.{◌≡◌, ℕ, ◌+◌, ◌%◌, ◌<◌, ◌≤◌, List, [], ◌∷◌, map, length}
use Rattle.index_fn.specs.Mapping.{Mapping, at, IsWellFormed}
use Rattle.operators.specs.Loop.{IsPermutationBelow}
use Rattle.perm_algebra.specs.Affine.{Sum, IsSound, HasNoList}
use Rattle.sigma_spl.specs.Copies.{loops_of, IsInside, StoreOnce}
use Rattle.sigma_spl.specs.Merge.{back_of, Room, passes_within}
use Rattle.sigma_spl.specs.Nest.{PlainNest, sum_value, copies_of, passes_on, factor_count}
use Rattle.sigma_spl.specs.Term.{PlainTerm, same, gath, scat, diag, nest, move, product, beside, term_on}
use Rattle.sigma_spl.specs.Work.{PlainWork, kernel, rows, horner, tile, copy, work_size}
use Rattle.operators.specs.declared.paths.Tensor.TheVariants.{Blocks, Columns}
use Rattle.spl_ast.specs.Meaning.{IsVector}
use Rattle.operators.specs.Paths.Tensors.{Path, size_under, AreInRange}

-- ---- passes

-- each divisor is at least 1
abbrev pub AreSound : List Sum → Type 0
AreSound [] = Unit {0}
AreSound (e ∷ es) = IsSound e × AreSound es

-- how many sums name the items of a copy
abbrev pub named : PlainWork → ℕ
named (kernel trees) = work_size (kernel trees)
named (rows root size) = 1
named (horner root size) = 1
named (tile lanes) = lanes
named (copy size) = size

pub record NamesItems (w : PlainWork) (sums : List Sum) : Type 0 where
  pub enough : named w ≤ length sums
  pub sound : AreSound sums

-- f moves whole vectors of `lanes` words
pub record MovesVectors (lanes : ℕ) (f : ℕ → ℕ) : Type 0 where
  pub together : (i j : ℕ) → i % lanes ≡ 0 → j < lanes → f (i + j) ≡ f i + j
  pub begins : (i : ℕ) → i % lanes ≡ 0 → 0 < lanes → f i % lanes ≡ 0

-- a tile that has words is of these lanes
abbrev pub HasLanes : ℕ → PlainWork → Type 0
HasLanes lanes (tile v) = 0 < v → v ≡ lanes
HasLanes lanes w = Unit {0}

-- the sums of a tile name the first words of vectors
abbrev pub AreWhole : List ℕ → PlainWork → List Sum → Type 0
AreWhole counts (tile v) sums =
    (vs : List ℕ) (i : ℕ) → AreInRange (loops_of counts) vs → i < v → sum_value sums i vs % v ≡ 0
AreWhole counts w sums = Unit {0}

-- a nest on lists of n items modulo m
pub record IsGoodNest (lanes : ℕ) (m n : ℕ) (z : PlainNest) : Type 0 where
  pub tiles : HasLanes lanes z.work
  pub whole_loads : AreWhole z.counts z.work z.gathers
  pub whole_stores : AreWhole z.counts z.work z.scatters
  pub gathers : NamesItems z.work z.gathers
  pub scatters : NamesItems z.work z.scatters
  pub inside : IsInside n (copies_of m z)

abbrev pub AreGoodNests : (lanes : ℕ) → ℕ → ℕ → List PlainNest → Type 0
AreGoodNests lanes m n [] = Unit {0}
AreGoodNests lanes m n (z ∷ zs) = IsGoodNest lanes m n z × AreGoodNests lanes m n zs

-- a pass: its nests write each word of the array once
pub record IsGoodPass (lanes : ℕ) (m n : ℕ) (zs : List PlainNest) : Type 0 where
  pub nests : AreGoodNests lanes m n zs
  pub once : StoreOnce n (map (copies_of m) zs)

abbrev pub AreGoodPasses : (lanes : ℕ) → ℕ → ℕ → List (List PlainNest) → Type 0
AreGoodPasses lanes m n [] = Unit {0}
AreGoodPasses lanes m n (zs ∷ ps) = IsGoodPass lanes m n zs × AreGoodPasses lanes m n ps

-- ---- terms

-- a function that can be simplified
pub record IsFormed (f : Mapping) : Type 0 where
  pub formed : IsWellFormed f
  pub no_list : HasNoList f

-- a permutation of the numbers below n that can be undone, and moves whole vectors
pub record IsMove (lanes : ℕ) (n : ℕ) (f : Mapping) : Type 0 where
  pub there : IsFormed f
  pub back : IsFormed (back_of f)
  pub permutes : IsPermutationBelow n (at f) (at (back_of f))
  pub vectors : MovesVectors lanes (at f)
  pub back_vectors : MovesVectors lanes (at (back_of f))

abbrev pub AreBelow : ℕ → List ℕ → Type 0
AreBelow n [] = Unit {0}
AreBelow n (k ∷ ks) = (k < n) × AreBelow n ks

abbrev pub AreBlocks : Path → Type 0
AreBlocks [] = Unit {0}
AreBlocks (Blocks c ∷ path) = AreBlocks path
AreBlocks (Columns c ∷ path) = ⊥

-- tiles are of these lanes, and stand in blocks
abbrev pub CanNest : ℕ → Path → PlainWork → Type 0
CanNest lanes path (tile v) = (0 < v → v ≡ lanes) × AreBlocks path
CanNest lanes path w = Unit {0}

-- a term on lists of n items, whose tiles are of `lanes` lanes: none of them stands in a direct sum. Where there are
-- no tiles, any permutation moves vectors of no words
abbrev pub IsGoodTerm : (lanes : ℕ) → ℕ → PlainTerm → Type 0
IsGoodTerm lanes n same = Unit {0}
IsGoodTerm lanes n (gath f) = IsMove lanes n f
IsGoodTerm lanes n (scat f) =
    IsMove lanes n f × IsMove lanes n (back_of f) × IsPermutationBelow n (at (back_of f)) (at f)
IsGoodTerm lanes n (diag path factors) = size_under path (factor_count factors) ≡ n
IsGoodTerm lanes n (nest path w) = CanNest lanes path w × (size_under path (work_size w) ≡ n)
IsGoodTerm lanes n (move path ks) = AreBelow (length ks) ks × (size_under path (length ks) ≡ n)
IsGoodTerm lanes n (product a b) = IsGoodTerm lanes n a × IsGoodTerm lanes n b
IsGoodTerm lanes n (beside path k a l b) =
    (0 < k) × (0 < l) × (size_under path (k + l) ≡ n) × IsGoodTerm 0 k a × IsGoodTerm 0 l b

-- The passes of a term are good, and do what it does
pub record Merges (lanes : ℕ) (m n : ℕ) (room : Room) (t : PlainTerm) : Type 0 where
  pub good : AreGoodPasses lanes m n (passes_within room n t)
  pub on : (x : List ℕ) → IsVector m n x → passes_on m n (passes_within room n t) x ≡ term_on m n t x

abbrev pub MergeKeeps : Type 0
MergeKeeps =
    (lanes m n : ℕ) (room : Room) (t : PlainTerm) → 0 < m → 0 < n → IsGoodTerm lanes n t → Merges lanes m n room t
