-- Merged passes of which a program can be made, in words of passes alone.
use Rattle.std.specs.Prelude.{◌≡◌, ℕ, ◌+◌, ◌^◌, ◌<◌, ◌≤◌, ◌++◌, true, List, [], ◌∷◌, length, slice_index}
use Rattle.std.specs.Prelude.{slice_index_or, All, Option, Some, None}
use Rattle.operators.specs.Sizes.{max_size}
use Rattle.operators.specs.Paths.Tensors.{AreInRange}
use Rattle.operators.specs.declared.target.Target.{Target}
use Rattle.perm_algebra.specs.Affine.{constant, value}
use Rattle.sigma_spl.specs.Copies.{loops_of}
use Rattle.sigma_spl.specs.Good.{NamesItems}
use Rattle.sigma_spl.specs.Merge.{is_within}
use Rattle.sigma_spl.specs.Merged.{PlainMerged}
use Rattle.sigma_spl.specs.Nest.{PlainMultiplier, PlainNest, factor_count}
use Rattle.sigma_spl.specs.Shared.Machine.{loop_counts}
use Rattle.sigma_spl.specs.Shared.Owners.{ArePhasesShared, IsHost, all_passes, most_actions}
use Rattle.sigma_spl.specs.Shared.Running.{CanRun}
use Rattle.sigma_spl.specs.Work.{PlainWork, kernel, rows, horner, trees_of, work_size}
use Rattle.tree_model.specs.Trees.{trees_size}

-- ---- work

-- a kernel has at most 64 items
abbrev pub IsSmallWork : PlainWork → Type 0
IsSmallWork (kernel k) = trees_size (trees_of k) ≤ 64
IsSmallWork w = Unit {0}

-- where the first load of a copy stands does not hang on its row
abbrev pub LoadsEachRow : PlainNest → Type 0
LoadsEachRow z =
    (vs : List ℕ) (row k : ℕ) → AreInRange (loops_of z.counts) vs → row < work_size z.work → k < work_size z.work →
    value (slice_index_or z.gathers 0 (constant 0)) (slice_index (vs ++ row ∷ k ∷ []))
    ≡ value (slice_index_or z.gathers 0 (constant 0)) (slice_index (vs ++ 0 ∷ k ∷ []))

-- work by rows loads the same for each row: its variable is the first after those of the loops
abbrev pub LoadsAlike : PlainNest → PlainWork → Type 0
LoadsAlike z (rows root size) = LoadsEachRow z
LoadsAlike z (horner root size) = LoadsEachRow z
LoadsAlike z w = Unit {0}

-- ---- nests and passes

-- the places of the factors name the items, and there are some factors
pub record IsReadyMultiplier (w : PlainWork) (d : PlainMultiplier) : Type 0 where
  pub named : NamesItems w d.places
  pub some : 0 < factor_count d.factors
  pub few : factor_count d.factors ≤ max_size

pub record IsReadyNest (h : Target) (z : PlainNest) : Type 0 where
  pub gathers : NamesItems z.work z.gathers
  pub scatters : NamesItems z.work z.scatters
  pub multiplier : (d : PlainMultiplier) → z.multiplier ≡ Some d → IsReadyMultiplier z.work d
  pub alike : LoadsAlike z z.work
  pub small : IsSmallWork z.work
  pub items : work_size z.work ≤ max_size
  pub shallow : length (loop_counts h z) + 2 < 64
  pub counts : All (λ c. (1 ≤ c) × (c ≤ max_size)) (loop_counts h z)

-- a pass that the machine can run, at places within the limits of programs
pub record IsReadyPass (h : Target) (zs : List PlainNest) : Type 0 where
  pub runs : CanRun h zs
  pub within : is_within 64 h.size zs ≡ true
  pub nests : All (IsReadyNest h) zs

-- ---- programs

-- how many tables there are at most: one of powers for work by rows, and one for a diagonal
abbrev pub work_tables : PlainWork → ℕ
work_tables (rows root size) = 1
work_tables (horner root size) = 1
work_tables w = 0

abbrev pub diagonal_tables : Option PlainMultiplier → ℕ
diagonal_tables None = 0
diagonal_tables (Some d) = 1

abbrev pub nests_tables : List PlainNest → ℕ
nests_tables [] = 0
nests_tables (z ∷ zs) = work_tables z.work + diagonal_tables z.multiplier + nests_tables zs

abbrev pub passes_tables : List (List PlainNest) → ℕ
passes_tables [] = 0
passes_tables (zs ∷ ps) = nests_tables zs + passes_tables ps

pub record IsReady (h : Target) (g : PlainMerged) : Type 0 where
  pub host : IsHost h
  pub size : g.size ≡ h.size
  pub procs : g.procs ≡ h.procs
  pub lanes : g.lanes ≡ h.lanes
  pub passes : All (IsReadyPass h) (all_passes g.phases)
  pub some : 0 < length (all_passes g.phases)
  pub each_some : All (λ ps. 0 < length ps) g.phases
  pub few : most_actions h (all_passes g.phases) < 2 ^ 59
  pub tables : passes_tables (all_passes g.phases) < 2 ^ 32
  pub shared : ArePhasesShared h g.phases
