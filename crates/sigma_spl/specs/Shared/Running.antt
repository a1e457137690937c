-- Passes that a machine can run, and the words that each processor loads and stores.
use Rattle.std.specs.Prelude.{◌≡◌, ◌≢◌, ℕ, ◌+◌, ◌*◌, ◌%◌, ◌<◌, ◌≤◌, List, ◌++◌, map, slice_index, All, Contains, Some}
use Rattle.ring_mod.specs.Residue.{power_mod}
use Rattle.sigma_spl.specs.Shared.Kernels.{IsMadeKernel}
use Rattle.sigma_spl.specs.Shared.Machine.{if_several, values_of, item_of, lane_step, framed_lanes}
use Rattle.sigma_spl.specs.Copies.{loops_of, StoreOnce, IsInside}
use Rattle.sigma_spl.specs.Nest.{PlainMultiplier, PlainNest, factor_at, factor_count, copies_of, load_place}
use Rattle.sigma_spl.specs.Nest.{store_place}
use Rattle.sigma_spl.specs.Work.{PlainWork, kernel, rows, horner, tile, copy, work_size, vectors_of}
use Rattle.operators.specs.Paths.Tensors.{AreInRange}
use Rattle.operators.specs.declared.target.Target.{Target}

-- work whose code does what it stands for
abbrev pub CanWork : Target → PlainWork → Type 0
CanWork h (kernel k) = IsMadeKernel h.modulus k
CanWork h (rows root size) = (0 < size) × (power_mod h.modulus root size ≡ 1 % h.modulus)
CanWork h (horner root size) = 0 < size
CanWork h (tile lanes) = lanes ≡ h.lanes
CanWork h (copy size) = Unit {0}

-- the variables of the processor and of the lane come first, and run below their numbers
pub record IsFramed (h : Target) (z : PlainNest) : Type 0 where
  pub loops : List ℕ
  pub counts : z.counts ≡ if_several h.procs h.procs ++ (framed_lanes h z.work ++ loops)

-- the lanes of a register lie side by side in memory, and their factors in the diagonal
pub record MovesVectors (h : Target) (z : PlainNest) (q : ℕ) (vs : List ℕ) (lane k : ℕ) : Type 0 where
  pub loads :
      load_place z.work z.gathers (values_of h z.work q lane vs) (item_of z.work k lane)
      ≡ load_place z.work z.gathers (values_of h z.work q 0 vs) (item_of z.work k 0) + lane
  pub stores :
      store_place z.work z.scatters (values_of h z.work q lane vs) (item_of z.work k lane)
      ≡ store_place z.work z.scatters (values_of h z.work q 0 vs) (item_of z.work k 0) + lane
  pub factors : (d : PlainMultiplier) → z.multiplier ≡ Some d →
      store_place z.work d.places (values_of h z.work q lane vs) (item_of z.work k lane)
      ≡ store_place z.work d.places (values_of h z.work q 0 vs) (item_of z.work k 0) + lane_step z.work * lane

-- the factor of each item that is stored is in the diagonal
abbrev pub FindsFactors : PlainNest → Type 0
FindsFactors z =
    (d : PlainMultiplier) → z.multiplier ≡ Some d → (vs : List ℕ) (k : ℕ) → AreInRange (loops_of z.counts) vs →
    k < work_size z.work → store_place z.work d.places vs k < factor_count d.factors

-- the factors of its diagonal are residues
abbrev pub HasResidues : Target → PlainNest → Type 0
HasResidues h z =
    (d : PlainMultiplier) → z.multiplier ≡ Some d → (i : ℕ) → factor_at h.modulus d.factors i < h.modulus

pub record CanRunNest (h : Target) (z : PlainNest) : Type 0 where
  pub work : CanWork h z.work
  pub inside : IsInside h.size (copies_of h.modulus z)
  pub framed : IsFramed h z
  pub vectors :
      (q : ℕ) (vs : List ℕ) (lane k : ℕ) → AreInRange (loops_of z.counts) (values_of h z.work q lane vs) →
      lane < h.lanes → k < vectors_of z.work → MovesVectors h z q vs lane k
  pub factors : FindsFactors z
  pub residues : HasResidues h z

-- a pass on a machine of some lanes: its nests can be run, and write each word of the array once
pub record CanRun (h : Target) (zs : List PlainNest) : Type 0 where
  pub lanes : 0 < h.lanes
  pub modulus : 2 ≤ h.modulus
  pub nests : All (CanRunNest h) zs
  pub once : StoreOnce h.size (map (copies_of h.modulus) zs)

-- the copies of a processor's part of a nest
pub record IsCopyOf (h : Target) (z : PlainNest) (q : ℕ) (vs : List ℕ) : Type 0 where
  pub in_range : AreInRange (loops_of z.counts) vs
  pub processor : h.procs ≢ 1 → slice_index vs 0 ≡ q

-- a word that a processor loads in a pass, or stores to
pub record IsLoadedBy (h : Target) (zs : List PlainNest) (q w : ℕ) : Type 0 where
  pub nest : PlainNest
  pub one : Contains zs nest
  pub values : List ℕ
  pub item : ℕ
  pub copy : IsCopyOf h nest q values
  pub below : item < work_size nest.work
  pub there : load_place nest.work nest.gathers values item ≡ w

pub record IsStoredBy (h : Target) (zs : List PlainNest) (q w : ℕ) : Type 0 where
  pub nest : PlainNest
  pub one : Contains zs nest
  pub values : List ℕ
  pub item : ℕ
  pub copy : IsCopyOf h nest q values
  pub below : item < work_size nest.work
  pub there : store_place nest.work nest.scatters values item ≡ w
