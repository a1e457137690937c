-- Passes that processors and lanes share.
use Rattle.std.specs.Prelude.{◌≡◌, ◌≢◌, ℕ, ◌+◌, ◌*◌, ◌<◌, List, [], ◌∷◌, slice_index, Some}
use Rattle.sigma_spl.specs.Shared.Machine.{item_of, lane_step, values_of}
use Rattle.sigma_spl.specs.Shared.Owners.{IsOwner}
use Rattle.sigma_lower.specs.TreeLoops.Merge.{diagonal_place}
use Rattle.sigma_lower.specs.TreeLoops.Merge.{PlainPass, PlainDiagonal, gather_place, scatter_place}
use Rattle.sigma_spl.specs.Work.{PlainWork, kernel, rows, horner, tile, copy, work_size, vectors_of}
use Rattle.smp_rewrite.specs.Smp.{within}
use Rattle.operators.specs.declared.paths.Tensor.TheVariants.{Blocks, Columns}
use Rattle.operators.specs.Paths.Tensors.{Path, AreInRange}
use Rattle.operators.specs.declared.target.Target.{Target}

-- the tensors of the processors and lanes, round those of the loops
abbrev pub framed : Target → PlainWork → Path → Path
framed h (kernel trees) loops = within (Blocks h.procs) (within (Columns h.lanes) loops)
framed h (rows root size) loops = within (Blocks h.procs) (within (Columns h.lanes) loops)
framed h (horner root size) loops = within (Blocks h.procs) (within (Columns h.lanes) loops)
framed h (tile v) loops = within (Blocks h.procs) loops
framed h (copy size) loops = within (Blocks h.procs) (within (Columns h.lanes) loops)

-- a tile has as many registers as there are lanes
abbrev pub HasLanes : Target → PlainWork → Type 0
HasLanes h (kernel trees) = Unit {0}
HasLanes h (rows root size) = Unit {0}
HasLanes h (horner root size) = Unit {0}
HasLanes h (tile v) = v ≡ h.lanes
HasLanes h (copy size) = Unit {0}

-- the lanes of a register lie side by side in memory
pub record MovesVectors (h : Target) (p : PlainPass) (vs : List ℕ) (q lane k : ℕ) : Type 0 where
  pub gathers : gather_place p (values_of h p.work q lane vs) (item_of p.work k lane)
      ≡ gather_place p (values_of h p.work q 0 vs) (item_of p.work k 0) + lane
  pub scatters : scatter_place p (values_of h p.work q lane vs) (item_of p.work k lane)
      ≡ scatter_place p (values_of h p.work q 0 vs) (item_of p.work k 0) + lane

pub record IsFramed (h : Target) (p : PlainPass) : Type 0 where
  pub loops : Path
  pub path : p.path ≡ framed h p.work loops
  pub lanes : HasLanes h p.work
  pub vectors : (vs : List ℕ) (q lane k : ℕ) → AreInRange loops vs → q < h.procs → lane < h.lanes →
      k < vectors_of p.work → MovesVectors h p vs q lane k
  pub factors : (d : PlainDiagonal) → p.diagonal ≡ Some d → (vs : List ℕ) (q lane k : ℕ) → AreInRange loops vs →
      q < h.procs → lane < h.lanes → k < vectors_of p.work →
      diagonal_place p d (values_of h p.work q lane vs) (item_of p.work k lane)
      ≡ diagonal_place p d (values_of h p.work q 0 vs) (item_of p.work k 0) + lane_step p.work * lane

abbrev pub AllFramed : Target → List PlainPass → Type 0
AllFramed h [] = Unit {0}
AllFramed h (p ∷ ps) = IsFramed h p × AllFramed h ps

-- ---- whose words they are

-- the copies of a processor's part of a pass
pub record IsCopyOf (h : Target) (p : PlainPass) (q : ℕ) (vs : List ℕ) : Type 0 where
  pub in_range : AreInRange p.path vs
  pub processor : h.procs ≢ 1 → slice_index vs 0 ≡ q

-- each place of a copy belongs to its processor
abbrev pub Owns : Target → PlainPass → (List ℕ → ℕ → ℕ) → (ℕ → ℕ) → Type 0
Owns h p places owner =
    (q : ℕ) (vs : List ℕ) (k : ℕ) → q < h.procs → IsCopyOf h p q vs → k < work_size p.work → owner (places vs k) ≡ q

abbrev pub AllOwn : Target → (ℕ → ℕ) → List PlainPass → Type 0
AllOwn h owner [] = Unit {0}
AllOwn h owner (p ∷ ps) = Owns h p (gather_place p) owner × Owns h p (scatter_place p) owner × AllOwn h owner ps

-- in the first phase the first pass reads what no processor writes
abbrev pub FirstOwns : Target → (ℕ → ℕ) → List PlainPass → Type 0
FirstOwns h owner [] = Unit {0}
FirstOwns h owner (p ∷ ps) = Owns h p (scatter_place p) owner × AllOwn h owner ps

pub record IsFirstShared (h : Target) (ps : List PlainPass) : Type 0 where
  pub owner : ℕ → ℕ
  pub is_owner : IsOwner h owner
  pub owns : FirstOwns h owner ps

pub record IsShared (h : Target) (ps : List PlainPass) : Type 0 where
  pub owner : ℕ → ℕ
  pub is_owner : IsOwner h owner
  pub owns : AllOwn h owner ps

abbrev pub AllShared : Target → List (List PlainPass) → Type 0
AllShared h [] = Unit {0}
AllShared h (ps ∷ more) = IsShared h ps × AllShared h more

abbrev pub ArePhasesShared : Target → List (List PlainPass) → Type 0
ArePhasesShared h [] = Unit {0}
ArePhasesShared h (ps ∷ more) = IsFirstShared h ps × AllShared h more
