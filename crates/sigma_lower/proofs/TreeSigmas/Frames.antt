-- The nest of a pass that processors and lanes share: its counts, its variables, and what they name.
use Rattle.sigma_lower.proofs.Words.{◌≡◌, ℕ, ◌<◌, Bool, true, false, List, [], ◌∷◌, ◌++◌, map, refl, sym, ap, ◌∙◌}
use Rattle.sigma_lower.proofs.Words.{arith, subst, ◌==◌, if◌then◌else◌, PlainPass, loop_of, Target, place_below}
use Rattle.sigma_lower.proofs.Words.{item_of, values_of, nest_of, PlainWork, tile, work_size, IsFramed, within, Tensor}
use Rattle.sigma_lower.proofs.Words.{Blocks, Columns, Path, count_of, AreInRange, if_several, vectors_of, framed}
use Rattle.sigma_spl.specs.Shared.Machine.{framed_lanes}
use Rattle.sigma_lower.specs.TreeLoops.SharedPasses.Framed.{HasLanes}
use Rattle.sigma_spl.specs.Shared.Running as running

-- ---- counts

counts-pick : (b : Bool) (t : Tensor) (path : Path) →
    map count_of (if b then path else t ∷ path) ≡ (if b then [] else count_of t ∷ []) ++ map count_of path
counts-pick true t path = refl
counts-pick false t path = refl

counts-lanes : (p v : ℕ) (loops : Path) →
    map count_of (within (Blocks p) (within (Columns v) loops))
    ≡ if_several p p ++ (if_several v v ++ map count_of loops)
counts-lanes p v loops =
    counts-pick (p == 1) (Blocks p) (within (Columns v) loops)
    ∙ ap (λ xs. if_several p p ++ xs) (counts-pick (v == 1) (Columns v) loops)

counts-framed : (c : Target) (w : PlainWork) (loops : Path) →
    map count_of (framed c w loops) ≡ if_several c.procs c.procs ++ (framed_lanes c w ++ map count_of loops)
counts-framed c (tile v) loops = counts-pick (c.procs == 1) (Blocks c.procs) loops
counts-framed c _ loops = counts-lanes c.procs c.lanes loops

pub nest-framed : (c : Target) (p : PlainPass) → IsFramed c p → running.IsFramed c (nest_of (loop_of p))
nest-framed c p frame = record { loops = map count_of frame.loops; counts = ap (map count_of) frame.path ∙ counts-framed c p.work frame.loops }

-- ---- the values of the variables

range-pick : (b : Bool) (t : Tensor) (x : ℕ) (path : Path) (vs : List ℕ) → x < count_of t → AreInRange path vs →
    AreInRange (if b then path else t ∷ path) ((if b then [] else x ∷ []) ++ vs)
range-pick true t x path vs h range = range
range-pick false t x path vs h range = (h, range)

range-lanes : (c : Target) (q lane : ℕ) (loops : Path) (vs : List ℕ) → q < c.procs → lane < c.lanes →
    AreInRange loops vs →
    AreInRange (within (Blocks c.procs) (within (Columns c.lanes) loops))
    (if_several c.procs q ++ (if_several c.lanes lane ++ vs))
range-lanes c q lane loops vs h k range =
    range-pick (c.procs == 1) (Blocks c.procs) q (within (Columns c.lanes) loops) (if_several c.lanes lane ++ vs) h
    (range-pick (c.lanes == 1) (Columns c.lanes) lane loops vs k range)

range-framed : (c : Target) (w : PlainWork) (q lane : ℕ) (loops : Path) (vs : List ℕ) → q < c.procs → lane < c.lanes →
    AreInRange loops vs →
    AreInRange (framed c w loops) (values_of c w q lane vs)
range-framed c (tile v) q lane loops vs h k range = range-pick (c.procs == 1) (Blocks c.procs) q loops vs h range
range-framed c _ q lane loops vs h k range = range-lanes c q lane loops vs h k range

pub range-of : (c : Target) (p : PlainPass) (h : IsFramed c p) (q lane : ℕ) (vs : List ℕ) → q < c.procs →
    lane < c.lanes → AreInRange h.loops vs → AreInRange p.path (values_of c p.work q lane vs)
range-of c p h q lane vs below on range =
    subst (λ (path : Path). AreInRange path (values_of c p.work q lane vs)) (sym h.path)
    (range-framed c p.work q lane h.loops vs below on range)

-- values in range name those inside of a tensor, and one below its count where it has several copies
record AreParts (one : Bool) (count x : ℕ) (path : Path) (vs : List ℕ) : Type 0 where
  inner : AreInRange path vs
  outer : one ≡ false → x < count

parts-pick : (b : Bool) (t : Tensor) (x : ℕ) (path : Path) (vs : List ℕ) →
    AreInRange (if b then path else t ∷ path) ((if b then [] else x ∷ []) ++ vs) → AreParts b (count_of t) x path vs
parts-pick true t x path vs h = record { inner = h; outer = λ e. absurd (cc) }
parts-pick false t x path vs h = record { inner = h.1; outer = λ e. h.0 }

parts-lanes : (c : Target) (q lane : ℕ) (loops : Path) (vs : List ℕ) →
    AreInRange (within (Blocks c.procs) (within (Columns c.lanes) loops))
    (if_several c.procs q ++ (if_several c.lanes lane ++ vs)) →
    AreParts (c.procs == 1) c.procs q loops vs
parts-lanes c q lane loops vs h =
    let procs = parts-pick (c.procs == 1) (Blocks c.procs) q (within (Columns c.lanes) loops) _ h in
    let lanes = parts-pick (c.lanes == 1) (Columns c.lanes) lane loops vs procs.inner in
    record { inner = lanes.inner; outer = procs.outer }

parts-of : (c : Target) (w : PlainWork) (q lane : ℕ) (loops : Path) (vs : List ℕ) →
    AreInRange (framed c w loops) (values_of c w q lane vs) →
    AreParts (c.procs == 1) c.procs q loops vs
parts-of c (tile v) q lane loops vs h = parts-pick (c.procs == 1) (Blocks c.procs) q loops vs h
parts-of c _ q lane loops vs h = parts-lanes c q lane loops vs h

-- the processor that stands for q: any for the only one
abbrev pub named : Target → ℕ → ℕ
named c q = if c.procs == 1 then 0 else q

same-proc : (b : Bool) (q : ℕ) (rest : List ℕ) →
    (if b then [] else q ∷ []) ++ rest ≡ (if b then [] else (if b then 0 else q) ∷ []) ++ rest
same-proc true q rest = refl
same-proc false q rest = refl

pub values-named : (c : Target) (w : PlainWork) (q lane : ℕ) (vs : List ℕ) →
    values_of c w q lane vs ≡ values_of c w (named c q) lane vs
values-named c (tile v) q lane vs = same-proc (c.procs == 1) q vs
values-named c _ q lane vs = same-proc (c.procs == 1) q (if_several c.lanes lane ++ vs)

-- the values of a copy on a processor and a lane
pub record IsShare (c : Target) (loops : Path) (q : ℕ) (vs : List ℕ) : Type 0 where
  pub inner : AreInRange loops vs
  pub proc : named c q < c.procs

proc-below : (b : Bool) (p q : ℕ) → 0 < p → (b ≡ false → q < p) → (if b then 0 else q) < p
proc-below true p q some h = some
proc-below false p q some h = h refl

pub share-of : (c : Target) (p : PlainPass) (h : IsFramed c p) (q lane : ℕ) (vs : List ℕ) → 0 < c.procs →
    AreInRange p.path (values_of c p.work q lane vs) → IsShare c h.loops q vs
share-of c p h q lane vs some range =
    let parts = parts-of c p.work q lane h.loops vs
    (subst (λ (path : Path). AreInRange path (values_of c p.work q lane vs)) h.path range) in
    record { inner = parts.inner; proc = proc-below (c.procs == 1) c.procs q some parts.outer }

-- the items on the lanes of a register are items of the copy
pub item-below : (c : Target) (w : PlainWork) (k lane : ℕ) → HasLanes c w → k < vectors_of w → lane < c.lanes →
    item_of w k lane < work_size w
item-below c (tile v) k lane has below on = place_below k lane v v below (omega (arith, has))
item-below c _ k lane has below on = below
