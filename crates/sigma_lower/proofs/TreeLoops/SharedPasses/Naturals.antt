-- The natural places of framed passes: the lanes of each register are a vector.
use Rattle.sigma_lower.proofs.Words.{◌≡◌, ℕ, ◌+◌, ◌*◌, ◌<◌, Bool, true, false, arith, refl, sym, ap, ap₂, ◌∙◌, List, []}
use Rattle.sigma_lower.proofs.Words.{◌∷◌, ◌++◌, if◌then◌else◌, subst, ◌==◌, Target, item_of, values_of, lane_step}
use Rattle.sigma_lower.proofs.Words.{PlainWork, kernel, rows, tile, work_size, IsGoodWork, within, size-within, is-one}
use Rattle.sigma_lower.proofs.Words.{Tensor, Blocks, Columns, Path, count_of, size_under, copies_of, place}
use Rattle.sigma_lower.proofs.Words.{size_under-copies, AreBlocks, if_several, framed}
use Rattle.sigma_lower.specs.TreeLoops.SharedPasses.Framed.{HasLanes}

-- ---- a tensor that may be left out

single-place : (t : Tensor) (path : Path) (n x : ℕ) (vs : List ℕ) (k : ℕ) → count_of t ≡ 1 → x < count_of t →
    place path n vs k ≡ place (t ∷ path) n (x ∷ vs) k
single-place (Blocks c) path n x vs k one below =
    let first : x ≡ 0 = omega (arith, one, below) in sym (ap (λ y. y * size_under path n + place path n vs k) first ∙ omega arith)
single-place (Columns c) path n x vs k one below =
    let first : x ≡ 0 = omega (arith, one, below) in sym (ap₂ (λ y z. place path n vs k * y + z) one first ∙ omega arith)

place-pick : (b : Bool) (t : Tensor) (path : Path) (n x : ℕ) (vs : List ℕ) (k : ℕ) → (b ≡ true → count_of t ≡ 1) →
    x < count_of t →
    place (if b then path else t ∷ path) n ((if b then [] else x ∷ []) ++ vs) k ≡ place (t ∷ path) n (x ∷ vs) k
place-pick true t path n x vs k one below = single-place t path n x vs k (one refl) below
place-pick false t path n x vs k one below = refl

place-within : (t : Tensor) (path : Path) (n x : ℕ) (vs : List ℕ) (k : ℕ) → x < count_of t →
    place (within t path) n (if_several (count_of t) x ++ vs) k ≡ place (t ∷ path) n (x ∷ vs) k
place-within t path n x vs k below = place-pick (count_of t == 1) t path n x vs k (is-one (count_of t)) below

-- ---- loops over registers

-- a loop in the tensors of processors and lanes, where the lanes of each register are a vector
pub record IsLoop (c : Target) (path : Path) (w : PlainWork) : Type 0 where
  pub loops : Path
  pub form : path ≡ framed c w loops
  pub lanes : HasLanes c w
  pub vectors : (vs : List ℕ) (q k : ℕ) → q < c.procs → (b : ℕ)
      × ((lane : ℕ) → lane < c.lanes → place path (work_size w) (values_of c w q lane vs) (item_of w k lane)
      ≡ b * c.lanes + lane)

lane-vectors : (c : Target) (n : ℕ) (loops : Path) (vs : List ℕ) (q k : ℕ) → q < c.procs →
    (b : ℕ) × ((lane : ℕ) → lane < c.lanes → place (within (Blocks c.procs) (within (Columns c.lanes) loops)) n
    (if_several c.procs q ++ (if_several c.lanes lane ++ vs)) k ≡ b * c.lanes + lane)
lane-vectors c n loops vs q k below =
    let inner = within (Columns c.lanes) loops in (
      q * size_under loops n + place loops n vs k,
      λ lane within.
          place-within (Blocks c.procs) inner n q (if_several c.lanes lane ++ vs) k below
          ∙ ap₂ (λ x y. q * x + y) (size-within (Columns c.lanes) loops n) (place-within (Columns c.lanes) loops n lane vs k within)
          ∙ omega arith,
    )

-- a work of a good layout has a copy on each lane
framed-loop : (m : ℕ) (c : Target) (w : PlainWork) (loops : Path) → IsGoodWork m w →
    IsLoop c (within (Blocks c.procs) (within (Columns c.lanes) loops)) w
framed-loop m c (kernel trees) loops good = record { loops = loops; form = refl; lanes = tt; vectors = λ vs q k below. lane-vectors c (work_size (kernel trees)) loops vs q k below }
framed-loop m c (rows root size) loops good = record { loops = loops; form = refl; lanes = tt; vectors = λ vs q k below. lane-vectors c size loops vs q k below }
framed-loop m c _ loops good = absurd good

pub transform-loop : (m : ℕ) (c : Target) (w : PlainWork) (path loops : Path) → IsGoodWork m w →
    path ≡ within (Blocks c.procs) (within (Columns c.lanes) loops) → IsLoop c path w
transform-loop m c w path loops good e = subst (λ p. IsLoop c p w) (sym e) (framed-loop m c w loops good)

-- and its factors are one on all lanes
pub one-step : (m : ℕ) (w : PlainWork) → IsGoodWork m w → lane_step w ≡ 0
one-step m (tile v) good = absurd good
one-step m _ good = refl

-- ---- tiles

blocks-place : (v m : ℕ) (path : Path) (vs : List ℕ) (k : ℕ) → AreBlocks path →
    (b : ℕ) × ((l : ℕ) → place path (m * v) vs (k * v + l) ≡ b * v + l)
blocks-place v m (Columns c ∷ path) vs k h = absurd h
blocks-place v m (Blocks c ∷ path) (x ∷ vs) k h =
    let inner = blocks-place v m path vs k h in (
      x * (copies_of path * m) + inner.0,
      λ l. ap₂ (λ s y. x * s + y) (size_under-copies path (m * v)) (inner.1 l) ∙ omega arith,
    )
blocks-place v m _ _ k h = (k, λ l. refl)

tile-vectors : (c : Target) (loops : Path) (vs : List ℕ) (q k : ℕ) → AreBlocks loops → q < c.procs →
    (b : ℕ) × ((lane : ℕ) → lane < c.lanes → place (framed c (tile c.lanes) loops) (c.lanes * c.lanes)
    (values_of c (tile c.lanes) q lane vs) (k * c.lanes + lane) ≡ b * c.lanes + lane)
tile-vectors c loops vs q k h below =
    let n = c.lanes * c.lanes in
    let inner = blocks-place c.lanes c.lanes loops vs k h in (
      q * (copies_of loops * c.lanes) + inner.0,
      λ lane within.
          place-within (Blocks c.procs) loops n q vs (k * c.lanes + lane) below
          ∙ ap₂ (λ s y. q * s + y) (size_under-copies loops n) (inner.1 lane)
          ∙ omega arith,
    )

pub tile-loop : (c : Target) (loops : Path) → AreBlocks loops → IsLoop c (framed c (tile c.lanes) loops) (tile c.lanes)
tile-loop c loops h = record { loops = loops; form = refl; lanes = refl; vectors = λ vs q k below. tile-vectors c loops vs q k h below }
