-- The factors of an admissible tree are good: of the request's size, and with what their permutations need.
use Rattle.sigma_lower.proofs.Words.{◌≡◌, ℕ, ◌*◌, ◌/◌, ◌<◌, ◌≤◌, arith, refl, sym, ap, ◌∙◌, List, [], ◌∷◌, ◌++◌, subst}
use Rattle.sigma_lower.proofs.Words.{mul_comm, All, map, Option, None, Some, ◌==◌, take, drop, flat_map, map-append}
use Rattle.sigma_lower.proofs.Words.{All-nil, All-cons, All-head, All-tail, factors_of, layout_smp, within, size-within}
use Rattle.sigma_lower.proofs.Words.{core_size, PlainCore, piece, turns, twiddles, thomas_in, thomas_out, PlainStep}
use Rattle.sigma_lower.proofs.Words.{step, steps_of, Blocks, Columns, Path, size_under, copies_of, size_under-copies}
use Rattle.sigma_lower.proofs.Words.{PlainWork, CanShareLayout, Layout, IsGoodLayout, only, Target, Grid, HasLanes}
use Rattle.sigma_lower.proofs.Words.{kept, laned, laned_from, vec_of, PlainFactor, lanes, diagonals, move_before}
use Rattle.sigma_lower.proofs.Words.{move_after, PlainVec, factor_step, vec_shaped, AreCoprime, IsGoodPiece, IsGoodCore}
use Rattle.sigma_lower.proofs.Words.{IsGood, AreGood, IsVecOf, right_positive, chosen, cut_factors, first_count, Deal}
use Rattle.sigma_lower.proofs.Words.{settled, order_after, phase_of, vec_steps}
use Rattle.std.proofs.lemmas.List.Elements.{All-append, All-take, All-drop}
use Rattle.smp_rewrite.specs.Cut.{whole_factor}
use Rattle.vec_rewrite.specs.Turning.{grouped, narrowed, block_factors, deal_of}
use Rattle.vec_rewrite.specs.Vectors.{tiles}
use Rattle.sigma_lower.proofs.TreeTerms.Lowering.{good_steps}
use Rattle.smp_rewrite.specs.Smp as smp

-- ---- what a core needs apart from its size, where that of a piece is said of its tree

abbrev pub IsApt : (PlainWork → Type 0) → PlainCore → Type 0
IsApt Q (piece t) = Q t
IsApt Q (turns r s) = Unit {0}
IsApt Q (twiddles r s w) = Unit {0}
IsApt Q (thomas_in r s) = AreCoprime r s
IsApt Q (thomas_out r s) = AreCoprime r s

apt-core : (k : PlainCore) → IsGoodCore k → IsApt IsGoodPiece k
apt-core (turns r s) h = tt
apt-core (twiddles r s w) h = tt
apt-core _ h = h

good-core : (path : Path) (k : PlainCore) (n : ℕ) → IsApt IsGoodPiece k → size_under path (core_size k) ≡ n → 0 < n →
    IsGoodCore k
good-core path (turns r s) n h e positive =
    let whole : copies_of path * (r * s) ≡ n = sym (size_under-copies path (r * s)) ∙ e in
    let inside : 0 < r * s = right_positive (copies_of path) (r * s) (omega (arith, whole, positive)) in
    (right_positive s r (omega (arith, mul_comm s r, inside)), right_positive r s inside)
good-core path (twiddles r s w) n h e positive = tt
good-core path _ n h e positive = h

apt-steps : (n : ℕ) (ss : List PlainStep) → AreGood n ss → All (λ s. IsApt IsGoodPiece s.core) ss
apt-steps n [] h = All-nil (λ s. IsApt IsGoodPiece s.core)
apt-steps n (s ∷ ss) h = All-cons (λ s. IsApt IsGoodPiece s.core) s ss (apt-core s.core h.0.core) (apt-steps n ss h.1)

-- ---- factors for processors: the cores of the steps, and stride permutations; for lanes the same, and tiles

abbrev pub IsAptFactor : (PlainWork → Type 0) → smp.PlainFactor → Type 0
IsAptFactor Q (smp.blocks s) = IsApt Q s.core
IsAptFactor Q (smp.diagonals s) = IsApt Q s.core
IsAptFactor Q (smp.move_before s) = IsApt Q s.core
IsAptFactor Q (smp.move_after s) = IsApt Q s.core

abbrev pub IsAptLane : (PlainWork → Type 0) → PlainFactor → Type 0
IsAptLane Q (lanes s) = IsApt Q s.core
IsAptLane Q (diagonals s) = IsApt Q s.core
IsAptLane Q (move_before s) = IsApt Q s.core
IsAptLane Q (move_after s) = IsApt Q s.core
IsAptLane Q (tiles path) = Unit {0}

module _ (Q : PlainWork → Type 0) where
  apt-one : (f : smp.PlainFactor) → IsAptFactor Q f → All (IsAptFactor Q) (f ∷ [])
  apt-one f h = All-cons (IsAptFactor Q) f [] h (All-nil (IsAptFactor Q))

  whole-apt : (path : Path) (k : PlainCore) → IsApt Q k → All (IsAptFactor Q) (whole_factor path k ∷ [])
  whole-apt path (piece t) h = apt-one (smp.blocks (step path (piece t))) h
  whole-apt path (twiddles r s w) h = apt-one (smp.diagonals (step path (twiddles r s w))) h
  whole-apt path (thomas_out r s) h = apt-one (smp.move_after (step path (thomas_out r s))) h
  whole-apt path k h = apt-one (smp.move_before (step path k)) h

  cut-apt : (n p : ℕ) (path : Path) (k : PlainCore) → IsApt Q k → All (IsAptFactor Q) (cut_factors n p path k)
  cut-apt n p [] (turns r s) h =
      All-cons (IsAptFactor Q) (smp.move_before (step (within (Columns (r / p)) []) (turns p s))) (smp.blocks (step [] (turns (r / p) s)) ∷ []) tt (apt-one (smp.blocks (step [] (turns (r / p) s))) tt)
  cut-apt n p [] k h = whole-apt [] k h
  cut-apt n p (Blocks r ∷ path) k h = apt-one (smp.blocks (step (within (Blocks (r / p)) path) k)) h
  cut-apt n p (Columns s ∷ path) (piece t) h =
      let before = smp.move_before (step (within (Columns (s / p)) []) (turns p (n / s))) in
      let middle = smp.blocks (step (within (Columns (s / p)) path) (piece t)) in
      let after = smp.move_after (step (within (Columns (s / p)) []) (turns (n / s) p)) in
      All-cons (IsAptFactor Q) before (middle ∷ after ∷ []) tt (All-cons (IsAptFactor Q) middle (after ∷ []) h (apt-one after tt))
  cut-apt n p (Columns s ∷ path) k h = whole-apt (Columns s ∷ path) k h

  flat-apt : (n p : ℕ) (ss : List PlainStep) → All (λ s. IsApt Q s.core) ss →
      All (IsAptFactor Q) (flat_map (factors_of n p) ss)
  flat-apt n p [] h = All-nil (IsAptFactor Q)
  flat-apt n p (s ∷ ss) h =
      let core : IsApt Q s.core = All-head (λ s. IsApt Q s.core) s ss h in
      All-append (IsAptFactor Q) (factors_of n p s) (flat_map (factors_of n p) ss)
      (chosen (All (IsAptFactor Q)) (p == 1) (smp.blocks s ∷ []) (cut_factors n p s.path s.core)
      (λ one. apt-one (smp.blocks s) core) (cut-apt n p s.path s.core core))
      (flat-apt n p ss (All-tail (λ s. IsApt Q s.core) s ss h))

  lane-one : (f : PlainFactor) → IsAptLane Q f → All (IsAptLane Q) (f ∷ [])
  lane-one f h = All-cons (IsAptLane Q) f [] h (All-nil (IsAptLane Q))

  settled-apt : (d : Deal) (o : Option Grid) → All (IsAptLane Q) (settled d o)
  settled-apt d None = All-nil (IsAptLane Q)
  settled-apt d (Some g) =
      let after = move_after (step (within (Blocks d.procs) (within (Blocks g.groups) [])) (turns d.lanes g.tiles)) in
      All-cons (IsAptLane Q) (tiles (within (Blocks g.groups) (within (Blocks g.tiles) []))) (after ∷ []) tt (lane-one after tt)

  grouped-apt : (d : Deal) (o : Option Grid) (g : Grid) → All (IsAptLane Q) (grouped d o g)
  grouped-apt d None g =
      let before = move_before (step (within (Blocks d.procs) (within (Blocks g.groups) [])) (turns g.tiles d.lanes)) in
      let across = tiles (within (Blocks g.groups) (within (Blocks g.tiles) [])) in All-cons (IsAptLane Q) before (across ∷ []) tt (lane-one across tt)
  grouped-apt d (Some h) g = All-nil (IsAptLane Q)

  settled-then : (d : Deal) (o : Option Grid) (f : PlainFactor) → IsAptLane Q f →
      All (IsAptLane Q) (settled d o ++ f ∷ [])
  settled-then d o f h = All-append (IsAptLane Q) (settled d o) (f ∷ []) (settled-apt d o) (lane-one f h)

  narrowed-apt : (v : ℕ) (path : Path) (k : PlainCore) → IsApt Q k → IsApt Q (narrowed v path k).core
  narrowed-apt v [] k h = h
  narrowed-apt v (Blocks r ∷ path) k h = h
  narrowed-apt v (Columns s ∷ path) k h = h

  block-apt : (d : Deal) (o : Option Grid) (path : Path) (k : PlainCore) → IsApt Q k →
      All (IsAptLane Q) (block_factors d o path k)
  block-apt d o [] (turns r s) h = settled-then d o (lanes (step [] (turns (r / d.lanes) s))) tt
  block-apt d o [] (twiddles r s w) h = settled-then d o (diagonals (step (within (Blocks d.procs) []) (twiddles r s w))) tt
  block-apt d o [] k h = settled-then d o (lanes (step [] k)) h
  block-apt d o (Blocks r ∷ path) k h =
      let g : Grid = record { groups = r / d.lanes; tiles = d.block / r / d.lanes } in
      let lane = lanes (step (within (Blocks (r / d.lanes)) path) k) in
      All-append (IsAptLane Q) (grouped d o g) (lane ∷ []) (grouped-apt d o g) (lane-one lane h)
  block-apt d o (Columns s ∷ path) (twiddles a b w) h = settled-then d o (diagonals (step (within (Blocks d.procs) (Columns s ∷ path)) (twiddles a b w))) h
  block-apt d o (Columns s ∷ path) k h = settled-then d o (lanes (narrowed d.lanes (Columns s ∷ path) k)) h

  laned-apt : (d : Deal) (o : Option Grid) (f : smp.PlainFactor) → IsAptFactor Q f → All (IsAptLane Q) (laned d o f)
  laned-apt d o (smp.blocks s) h = block-apt d o s.path s.core h
  laned-apt d o (smp.diagonals s) h = settled-then d o (diagonals s) h
  laned-apt d o (smp.move_before s) h = settled-then d o (move_before (narrowed d.lanes s.path s.core)) (narrowed-apt d.lanes s.path s.core h)
  laned-apt d o (smp.move_after s) h = settled-then d o (move_after (narrowed d.lanes s.path s.core)) (narrowed-apt d.lanes s.path s.core h)

  from-apt : (d : Deal) (o : Option Grid) (fs : List smp.PlainFactor) → All (IsAptFactor Q) fs →
      All (IsAptLane Q) (laned_from d o fs)
  from-apt d o [] h = settled-apt d o
  from-apt d o (f ∷ fs) h =
      All-append (IsAptLane Q) (laned d o f) (laned_from d (order_after d f) fs) (laned-apt d o f (All-head (IsAptFactor Q) f fs h)) (from-apt d (order_after d f) fs (All-tail (IsAptFactor Q) f fs h))

  kept-one : (f : smp.PlainFactor) → IsAptFactor Q f → IsAptLane Q (kept f)
  kept-one (smp.blocks s) h = h
  kept-one _ h = h

  kept-apt : (fs : List smp.PlainFactor) → All (IsAptFactor Q) fs → All (IsAptLane Q) (map kept fs)
  kept-apt [] h = All-nil (IsAptLane Q)
  kept-apt (f ∷ fs) h = All-cons (IsAptLane Q) (kept f) (map kept fs) (kept-one f (All-head (IsAptFactor Q) f fs h)) (kept-apt fs (All-tail (IsAptFactor Q) f fs h))

  phase-apt : (d : Deal) (fs : List smp.PlainFactor) → All (IsAptFactor Q) fs → All (IsAptLane Q) (phase_of d fs)
  phase-apt d fs h =
      chosen (All (IsAptLane Q)) (d.lanes == 1) (map kept fs) (laned_from d None fs) (λ one. kept-apt fs h)
      (from-apt d None fs h)

  -- the factors of a layout whose steps are apt
  pub layout-apt : (h : Target) (l : Layout) → All (λ s. IsApt Q s.core) (steps_of [] l) →
      All (IsAptLane Q) ((vec_of (layout_smp h l)).first ++ (vec_of (layout_smp h l)).second)
  layout-apt h l apt =
      let ss = steps_of [] l in
      let k = first_count h.procs ss in
      let g = vec_of (layout_smp h l) in
      let d = deal_of h in
      let Q' : PlainStep → Type 0 = λ s. IsApt Q s.core in
      All-append (IsAptLane Q) g.first g.second
      (phase-apt d (layout_smp h l).first (flat-apt h.size h.procs (take k ss) (All-take Q' k ss apt)))
      (phase-apt d (layout_smp h l).second (flat-apt h.size h.procs (drop k ss) (All-drop Q' k ss apt)))

-- ---- all factors

good-factor : (n p v : ℕ) (f : PlainFactor) → 0 < n → HasLanes n p v f → IsAptLane IsGoodPiece f →
    IsGood n (factor_step p v f)
good-factor n p v (lanes s) some h apt =
    let path = within (Blocks p) (within (Columns v) s.path) in
    let d = core_size s.core in
    let m = size_under s.path d in
    let size : size_under path d ≡ n =
    size-within (Blocks p) (within (Columns v) s.path) d ∙ ap (λ k. p * k) (size-within (Columns v) s.path d ∙ mul_comm m v) ∙ h in
    record { size = size; core = good-core path s.core n apt size some }
good-factor n p v (diagonals s) some h apt = record { size = h.0; core = good-core s.path s.core n apt h.0 some }
good-factor n p v (move_before s) some h apt =
    let size = size-within (Columns v) s.path (core_size s.core) ∙ mul_comm (size_under s.path (core_size s.core)) v ∙ h.0 in
    record { size = size; core = good-core (within (Columns v) s.path) s.core n apt size some }
good-factor n p v (move_after s) some h apt =
    let size = size-within (Columns v) s.path (core_size s.core) ∙ mul_comm (size_under s.path (core_size s.core)) v ∙ h.0 in
    record { size = size; core = good-core (within (Columns v) s.path) s.core n apt size some }
good-factor n p v (tiles path) some h apt =
    let size = size-within (Blocks p) path (v * v) ∙ h.0 in
    record { size = size; core = good-core (within (Blocks p) path) (turns v v) n tt size some }

good-factors : (n p v : ℕ) (fs : List PlainFactor) → 0 < n → All (HasLanes n p v) fs → All (IsAptLane IsGoodPiece) fs →
    AreGood n (map (factor_step p v) fs)
good-factors n p v [] some h apt = tt
good-factors n p v (f ∷ fs) some h apt = (
  good-factor n p v f some (All-head (HasLanes n p v) f fs h) (All-head (IsAptLane IsGoodPiece) f fs apt),
  good-factors n p v fs some (All-tail (HasLanes n p v) f fs h) (All-tail (IsAptLane IsGoodPiece) f fs apt),
)

layout-good : (h : Target) (l : Layout) → CanShareLayout h l → IsGoodLayout h.modulus l →
    AreGood h.size (vec_steps (vec_of (layout_smp h l)))
layout-good h l shares good =
    let g = vec_of (layout_smp h l) in
    let some : 1 ≤ h.size = shares.some in
    let shaped = vec_shaped h (layout_smp h l) (record { whole = only l; shares = shares; form = refl }) in
    good-factors h.size h.procs h.lanes (g.first ++ g.second) (omega (arith, some)) shaped.0
    (layout-apt IsGoodPiece h l (apt-steps h.size (steps_of [] l) (good_steps h.modulus h.size [] l some shares.small good shares.size)))

-- the steps of a formula for lanes are good
pub vec_good : (h : Target) (g : PlainVec) → IsVecOf h g → AreGood h.size (vec_steps g)
vec_good h g k =
    subst (λ g. AreGood h.size (vec_steps g)) (sym k.form) (layout-good h k.whole.layout k.shares k.good.layout)

-- those of each phase
good-split : (n : ℕ) (ss ts : List PlainStep) → AreGood n (ss ++ ts) → AreGood n ss × AreGood n ts
good-split n [] ts h = (tt, h)
good-split n (s ∷ ss) ts h = let rest = good-split n ss ts h.1 in ((h.0, rest.0), rest.1)

pub phases_good : (h : Target) (g : PlainVec) → IsVecOf h g →
    AreGood h.size (map (factor_step g.target.procs g.target.lanes) g.first)
    × AreGood h.size (map (factor_step g.target.procs g.target.lanes) g.second)
phases_good h g k =
    good-split h.size (map (factor_step g.target.procs g.target.lanes) g.first) (map (factor_step g.target.procs g.target.lanes) g.second)
    (subst (AreGood h.size) (map-append (factor_step g.target.procs g.target.lanes) g.first g.second) (vec_good h g k))
