-- The factors for lanes are `A tensor I_v` or tiles in blocks of equal size, diagonals of equal parts, and permutations of vectors.
use Rattle.std.proofs.Common.{◌≡◌, ◌≢◌, ℕ, ◌*◌, ◌/◌, ◌%◌, ◌≤◌, arith, sym, ap, subst, ◌∙◌, List, [], ◌∷◌, ◌++◌, inl}
use Rattle.std.proofs.Common.{inr, if◌then◌else◌}
use Rattle.std.specs.Prelude.{All, map, Option, None, Some}
use Rattle.std.proofs.Math.Nat.{mul-mod_right}
use Rattle.std.proofs.lemmas.Bool.{cases_eq}
use Rattle.std.proofs.lemmas.List.Elements.{All-nil, All-cons, All-head, All-tail, All-append}
use Rattle.smp_rewrite.specs.Smp as smp
use Rattle.smp_rewrite.specs.Smp.{within}
use Rattle.smp_rewrite.specs.Cut.{layout_smp}
use Rattle.smp_rewrite.specs.Laws.{step_size, IsPermutation, IsMove, HasShape}
use Rattle.smp_rewrite.proofs.Tensors.{blocks-within, size-within}
use Rattle.smp_rewrite.proofs.TreeLaws.{smp_shaped}
use Rattle.smp_rewrite.specs.Layout.Meaning.{core_size}
use Rattle.smp_rewrite.specs.Layout.Step.{PlainCore, piece, turns, twiddles, thomas_in, thomas_out, step}
use Rattle.operators.specs.declared.paths.Tensor.TheVariants.{Blocks, Columns}
use Rattle.operators.specs.Paths.Tensors.{Path, size_under}
use Rattle.smp_rewrite.specs.Fits.{CanShareLayout}
use Rattle.smp_rewrite.specs.Layout.Tree.{Layout}
use Rattle.smp_rewrite.specs.Layout.Whole.{only}
use Rattle.operators.specs.declared.target.Target.{Target}
use Rattle.vec_rewrite.specs.declared.Deal.{Deal}
use Rattle.vec_rewrite.specs.declared.Grid.{Grid}
use Rattle.vec_rewrite.specs.Laws.{HasLanes, IsLaned, VecShaped}
use Rattle.vec_rewrite.specs.Turning.{kept, settled, grouped, grid_after, order_after, narrowed, block_factors, laned}
use Rattle.vec_rewrite.specs.Turning.{laned_from, phase_of, deal_of, vec_of}
use Rattle.vec_rewrite.specs.Vectors.{PlainFactor, lanes, diagonals, move_before, move_after, tiles}
use Rattle.vec_rewrite.proofs.Following.{IsWide, BlockFollows, MoveFollows, Follows, AllFollow}
use Rattle.vec_rewrite.proofs.Rows.{front, back}
use Rattle.vec_rewrite.proofs.StepFollows.{unequal}
use Rattle.vec_rewrite.proofs.TreeFollows.{both_follow}

-- factors of n words that all have their shapes
abbrev AreShaped : ℕ → Deal → List PlainFactor → Type 0
AreShaped n d fs = All (HasLanes n d.procs d.lanes) fs

one-shaped : (n : ℕ) (d : Deal) (f : PlainFactor) → HasLanes n d.procs d.lanes f → AreShaped n d (f ∷ [])
one-shaped n d f h = All-cons (HasLanes n d.procs d.lanes) f [] h (All-nil (HasLanes n d.procs d.lanes))

two-shaped : (n : ℕ) (d : Deal) (f g : PlainFactor) → HasLanes n d.procs d.lanes f → HasLanes n d.procs d.lanes g →
    AreShaped n d (f ∷ g ∷ [])
two-shaped n d f g h k = All-cons (HasLanes n d.procs d.lanes) f (g ∷ []) h (one-shaped n d g k)

-- groups that fill the blocks
abbrev Fills : ℕ → Deal → Grid → Type 0
Fills n d g = d.procs * (g.groups * (d.lanes * (g.tiles * d.lanes))) ≡ n

abbrev IsFilled : ℕ → Deal → Option Grid → Type 0
IsFilled n d None = Unit {0}
IsFilled n d (Some g) = Fills n d g

tiles-shaped : (n : ℕ) (d : Deal) (g : Grid) → Fills n d g →
    HasLanes n d.procs d.lanes (tiles (within (Blocks g.groups) (within (Blocks g.tiles) [])))
tiles-shaped n d g h =
    let across = within (Blocks g.tiles) [] in
    let square = d.lanes * d.lanes in
    let size = ap (λ k. d.procs * k) (size-within (Blocks g.groups) across square ∙ ap (λ k. g.groups * k) (size-within (Blocks g.tiles) [] square)) in
    (size ∙ omega (arith, h), blocks-within g.groups across (blocks-within g.tiles [] tt))

turn-shaped : (n : ℕ) (d : Deal) (g : Grid) (r s : ℕ) → Fills n d g → r * s ≡ g.tiles * d.lanes →
    d.lanes * step_size (step (within (Blocks d.procs) (within (Blocks g.groups) [])) (turns r s)) ≡ n
turn-shaped n d g r s h e =
    ap (λ k. d.lanes * k) (size-within (Blocks d.procs) (within (Blocks g.groups) []) (r * s) ∙ ap (λ k. d.procs * k) (size-within (Blocks g.groups) [] (r * s)))
    ∙ ap (λ k. d.lanes * (d.procs * (g.groups * k))) e
    ∙ omega (arith, h)

settled-shaped : (n : ℕ) (d : Deal) (o : Option Grid) → IsFilled n d o → AreShaped n d (settled d o)
settled-shaped n d None h = All-nil (HasLanes n d.procs d.lanes)
settled-shaped n d (Some g) h =
    two-shaped n d (tiles (within (Blocks g.groups) (within (Blocks g.tiles) []))) (move_after (step (within (Blocks d.procs) (within (Blocks g.groups) [])) (turns d.lanes g.tiles)))
    (tiles-shaped n d g h) (turn-shaped n d g d.lanes g.tiles h (omega arith), tt)

grouped-shaped : (n : ℕ) (d : Deal) (o : Option Grid) (g : Grid) → Fills n d g → AreShaped n d (grouped d o g)
grouped-shaped n d None g h =
    two-shaped n d (move_before (step (within (Blocks d.procs) (within (Blocks g.groups) [])) (turns g.tiles d.lanes))) (tiles (within (Blocks g.groups) (within (Blocks g.tiles) [])))
    (turn-shaped n d g g.tiles d.lanes h (omega arith), tt) (tiles-shaped n d g h)
grouped-shaped n d (Some q) g h = All-nil (HasLanes n d.procs d.lanes)

after-shaped : (n : ℕ) (d : Deal) (o : Option Grid) (f : PlainFactor) → IsFilled n d o → HasLanes n d.procs d.lanes f →
    AreShaped n d (settled d o ++ f ∷ [])
after-shaped n d o f h k = All-append (HasLanes n d.procs d.lanes) (settled d o) (f ∷ []) (settled-shaped n d o h) (one-shaped n d f k)

-- ---- each factor

row-fills : (n : ℕ) (d : Deal) (r m t : ℕ) → IsWide d.lanes r → m ≡ t * d.lanes → d.procs * (r * m) ≡ n → Fills n d (record { groups = r / d.lanes; tiles = t })
row-fills n d r m t rows e h =
    let q = r / d.lanes in
    let whole : d.procs * (q * d.lanes * (t * d.lanes)) ≡ n = ap (λ k. d.procs * (q * d.lanes * k)) (sym e) ∙ ap (λ k. d.procs * (k * m)) (sym rows) ∙ h in omega (arith, whole)

filled-after : (n : ℕ) (d : Deal) (o : Option Grid) (path : Path) (core : PlainCore) → BlockFollows d o path core →
    d.procs * size_under path (core_size core) ≡ n → IsFilled n d (grid_after d path core)
filled-after n d o [] (piece t) h e = tt
filled-after n d o [] (turns r s) h e = row-fills n d r s (s / d.lanes) h.0 h.1 e
filled-after n d o [] (twiddles r s w) h e = tt
filled-after n d o [] (thomas_in r s) h e = tt
filled-after n d o [] (thomas_out r s) h e = tt
filled-after n d o (Blocks r ∷ path) core h e = row-fills n d r (size_under path (core_size core)) (d.block / r / d.lanes) h.0 h.1 e
filled-after n d o (Columns w ∷ path) core h e = tt

-- a diagonal in each block
whole-shaped : (n : ℕ) (d : Deal) (path : Path) (r s w : ℕ) → d.procs * size_under path (r * s) ≡ n →
    HasLanes n d.procs d.lanes (diagonals (step (within (Blocks d.procs) path) (twiddles r s w)))
whole-shaped n d path r s w e = (size-within (Blocks d.procs) path (r * s) ∙ e, tt, ap (λ k. k % d.procs) (sym e) ∙ mul-mod_right d.procs (size_under path (r * s)))

narrow-size : (d : Deal) (w : ℕ) (path : Path) (core : PlainCore) → IsWide d.lanes w →
    d.lanes * step_size (narrowed d.lanes (Columns w ∷ path) core) ≡ size_under (Columns w ∷ path) (core_size core)
narrow-size d w path core h =
    let m = size_under path (core_size core) in
    ap (λ k. d.lanes * k) (size-within (Columns (w / d.lanes)) path (core_size core)) ∙ omega arith ∙ ap (λ k. m * k) (sym h)

lane-shaped : (n : ℕ) (d : Deal) (w : ℕ) (path : Path) (core : PlainCore) → IsWide d.lanes w →
    d.procs * size_under (Columns w ∷ path) (core_size core) ≡ n →
    HasLanes n d.procs d.lanes (lanes (narrowed d.lanes (Columns w ∷ path) core))
lane-shaped n d w path core h e = ap (λ k. d.procs * k) (narrow-size d w path core h) ∙ e

block-shaped : (n : ℕ) (d : Deal) (o : Option Grid) (path : Path) (core : PlainCore) → BlockFollows d o path core →
    IsFilled n d o → d.procs * size_under path (core_size core) ≡ n →
    AreShaped n d (block_factors d o path core)
block-shaped n d o [] (piece t) h filled e = absurd h
block-shaped n d o [] (turns r s) h filled e =
    let whole : d.procs * (r / d.lanes * d.lanes * s) ≡ n = ap (λ k. d.procs * (k * s)) (sym h.0) ∙ e in after-shaped n d o (lanes (step [] (turns (r / d.lanes) s))) filled (omega (arith, whole))
block-shaped n d o [] (twiddles r s w) h filled e = after-shaped n d o (diagonals (step (within (Blocks d.procs) []) (twiddles r s w))) filled (whole-shaped n d [] r s w e)
block-shaped n d o [] (thomas_in r s) h filled e = absurd h
block-shaped n d o [] (thomas_out r s) h filled e = absurd h
block-shaped n d o (Blocks r ∷ path) core h filled e =
    let q = r / d.lanes in
    let m = size_under path (core_size core) in
    let g : Grid = record { groups = q; tiles = d.block / r / d.lanes } in
    let whole : d.procs * (q * d.lanes * m) ≡ n = ap (λ k. d.procs * (k * m)) (sym h.0) ∙ e in
    All-append (HasLanes n d.procs d.lanes) (grouped d o g) (lanes (step (within (Blocks q) path) core) ∷ [])
    (grouped-shaped n d o g (row-fills n d r m (d.block / r / d.lanes) h.0 h.1 e))
    (one-shaped n d (lanes (step (within (Blocks q) path) core)) (ap (λ k. d.procs * (d.lanes * k)) (size-within (Blocks q) path (core_size core)) ∙ omega (arith, whole)))
block-shaped n d o (Columns w ∷ path) (piece t) h filled e = after-shaped n d o (lanes (narrowed d.lanes (Columns w ∷ path) (piece t))) filled (lane-shaped n d w path (piece t) h e)
block-shaped n d o (Columns w ∷ path) (turns r s) h filled e = after-shaped n d o (lanes (narrowed d.lanes (Columns w ∷ path) (turns r s))) filled (lane-shaped n d w path (turns r s) h e)
block-shaped n d o (Columns w ∷ path) (twiddles r s k) h filled e =
    after-shaped n d o (diagonals (step (within (Blocks d.procs) (Columns w ∷ path)) (twiddles r s k))) filled (whole-shaped n d (Columns w ∷ path) r s k e)
block-shaped n d o (Columns w ∷ path) (thomas_in r s) h filled e = after-shaped n d o (lanes (narrowed d.lanes (Columns w ∷ path) (thomas_in r s))) filled (lane-shaped n d w path (thomas_in r s) h e)
block-shaped n d o (Columns w ∷ path) (thomas_out r s) h filled e = after-shaped n d o (lanes (narrowed d.lanes (Columns w ∷ path) (thomas_out r s))) filled (lane-shaped n d w path (thomas_out r s) h e)

move-shaped : (n line : ℕ) (d : Deal) (path : Path) (core : PlainCore) → MoveFollows d path →
    IsMove n line (step path core) →
    (d.lanes * step_size (narrowed d.lanes path core) ≡ n) × IsPermutation (narrowed d.lanes path core).core
move-shaped n line d [] core h k = absurd h
move-shaped n line d (Blocks r ∷ path) core h k = absurd h
move-shaped n line d (Columns w ∷ path) core h k = (narrow-size d w path core h ∙ k.0, k.1)

laned-shaped : (n line : ℕ) (d : Deal) (o : Option Grid) (f : smp.PlainFactor) → Follows d o f → IsFilled n d o →
    HasShape n d.procs line f → AreShaped n d (laned d o f)
laned-shaped n line d o (smp.blocks s) h filled e = block-shaped n d o s.path s.core h filled e
laned-shaped n line d o (smp.diagonals s) h filled e = after-shaped n d o (diagonals s) filled e
laned-shaped n line d o (smp.move_before s) h filled e = after-shaped n d o (move_before (narrowed d.lanes s.path s.core)) filled (move-shaped n line d s.path s.core h e)
laned-shaped n line d o (smp.move_after s) h filled e = after-shaped n d o (move_after (narrowed d.lanes s.path s.core)) filled (move-shaped n line d s.path s.core h e)

order-filled : (n line : ℕ) (d : Deal) (o : Option Grid) (f : smp.PlainFactor) → Follows d o f →
    HasShape n d.procs line f → IsFilled n d (order_after d f)
order-filled n line d o (smp.blocks s) h e = filled-after n d o s.path s.core h e
order-filled n line d o (smp.diagonals s) h e = tt
order-filled n line d o (smp.move_before s) h e = tt
order-filled n line d o (smp.move_after s) h e = tt

from-shaped : (n line : ℕ) (d : Deal) (o : Option Grid) (fs : List smp.PlainFactor) → AllFollow d o fs →
    IsFilled n d o → All (HasShape n d.procs line) fs → AreShaped n d (laned_from d o fs)
from-shaped n line d o [] h filled e = settled-shaped n d o filled
from-shaped n line d o (f ∷ fs) h filled e =
    let first = All-head (HasShape n d.procs line) f fs e in
    All-append (HasLanes n d.procs d.lanes) (laned d o f) (laned_from d (order_after d f) fs) (laned-shaped n line d o f h.0 filled first)
    (from-shaped n line d (order_after d f) fs h.1 (order-filled n line d o f h.0 first) (All-tail (HasShape n d.procs line) f fs e))

-- ---- one lane

kept-one : (n p line : ℕ) (f : smp.PlainFactor) → HasShape n p line f → HasLanes n p 1 (kept f)
kept-one n p line (smp.blocks s) e = ap (λ k. p * k) (omega arith) ∙ e
kept-one n p line (smp.diagonals s) e = e
kept-one n p line (smp.move_before s) e = (omega arith ∙ e.0, e.1)
kept-one n p line (smp.move_after s) e = (omega arith ∙ e.0, e.1)

kept-shaped : (n p line : ℕ) (fs : List smp.PlainFactor) → All (HasShape n p line) fs →
    All (HasLanes n p 1) (map kept fs)
kept-shaped n p line [] e = All-nil (HasLanes n p 1)
kept-shaped n p line (f ∷ fs) e =
    All-cons (HasLanes n p 1) (kept f) (map kept fs) (kept-one n p line f (All-head (HasShape n p line) f fs e)) (kept-shaped n p line fs (All-tail (HasShape n p line) f fs e))

-- ---- both phases

alone-phase : (n p block v line : ℕ) (fs : List smp.PlainFactor) → v ≡ 1 → All (HasShape n p line) fs → AreShaped n (record { procs = p; block = block; lanes = v }) (phase_of (record { procs = p; block = block; lanes = v }) fs)
alone-phase n p block v line fs one e =
    subst (λ v. AreShaped n (record { procs = p; block = block; lanes = v }) (phase_of (record { procs = p; block = block; lanes = v }) fs)) (sym one) (kept-shaped n p line fs e)

laned-phase : (n line : ℕ) (d : Deal) (fs : List smp.PlainFactor) → d.lanes ≢ 1 → AllFollow d None fs →
    All (HasShape n d.procs line) fs → AreShaped n d (phase_of d fs)
laned-phase n line d fs many h e =
    let cut : phase_of d fs ≡ laned_from d None fs = ap (λ b. if b then map kept fs else laned_from d None fs) (unequal d.lanes many) in
    subst (AreShaped n d) (sym cut) (from-shaped n line d None fs h tt e)

layout-shaped : (h : Target) (l : Layout) → CanShareLayout h l →
    All (HasLanes h.size h.procs h.lanes) ((vec_of (layout_smp h l)).first ++ (vec_of (layout_smp h l)).second)
layout-shaped h l k =
    let f = layout_smp h l in
    let d = deal_of h in
    let shapes = (smp_shaped h (only l) k).0 in
    let first = front (HasShape h.size h.procs h.line) f.first f.second shapes in
    let second = back (HasShape h.size h.procs h.line) f.first f.second shapes in
    let low : 1 ≤ h.lanes = k.lanes in
    All-append (HasLanes h.size h.procs h.lanes) (phase_of d f.first) (phase_of d f.second)
    (elim (cases_eq h.lanes 1) [
      | inl one ↦ alone-phase h.size h.procs d.block h.lanes h.line f.first one first
      | inr many ↦ laned-phase h.size h.line d f.first many (both_follow h l (omega (arith, low, many)) k).0 first
    ])
    (elim (cases_eq h.lanes 1) [
      | inl one ↦ alone-phase h.size h.procs d.block h.lanes h.line f.second one second
      | inr many ↦ laned-phase h.size h.line d f.second many (both_follow h l (omega (arith, low, many)) k).1 second
    ])

pub vec_shaped : VecShaped
vec_shaped h f k =
    let w = k.whole in
    subst (λ f. IsLaned (vec_of f)) (sym k.form) (layout-shaped h w.layout k.shares, (smp_shaped h w k.shares).1)
