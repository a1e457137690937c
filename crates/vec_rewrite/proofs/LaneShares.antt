-- Each processor's operations stay the same on lanes.
use Rattle.std.proofs.Common.{◌≡◌, ℕ, ◌+◌, ◌*◌, ◌/◌, ◌<◌, arith, refl, sym, ap, ◌∙◌, List, [], ◌∷◌, ◌++◌}
use Rattle.std.specs.Prelude.{map, Option, None, Some}
use Rattle.std.proofs.Math.Nat.{mul-div_right}
use Rattle.smp_rewrite.specs.Smp as smp
use Rattle.smp_rewrite.specs.Smp.{within}
use Rattle.smp_rewrite.proofs.Tensors.{copies-within}
use Rattle.smp_rewrite.specs.Layout.Step.{PlainCore, piece, turns, twiddles, thomas_in, thomas_out, step}
use Rattle.smp_rewrite.specs.Layout.Step.{core_cost, operations_of}
use Rattle.operators.specs.declared.paths.Tensor.{Tensor}
use Rattle.operators.specs.declared.paths.Tensor.TheVariants.{Blocks, Columns}
use Rattle.operators.specs.Paths.Tensors.{Path, count_of, copies_of}
use Rattle.vec_rewrite.specs.declared.Deal.{Deal}
use Rattle.vec_rewrite.specs.declared.Grid.{Grid}
use Rattle.vec_rewrite.specs.Turning.{kept, settled, grouped, order_after, narrowed, block_factors, laned, laned_from}
use Rattle.vec_rewrite.specs.Vectors.{PlainFactor, lanes, diagonals, move_before, move_after, share_of, shares_in}
use Rattle.vec_rewrite.proofs.Following.{IsWide, BlockFollows, Follows, AllFollow}

pub shares_in-append : (weight m p v : ℕ) (fs gs : List PlainFactor) →
    shares_in weight m p v (fs ++ gs) ≡ shares_in weight m p v fs + shares_in weight m p v gs
shares_in-append weight m p v [] gs = omega arith
shares_in-append weight m p v (f ∷ fs) gs = let rest = shares_in-append weight m p v fs gs in omega (arith, rest)

settled-share : (weight m p v : ℕ) (d : Deal) (o : Option Grid) → shares_in weight m p v (settled d o) ≡ 0
settled-share weight m p v d None = refl
settled-share weight m p v d (Some g) = omega arith

grouped-share : (weight m p v : ℕ) (d : Deal) (o : Option Grid) (g : Grid) → shares_in weight m p v (grouped d o g) ≡ 0
grouped-share weight m p v d None g = omega arith
grouped-share weight m p v d (Some h) g = refl

-- a factor after words that are brought into their own order
share-after : (weight m p v : ℕ) (d : Deal) (o : Option Grid) (f : PlainFactor) →
    shares_in weight m p v (settled d o ++ f ∷ []) ≡ share_of weight m p v f
share-after weight m p v d o f =
    let both = shares_in-append weight m p v (settled d o) (f ∷ []) in
    let none = settled-share weight m p v d o in omega (arith, both, none)

-- a step under one v-th of a number of copies, on v lanes
lane-share : (weight m v : ℕ) (t : Tensor) (path : Path) (core : PlainCore) (w : ℕ) → w ≡ count_of t * v →
    v * (copies_of (within t path) * core_cost weight m core) ≡ w * copies_of path * core_cost weight m core
lane-share weight m v t path core w h =
    ap (λ n. v * (n * core_cost weight m core)) (copies-within t path) ∙ omega arith ∙ sym (ap (λ n. n * copies_of path * core_cost weight m core) h)

-- a diagonal in each of p blocks
whole-share : (weight m p : ℕ) (path : Path) (core : PlainCore) → 0 < p →
    operations_of weight m (step (within (Blocks p) path) core) / p ≡ operations_of weight m (step path core)
whole-share weight m p path core positive =
    let all : operations_of weight m (step (within (Blocks p) path) core) ≡ p * (copies_of path * core_cost weight m core) = ap (λ n. n * core_cost weight m core) (copies-within (Blocks p) path) ∙ omega arith in
    ap (λ n. n / p) all ∙ mul-div_right (copies_of path * core_cost weight m core) positive

column-share : (weight m : ℕ) (d : Deal) (o : Option Grid) (w : ℕ) (path : Path) (core : PlainCore) → IsWide d.lanes w →
    shares_in weight m d.procs d.lanes (settled d o ++ lanes (narrowed d.lanes (Columns w ∷ path) core) ∷ [])
    ≡ operations_of weight m (step (Columns w ∷ path) core)
column-share weight m d o w path core h =
    share-after weight m d.procs d.lanes d o (lanes (narrowed d.lanes (Columns w ∷ path) core)) ∙ lane-share weight m d.lanes (Columns (w / d.lanes)) path core w h

block-share : (weight m : ℕ) (d : Deal) (o : Option Grid) (path : Path) (core : PlainCore) → 0 < d.procs →
    BlockFollows d o path core →
    shares_in weight m d.procs d.lanes (block_factors d o path core) ≡ operations_of weight m (step path core)
block-share weight m d o [] (piece t) positive h = absurd h
block-share weight m d o [] (turns r s) positive h = share-after weight m d.procs d.lanes d o (lanes (step [] (turns (r / d.lanes) s))) ∙ omega arith
block-share weight m d o [] (twiddles r s w) positive h =
    share-after weight m d.procs d.lanes d o (diagonals (step (within (Blocks d.procs) []) (twiddles r s w))) ∙ whole-share weight m d.procs [] (twiddles r s w) positive
block-share weight m d o [] (thomas_in r s) positive h = absurd h
block-share weight m d o [] (thomas_out r s) positive h = absurd h
block-share weight m d o (Blocks r ∷ path) core positive h =
    let g : Grid = record { groups = r / d.lanes; tiles = d.block / r / d.lanes } in
    let lane = lanes (step (within (Blocks (r / d.lanes)) path) core) in
    let both = shares_in-append weight m d.procs d.lanes (grouped d o g) (lane ∷ []) in
    let none = grouped-share weight m d.procs d.lanes d o g in
    let one = lane-share weight m d.lanes (Blocks (r / d.lanes)) path core r h.0 in omega (arith, both, none, one)
block-share weight m d o (Columns w ∷ path) (piece t) positive h = column-share weight m d o w path (piece t) h
block-share weight m d o (Columns w ∷ path) (turns r s) positive h = column-share weight m d o w path (turns r s) h
block-share weight m d o (Columns w ∷ path) (twiddles r s k) positive h =
    share-after weight m d.procs d.lanes d o (diagonals (step (within (Blocks d.procs) (Columns w ∷ path)) (twiddles r s k))) ∙ whole-share weight m d.procs (Columns w ∷ path) (twiddles r s k) positive
block-share weight m d o (Columns w ∷ path) (thomas_in r s) positive h = column-share weight m d o w path (thomas_in r s) h
block-share weight m d o (Columns w ∷ path) (thomas_out r s) positive h = column-share weight m d o w path (thomas_out r s) h

one-share : (weight m : ℕ) (d : Deal) (o : Option Grid) (f : smp.PlainFactor) → 0 < d.procs → Follows d o f →
    shares_in weight m d.procs d.lanes (laned d o f) ≡ smp.share_of weight m d.procs f
one-share weight m d o (smp.blocks s) positive h = block-share weight m d o s.path s.core positive h
one-share weight m d o (smp.diagonals s) positive h = share-after weight m d.procs d.lanes d o (diagonals s)
one-share weight m d o (smp.move_before s) positive h = share-after weight m d.procs d.lanes d o (move_before (narrowed d.lanes s.path s.core))
one-share weight m d o (smp.move_after s) positive h = share-after weight m d.procs d.lanes d o (move_after (narrowed d.lanes s.path s.core))

pub laned-share : (weight m : ℕ) (d : Deal) (o : Option Grid) (fs : List smp.PlainFactor) → 0 < d.procs →
    AllFollow d o fs → shares_in weight m d.procs d.lanes (laned_from d o fs) ≡ smp.shares_in weight m d.procs fs
laned-share weight m d o [] positive h = settled-share weight m d.procs d.lanes d o
laned-share weight m d o (f ∷ fs) positive h =
    let both = shares_in-append weight m d.procs d.lanes (laned d o f) (laned_from d (order_after d f) fs) in
    let one = one-share weight m d o f positive h.0 in
    let rest = laned-share weight m d (order_after d f) fs positive h.1 in omega (arith, both, one, rest)

-- ---- one lane

kept-one : (weight m p : ℕ) (f : smp.PlainFactor) → share_of weight m p 1 (kept f) ≡ smp.share_of weight m p f
kept-one weight m p (smp.blocks s) = omega arith
kept-one weight m p (smp.diagonals s) = refl
kept-one weight m p (smp.move_before s) = refl
kept-one weight m p (smp.move_after s) = refl

pub kept-share : (weight m p : ℕ) (fs : List smp.PlainFactor) →
    shares_in weight m p 1 (map kept fs) ≡ smp.shares_in weight m p fs
kept-share weight m p [] = refl
kept-share weight m p (f ∷ fs) = let one = kept-one weight m p f in let rest = kept-share weight m p fs in omega (arith, one, rest)
