-- The factors for lanes do what the factors for processors do.
use Rattle.std.proofs.Common.{◌≡◌, ℕ, ◌*◌, ◌/◌, refl, sym, ap, ◌∙◌, List, [], ◌∷◌, ◌++◌}
use Rattle.std.specs.Prelude.{map, Option, None, Some}
use Rattle.std.proofs.lemmas.List.{map-append}
use Rattle.operators.specs.Identities.{turn}
use Rattle.operators.specs.Operator.{Operator, on_columns, on_blocks}
use Rattle.operators.proofs.Blocks.{columns_in_columns}
use Rattle.smp_rewrite.specs.Smp as smp
use Rattle.smp_rewrite.specs.Smp.{within}
use Rattle.smp_rewrite.proofs.Cores.{core-reads, core-gives}
use Rattle.smp_rewrite.proofs.Tensors.{under-within, under-within_all}
use Rattle.smp_rewrite.specs.Layout.Meaning.{core_size, core_on, step_on, all_on}
use Rattle.smp_rewrite.specs.Layout.Step.{PlainCore, piece, turns, twiddles, thomas_in, thomas_out, step}
use Rattle.smp_rewrite.proofs.LayoutLemmas.StepMeanings.{all_on-append}
use Rattle.operators.specs.declared.paths.Tensor.TheVariants.{Blocks, Columns}
use Rattle.operators.specs.Paths.Tensors.{Path, size_under, under}
use Rattle.vec_rewrite.specs.declared.Deal.{Deal}
use Rattle.vec_rewrite.specs.declared.Grid.{Grid}
use Rattle.vec_rewrite.specs.Turning.{into_groups, settled, grid_after, order_after, narrowed, block_factors, laned}
use Rattle.vec_rewrite.specs.Turning.{laned_from}
use Rattle.vec_rewrite.specs.Vectors.{PlainFactor, lanes, diagonals, move_before, move_after, factor_step}
use Rattle.vec_rewrite.proofs.Whole.{apart, together, on_lanes, parted-on, into_groups-on, rows-on_lanes, into_groups-again}
use Rattle.vec_rewrite.proofs.Whole.{turn-on_lanes, columns-on_lanes}

-- ---- which factors can be cut

-- v lanes have an equal part of w
abbrev pub IsWide : ℕ → ℕ → Type 0
IsWide v w = w ≡ w / v * v

-- words in groups lie in these
abbrev pub IsGridOf : Option Grid → Grid → Type 0
IsGridOf None g = Unit {0}
IsGridOf (Some h) g = h ≡ g

abbrev pub BlockFollows : Deal → Option Grid → Path → PlainCore → Type 0
BlockFollows d o [] (piece t) = ⊥
BlockFollows d o [] (turns r s) = IsWide d.lanes r × IsWide d.lanes s
BlockFollows d o [] (twiddles r s w) = Unit {0}
BlockFollows d o [] (thomas_in r s) = ⊥
BlockFollows d o [] (thomas_out r s) = ⊥
BlockFollows d o (Blocks r ∷ path) core =
    IsWide d.lanes r × (size_under path (core_size core) ≡ d.block / r / d.lanes * d.lanes) × IsGridOf o (record { groups = r / d.lanes; tiles = d.block / r / d.lanes })
BlockFollows d o (Columns w ∷ path) core = IsWide d.lanes w

abbrev pub MoveFollows : Deal → Path → Type 0
MoveFollows d [] = ⊥
MoveFollows d (Blocks r ∷ path) = ⊥
MoveFollows d (Columns w ∷ path) = IsWide d.lanes w

abbrev pub Follows : Deal → Option Grid → smp.PlainFactor → Type 0
Follows d o (smp.blocks s) = BlockFollows d o s.path s.core
Follows d o (smp.diagonals s) = Unit {0}
Follows d o (smp.move_before s) = MoveFollows d s.path
Follows d o (smp.move_after s) = MoveFollows d s.path

abbrev pub AllFollow : Deal → Option Grid → List smp.PlainFactor → Type 0
AllFollow d o [] = Unit {0}
AllFollow d o (f ∷ fs) = Follows d o f × AllFollow d (order_after d f) fs

-- ---- the words in their own order

abbrev pub settle : Deal → Option Grid → Operator
settle d None x = x
settle d (Some g) x = apart d.procs g.groups d.lanes (g.tiles * d.lanes) x

abbrev all_of : ℕ → Deal → List PlainFactor → Operator
all_of m d fs = all_on m (map (factor_step d.procs d.lanes) fs)

all_of-append : (m : ℕ) (d : Deal) (fs gs : List PlainFactor) (x : List ℕ) →
    all_of m d (fs ++ gs) x ≡ all_of m d gs (all_of m d fs x)
all_of-append m d fs gs x =
    ap (λ ss. all_on m ss x) (map-append (factor_step d.procs d.lanes) fs gs) ∙ all_on-append m (map (factor_step d.procs d.lanes) fs) (map (factor_step d.procs d.lanes) gs) x

settled-on : (m : ℕ) (d : Deal) (o : Option Grid) (x : List ℕ) → all_of m d (settled d o) x ≡ settle d o x
settled-on m d None x = refl
settled-on m d (Some g) x = parted-on m d g x

-- a factor after words that are brought into their own order
after-settled : (m : ℕ) (d : Deal) (o : Option Grid) (f : PlainFactor) (x : List ℕ) →
    all_of m d (settled d o ++ f ∷ []) x ≡ step_on m (factor_step d.procs d.lanes f) (settle d o x)
after-settled m d o f x = all_of-append m d (settled d o) (f ∷ []) x ∙ ap (step_on m (factor_step d.procs d.lanes f)) (settled-on m d o x)

-- ---- each kind of factor

column_on : (m : ℕ) (d : Deal) (w : ℕ) (path : Path) (core : PlainCore) (x : List ℕ) → IsWide d.lanes w →
    step_on m (factor_step d.procs d.lanes (lanes (narrowed d.lanes (Columns w ∷ path) core))) x
    ≡ step_on m (smp.factor_step d.procs (smp.blocks (step (Columns w ∷ path) core))) x
column_on m d w path core x h =
    let p = d.procs in
    let v = d.lanes in
    let rows = size_under path (core_size core) in
    let a = under path (core_size core) (core_on m core) in
    under-within_all (Blocks p ∷ Columns v ∷ Columns (w / v) ∷ []) path (core_size core) (core_on m core) x (core-gives m core) (core-reads m core)
    ∙ sym (under-within (Blocks p) (Columns w ∷ path) (core_size core) (core_on m core) x (core-gives m core) (core-reads m core)
    ∙ ap (λ k. on_blocks p (rows * k) (on_columns rows k a) x) h
    ∙ columns-on_lanes p rows (w / v) v a x)

move_on : (m : ℕ) (d : Deal) (path : Path) (core : PlainCore) (x : List ℕ) → MoveFollows d path →
    step_on m (step (within (Columns d.lanes) (narrowed d.lanes path core).path) (narrowed d.lanes path core).core) x
    ≡ step_on m (step path core) x
move_on m d [] core x h = absurd h
move_on m d (Blocks r ∷ path) core x h = absurd h
move_on m d (Columns w ∷ path) core x h =
    let v = d.lanes in
    let rows = size_under path (core_size core) in
    let a = under path (core_size core) (core_on m core) in
    under-within_all (Columns v ∷ Columns (w / v) ∷ []) path (core_size core) (core_on m core) x (core-gives m core) (core-reads m core)
    ∙ sym (ap (λ k. on_columns rows k a x) h ∙ columns_in_columns rows (w / v) v a x)

root-turn_on : (m : ℕ) (d : Deal) (r s : ℕ) (x : List ℕ) → IsWide d.lanes r → IsWide d.lanes s →
    settle d (grid_after d [] (turns r s))
    (step_on m (factor_step d.procs d.lanes (lanes (step [] (turns (r / d.lanes) s)))) x)
    ≡ step_on m (smp.factor_step d.procs (smp.blocks (step [] (turns r s)))) x
root-turn_on m d r s x rows cols =
    let p = d.procs in
    let v = d.lanes in
    let q = r / v in
    ap (apart p q v (s / v * v)) (under-within_all (Blocks p ∷ Columns v ∷ []) [] (q * s) (turn q s) x (core-gives m (turns q s)) (core-reads m (turns q s)))
    ∙ ap (λ k. apart p q v k (on_blocks p (q * s * v) (on_columns (q * s) v (turn q s)) x)) (sym cols)
    ∙ sym (under-within (Blocks p) [] (r * s) (turn r s) x (core-gives m (turns r s)) (core-reads m (turns r s))
    ∙ ap (λ k. on_blocks p (k * s) (turn k s) x) rows
    ∙ turn-on_lanes p q v s x)

-- on rows that lie in groups, as a step on all lanes
lane-on : (m : ℕ) (p v q : ℕ) (path : Path) (core : PlainCore) (x : List ℕ) →
    step_on m (factor_step p v (lanes (step (within (Blocks q) path) core))) x
    ≡ on_lanes p q v (size_under path (core_size core)) (under path (core_size core) (core_on m core)) x
lane-on m p v q path core x =
    under-within_all (Blocks p ∷ Columns v ∷ Blocks q ∷ []) path (core_size core) (core_on m core) x (core-gives m core) (core-reads m core)

row-on : (m : ℕ) (p v r k : ℕ) (path : Path) (core : PlainCore) (x : List ℕ) → IsWide v r →
    size_under path (core_size core) ≡ k →
    step_on m (smp.factor_step p (smp.blocks (step (Blocks r ∷ path) core))) x
    ≡ apart p (r / v) v k (on_lanes p (r / v) v (size_under path (core_size core))
    (under path (core_size core) (core_on m core)) (together p (r / v) v k x))
row-on m p v r k path core x h e =
    let s = size_under path (core_size core) in
    let a = under path (core_size core) (core_on m core) in
    under-within (Blocks p) (Blocks r ∷ path) (core_size core) (core_on m core) x (core-gives m core) (core-reads m core)
    ∙ ap (λ n. on_blocks p (n * s) (on_blocks n s a) x) h
    ∙ rows-on_lanes p (r / v) v s a x
    ∙ ap (λ n. apart p (r / v) v n (on_lanes p (r / v) v s a (together p (r / v) v n x))) e

rows_on : (m : ℕ) (d : Deal) (o : Option Grid) (r : ℕ) (path : Path) (core : PlainCore) (x : List ℕ) →
    BlockFollows d o (Blocks r ∷ path) core →
    settle d (grid_after d (Blocks r ∷ path) core) (all_of m d (block_factors d o (Blocks r ∷ path) core) x)
    ≡ step_on m (smp.factor_step d.procs (smp.blocks (step (Blocks r ∷ path) core))) (settle d o x)
rows_on m d None r path core x h =
    let p = d.procs in
    let v = d.lanes in
    let q = r / v in
    let t = d.block / r / v in
    let g : Grid = record { groups = q; tiles = t } in
    ap (apart p q v (t * v))
    (all_of-append m d (into_groups d g) (lanes (step (within (Blocks q) path) core) ∷ []) x
    ∙ ap (step_on m (factor_step p v (lanes (step (within (Blocks q) path) core)))) (into_groups-on m d g x)
    ∙ lane-on m p v q path core (together p q v (t * v) x))
    ∙ sym (row-on m p v r (t * v) path core x h.0 h.1)
rows_on m d (Some g) r path core x h =
    let p = d.procs in
    let v = d.lanes in
    let q = r / v in
    let t = d.block / r / v in
    let s = size_under path (core_size core) in
    let a = under path (core_size core) (core_on m core) in
    ap (apart p q v (t * v))
    (lane-on m p v q path core x
    ∙ sym (into_groups-again p q v s a x)
    ∙ ap (λ k. on_lanes p q v s a (together p q v k (apart p q v k x))) h.1)
    ∙ sym (row-on m p v r (t * v) path core (apart p q v (t * v) x) h.0 h.1)
    ∙ ap (λ f. step_on m (smp.factor_step p (smp.blocks (step (Blocks r ∷ path) core))) (apart p f.groups v (f.tiles * v) x)) (sym h.2)

block_on : (m : ℕ) (d : Deal) (o : Option Grid) (path : Path) (core : PlainCore) (x : List ℕ) →
    BlockFollows d o path core →
    settle d (grid_after d path core) (all_of m d (block_factors d o path core) x)
    ≡ step_on m (smp.factor_step d.procs (smp.blocks (step path core))) (settle d o x)
block_on m d o [] (piece t) x h = absurd h
block_on m d o [] (turns r s) x h =
    ap (settle d (grid_after d [] (turns r s))) (after-settled m d o (lanes (step [] (turns (r / d.lanes) s))) x) ∙ root-turn_on m d r s (settle d o x) h.0 h.1
block_on m d o [] (twiddles r s w) x h = after-settled m d o (diagonals (step (within (Blocks d.procs) []) (twiddles r s w))) x
block_on m d o [] (thomas_in r s) x h = absurd h
block_on m d o [] (thomas_out r s) x h = absurd h
block_on m d o (Blocks r ∷ path) core x h = rows_on m d o r path core x h
block_on m d o (Columns w ∷ path) (piece t) x h = after-settled m d o (lanes (narrowed d.lanes (Columns w ∷ path) (piece t))) x ∙ column_on m d w path (piece t) (settle d o x) h
block_on m d o (Columns w ∷ path) (turns r s) x h = after-settled m d o (lanes (narrowed d.lanes (Columns w ∷ path) (turns r s))) x ∙ column_on m d w path (turns r s) (settle d o x) h
block_on m d o (Columns w ∷ path) (twiddles r s k) x h = after-settled m d o (diagonals (step (within (Blocks d.procs) (Columns w ∷ path)) (twiddles r s k))) x
block_on m d o (Columns w ∷ path) (thomas_in r s) x h = after-settled m d o (lanes (narrowed d.lanes (Columns w ∷ path) (thomas_in r s))) x ∙ column_on m d w path (thomas_in r s) (settle d o x) h
block_on m d o (Columns w ∷ path) (thomas_out r s) x h = after-settled m d o (lanes (narrowed d.lanes (Columns w ∷ path) (thomas_out r s))) x ∙ column_on m d w path (thomas_out r s) (settle d o x) h

one_on : (m : ℕ) (d : Deal) (o : Option Grid) (f : smp.PlainFactor) (x : List ℕ) → Follows d o f →
    settle d (order_after d f) (all_of m d (laned d o f) x) ≡ step_on m (smp.factor_step d.procs f) (settle d o x)
one_on m d o (smp.blocks s) x h = block_on m d o s.path s.core x h
one_on m d o (smp.diagonals s) x h = after-settled m d o (diagonals s) x
one_on m d o (smp.move_before s) x h = after-settled m d o (move_before (narrowed d.lanes s.path s.core)) x ∙ move_on m d s.path s.core (settle d o x) h
one_on m d o (smp.move_after s) x h = after-settled m d o (move_after (narrowed d.lanes s.path s.core)) x ∙ move_on m d s.path s.core (settle d o x) h

pub laned_on : (m : ℕ) (d : Deal) (o : Option Grid) (fs : List smp.PlainFactor) (x : List ℕ) → AllFollow d o fs →
    all_on m (map (factor_step d.procs d.lanes) (laned_from d o fs)) x ≡ all_on m (map (smp.factor_step d.procs) fs)
    (settle d o x)
laned_on m d o [] x h = settled-on m d o x
laned_on m d o (f ∷ fs) x h =
    all_of-append m d (laned d o f) (laned_from d (order_after d f) fs) x
    ∙ laned_on m d (order_after d f) fs (all_of m d (laned d o f) x) h.1
    ∙ ap (all_on m (map (smp.factor_step d.procs) fs)) (one_on m d o f x h.0)
