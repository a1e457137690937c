-- How the factors of a formula for processors are cut into lanes.
use Rattle.std.specs.Prelude.{ℕ, ◌/◌, ◌==◌, if◌then◌else◌, List, [], ◌∷◌, ◌++◌, map, Option, None, Some}
use Rattle.smp_rewrite.specs.Smp as smp
use Rattle.smp_rewrite.specs.Smp.{PlainSmp, within}
use Rattle.operators.specs.declared.target.Target.{Target}
use Rattle.smp_rewrite.specs.Layout.Step.{PlainCore, turns, twiddles, PlainStep, step}
use Rattle.operators.specs.declared.paths.Tensor.TheVariants.{Blocks, Columns}
use Rattle.operators.specs.Paths.Tensors.{Path}
use Rattle.vec_rewrite.specs.declared.Deal.{Deal}
use Rattle.vec_rewrite.specs.declared.Grid.{Grid}
use Rattle.vec_rewrite.specs.Vectors.{PlainFactor, lanes, diagonals, move_before, move_after, tiles, PlainVec}

-- ---- one lane: each factor as it is

abbrev pub kept : smp.PlainFactor → PlainFactor
kept (smp.blocks s) = lanes s
kept (smp.diagonals s) = diagonals s
kept (smp.move_before s) = move_before s
kept (smp.move_after s) = move_after s

-- ---- several lanes: r rows of s words become r / v groups of v rows that lie side by side, and s / v tiles reach
-- across each group

-- Rows side by side: `L(s * v, s)` is `(I_(s / v) tensor L(v * v, v)) (L(s, s / v) tensor I_v)`
abbrev pub into_groups : Deal → Grid → List PlainFactor
into_groups d g =
    move_before (step (within (Blocks d.procs) (within (Blocks g.groups) [])) (turns g.tiles d.lanes))
    ∷ tiles (within (Blocks g.groups) (within (Blocks g.tiles) [])) ∷ []

-- Rows one after the other again: `L(s * v, v)` is `(L(s, v) tensor I_v) (I_(s / v) tensor L(v * v, v))`
abbrev pub parted : Deal → Grid → List PlainFactor
parted d g =
    tiles (within (Blocks g.groups) (within (Blocks g.tiles) []))
    ∷ move_after (step (within (Blocks d.procs) (within (Blocks g.groups) [])) (turns d.lanes g.tiles)) ∷ []

-- what brings the words into their own order, where they may lie in groups
abbrev pub settled : Deal → Option Grid → List PlainFactor
settled d None = []
settled d (Some g) = parted d g

-- what brings them into groups, where they may lie so already
abbrev pub grouped : Deal → Option Grid → Grid → List PlainFactor
grouped d None g = into_groups d g
grouped d (Some h) g = []

-- the groups in which a block lies after a step: after one on each of its rows, and after the root's own permutation
abbrev pub grid_after : Deal → Path → PlainCore → Option Grid
grid_after d [] (turns r s) = Some (record { groups = r / d.lanes; tiles = s / d.lanes })
grid_after d [] core = None
grid_after d (Blocks r ∷ path) core = Some (record { groups = r / d.lanes; tiles = d.block / r / d.lanes })
grid_after d (Columns s ∷ path) core = None

abbrev pub order_after : Deal → smp.PlainFactor → Option Grid
order_after d (smp.blocks s) = grid_after d s.path s.core
order_after d (smp.diagonals s) = None
order_after d (smp.move_before s) = None
order_after d (smp.move_after s) = None

-- `A tensor I_s` is `(A tensor I_(s / v)) tensor I_v`: what each lane does
abbrev pub narrowed : ℕ → Path → PlainCore → PlainStep
narrowed v [] core = step [] core
narrowed v (Blocks r ∷ path) core = step (Blocks r ∷ path) core
narrowed v (Columns s ∷ path) core = step (within (Columns (s / v)) path) core

-- The factors of a block's step, where the words may lie in groups. The root's permutation
-- L(r * s, r) is `(I_(r / v) tensor L(s * v, v)) (L(r * s / v, r / v) tensor I_v)`, and on
-- rows `I_r tensor A` is `I_(r / v) tensor (L(s * v, v) (A tensor I_v) L(s * v, s))`.
abbrev pub block_factors : Deal → Option Grid → Path → PlainCore → List PlainFactor
block_factors d o [] (turns r s) = settled d o ++ lanes (step [] (turns (r / d.lanes) s)) ∷ []
block_factors d o [] (twiddles r s w) =
    settled d o ++ diagonals (step (within (Blocks d.procs) []) (twiddles r s w)) ∷ []
block_factors d o [] core = settled d o ++ lanes (step [] core) ∷ []
block_factors d o (Blocks r ∷ path) core =
    grouped d o (record { groups = r / d.lanes; tiles = d.block / r / d.lanes })
    ++ lanes (step (within (Blocks (r / d.lanes)) path) core) ∷ []
block_factors d o (Columns s ∷ path) (twiddles q t w) =
    settled d o ++ diagonals (step (within (Blocks d.procs) (Columns s ∷ path)) (twiddles q t w)) ∷ []
block_factors d o (Columns s ∷ path) core = settled d o ++ lanes (narrowed d.lanes (Columns s ∷ path) core) ∷ []

-- the factors of a factor, where the words may lie in groups
abbrev pub laned : Deal → Option Grid → smp.PlainFactor → List PlainFactor
laned d o (smp.blocks s) = block_factors d o s.path s.core
laned d o (smp.diagonals s) = settled d o ++ diagonals s ∷ []
laned d o (smp.move_before s) = settled d o ++ move_before (narrowed d.lanes s.path s.core) ∷ []
laned d o (smp.move_after s) = settled d o ++ move_after (narrowed d.lanes s.path s.core) ∷ []

abbrev pub laned_from : Deal → Option Grid → List smp.PlainFactor → List PlainFactor
laned_from d o [] = settled d o
laned_from d o (f ∷ fs) = laned d o f ++ laned_from d (order_after d f) fs

abbrev pub phase_of : Deal → List smp.PlainFactor → List PlainFactor
phase_of d fs = if d.lanes == 1 then map kept fs else laned_from d None fs

-- the block of each processor
abbrev pub deal_of : Target → Deal
deal_of h = record { procs = h.procs; block = h.size / h.procs; lanes = h.lanes }

-- the formula for the machine's lanes
abbrev pub vec_of : PlainSmp → PlainVec
vec_of f = record {
  target = f.target;
  first = phase_of (deal_of f.target) f.first;
  second = phase_of (deal_of f.target) f.second;
  closing = f.closing;
}
