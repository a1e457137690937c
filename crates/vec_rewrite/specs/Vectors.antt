-- Formulas for lanes: factors that are `A tensor I_v` or tiles L(v * v, v) in
-- each processor's block, diagonals, or moves of whole vectors of v words.
use Rattle.std.specs.Prelude.{ℕ, ◌+◌, ◌*◌, ◌/◌, List, [], ◌∷◌, ◌++◌, map, Option}
use Rattle.operators.specs.Operator.{Operator}
use Rattle.smp_rewrite.specs.Smp.{by_phase, within}
use Rattle.smp_rewrite.specs.Layout.Meaning.{all_on}
use Rattle.smp_rewrite.specs.Layout.Whole.{closed_on, closing_cost}
use Rattle.operators.specs.declared.target.Target.{Target}
use Rattle.smp_rewrite.specs.Layout.Step.{PlainStep, step, turns, operations_of}
use Rattle.operators.specs.declared.paths.Tensor.TheVariants.{Blocks, Columns}
use Rattle.operators.specs.Paths.Tensors.{Path}

-- a step on all lanes of each processor's block; a diagonal on all words; a
-- permutation of the vectors of all words; tiles under a path in each block
pub data PlainFactor : Type 0 where
  lanes : (lane : PlainStep) → PlainFactor
  diagonals : (whole : PlainStep) → PlainFactor
  move_before : (vectors : PlainStep) → PlainFactor
  move_after : (vectors : PlainStep) → PlainFactor
  tiles : (path : Path) → PlainFactor

pub record PlainVec : Type 0 where
  pub target : Target
  pub first : List PlainFactor
  pub second : List PlainFactor
  pub closing : Option ℕ

-- the step that a factor is on all words, for p processors and v lanes
abbrev pub factor_step : ℕ → ℕ → PlainFactor → PlainStep
factor_step p v (lanes s) = step (within (Blocks p) (within (Columns v) s.path)) s.core
factor_step p v (diagonals s) = s
factor_step p v (move_before s) = step (within (Columns v) s.path) s.core
factor_step p v (move_after s) = step (within (Columns v) s.path) s.core
factor_step p v (tiles path) = step (within (Blocks p) path) (turns v v)

abbrev pub vec_steps : PlainVec → List PlainStep
vec_steps g = map (factor_step g.target.procs g.target.lanes) (g.first ++ g.second)

-- what a formula for lanes does to a list
abbrev pub vec_on : ℕ → PlainVec → Operator
vec_on m g x = closed_on m g.target.size g.closing (all_on m (vec_steps g) x)

-- the operations of each of p processors: a step's own, once for each lane, and its share of a diagonal's
abbrev pub share_of : ℕ → ℕ → ℕ → ℕ → PlainFactor → ℕ
share_of weight m p v (lanes s) = v * operations_of weight m s
share_of weight m p v (diagonals s) = operations_of weight m s / p
share_of weight m p v (move_before s) = 0
share_of weight m p v (move_after s) = 0
share_of weight m p v (tiles path) = 0

abbrev pub shares_in : ℕ → ℕ → ℕ → ℕ → List PlainFactor → ℕ
shares_in weight m p v [] = 0
shares_in weight m p v (f ∷ fs) = share_of weight m p v f + shares_in weight m p v fs

-- the operations of each processor in each phase
abbrev pub vec_shares : ℕ → ℕ → PlainVec → List ℕ
vec_shares weight m g =
    by_phase g.target.procs (shares_in weight m g.target.procs g.target.lanes g.first)
    (shares_in weight m g.target.procs g.target.lanes g.second
    + closing_cost weight g.target.size g.closing / g.target.procs)
