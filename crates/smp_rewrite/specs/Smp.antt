-- Formulas for processors: a list of factors, each of which every processor has an equal part in.
use Rattle.std.specs.Prelude.{ℕ, ◌+◌, ◌/◌, ◌==◌, if◌then◌else◌, List, [], ◌∷◌, ◌++◌, map, Option}
use Rattle.operators.specs.Operator.{Operator}
use Rattle.smp_rewrite.specs.Layout.Meaning.{all_on}
use Rattle.smp_rewrite.specs.Layout.Whole.{closed_on, closing_cost}
use Rattle.operators.specs.declared.target.Target.{Target}
use Rattle.smp_rewrite.specs.Layout.Step.{PlainStep, step, operations_of}
use Rattle.operators.specs.declared.paths.Tensor.{Tensor}
use Rattle.operators.specs.declared.paths.Tensor.TheVariants.{Blocks}
use Rattle.operators.specs.Paths.Tensors.{Path, count_of}

-- the same block for each processor; a diagonal of an equal length for
-- each; or a move of whole lines, merged into what comes after or before it
pub data PlainFactor : Type 0 where
  blocks : (block : PlainStep) → PlainFactor
  diagonals : (whole : PlainStep) → PlainFactor
  move_before : (whole : PlainStep) → PlainFactor
  move_after : (whole : PlainStep) → PlainFactor

-- the factors of the root's right part, then those of its left part, and what each word is multiplied by at the end
pub record PlainSmp : Type 0 where
  pub target : Target
  pub first : List PlainFactor
  pub second : List PlainFactor
  pub closing : Option ℕ

-- one more tensor around those of a path; a tensor of one copy is left out
abbrev pub within : Tensor → Path → Path
within t path = if count_of t == 1 then path else t ∷ path

-- the step that a factor is on all words
abbrev pub factor_step : ℕ → PlainFactor → PlainStep
factor_step p (blocks s) = step (within (Blocks p) s.path) s.core
factor_step p (diagonals s) = s
factor_step p (move_before s) = s
factor_step p (move_after s) = s

abbrev pub smp_steps : PlainSmp → List PlainStep
smp_steps f = map (factor_step f.target.procs) (f.first ++ f.second)

-- what a formula for processors does to a list
abbrev pub smp_on : ℕ → PlainSmp → Operator
smp_on m f x = closed_on m f.target.size f.closing (all_on m (smp_steps f) x)

-- the operations of each of p processors: a block's own, and its share of a diagonal's
abbrev pub share_of : ℕ → ℕ → ℕ → PlainFactor → ℕ
share_of weight m p (blocks s) = operations_of weight m s
share_of weight m p (diagonals s) = operations_of weight m s / p
share_of weight m p (move_before s) = 0
share_of weight m p (move_after s) = 0

abbrev pub shares_in : ℕ → ℕ → ℕ → List PlainFactor → ℕ
shares_in weight m p [] = 0
shares_in weight m p (f ∷ fs) = share_of weight m p f + shares_in weight m p fs

-- numbers of both parts: one processor has one phase, and several have one for each part
abbrev pub by_phase : ℕ → ℕ → ℕ → List ℕ
by_phase p first second = if p == 1 then (first + second) ∷ [] else first ∷ second ∷ []

-- the operations of each processor in each phase
abbrev pub smp_shares : ℕ → ℕ → PlainSmp → List ℕ
smp_shares weight m f =
    by_phase f.target.procs (shares_in weight m f.target.procs f.first)
    (shares_in weight m f.target.procs f.second + closing_cost weight f.target.size f.closing / f.target.procs)
