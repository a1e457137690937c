-- The steps of a layout, in the order in which they are applied: each is a matrix under the tensors of a path.
use Rattle.std.specs.Prelude.{ℕ, ◌+◌, ◌*◌, List, [], ◌∷◌, ◌++◌}
use Rattle.sigma_spl.specs.Work.{PlainWork}
use Rattle.smp_rewrite.specs.Layout.Tree.{Layout, work, by, layout_size}
use Rattle.sigma_spl.specs.Shared.Costs.{work_cost}
use Rattle.operators.specs.declared.paths.Tensor.TheVariants.{Blocks, Columns}
use Rattle.operators.specs.Paths.Tensors.{Path, copies_of}
use Rattle.tree_model.specs.declared.tree.Rule.{Rule}
use Rattle.tree_model.specs.declared.tree.Rule.TheVariants.{Gt, Ct, Split, Dim}

-- the matrix of a work, a permutation, or a diagonal
pub data PlainCore : Type 0 where
  piece : (work : PlainWork) → PlainCore
  turns : (rows cols : ℕ) → PlainCore
  twiddles : (rows cols root : ℕ) → PlainCore
  thomas_in : (rows cols : ℕ) → PlainCore
  thomas_out : (rows cols : ℕ) → PlainCore

pub record PlainStep : Type 0 where
  pub path : Path
  pub core : PlainCore

abbrev pub step : Path → PlainCore → PlainStep
step path core = record { path = path; core = core }

-- what a rule with the root w puts round the steps of its parts
abbrev pub rule_steps : Rule → Path → ℕ → ℕ → ℕ → List PlainStep → List PlainStep → List PlainStep
rule_steps Gt path r s w left right = step path (thomas_in r s) ∷ (right ++ (left ++ step path (thomas_out r s) ∷ []))
rule_steps Ct path r s w left right = step path (turns r s) ∷ (right ++ (step path (twiddles r s w) ∷ left))
rule_steps Split path r s w left right = right ++ left
rule_steps Dim path r s w left right = right ++ left

-- the steps of a layout under the tensors of the path
abbrev pub steps_of : Path → Layout → List PlainStep
steps_of path (work w) = step path (piece w) ∷ []
steps_of path (by rule root a b) =
    rule_steps rule path (layout_size a) (layout_size b) root
    (steps_of (path ++ Columns (layout_size b) ∷ []) a) (steps_of (path ++ Blocks (layout_size a) ∷ []) b)

-- the operations of a step: a diagonal multiplies each item, and a permutation only moves
abbrev pub core_cost : ℕ → ℕ → PlainCore → ℕ
core_cost weight m (piece w) = work_cost weight m w
core_cost weight m (turns r s) = 0
core_cost weight m (twiddles r s w) = weight * (r * s)
core_cost weight m (thomas_in r s) = 0
core_cost weight m (thomas_out r s) = 0

abbrev pub operations_of : ℕ → ℕ → PlainStep → ℕ
operations_of weight m s = copies_of s.path * core_cost weight m s.core

abbrev pub operations_in : ℕ → ℕ → List PlainStep → ℕ
operations_in weight m [] = 0
operations_in weight m (s ∷ ss) = operations_of weight m s + operations_in weight m ss
