-- A tree as the stages see it: kernels and longer leaves as works, and above them rules with their roots.
use Rattle.std.specs.Prelude.{◌≡◌, ℕ, ◌+◌, ◌*◌, ◌%◌, ◌≤◌, if◌then◌else◌}
use Rattle.std.specs.Int.{IsGcd}
use Rattle.matrix_meaning.specs.Laws.{twiddle}
use Rattle.matrix_meaning.specs.declared.Kind.{Kind}
use Rattle.matrix_meaning.specs.declared.Kind.TheVariants.{Dft, Wht, Idft}
use Rattle.matrix_meaning.specs.declared.Request.{Request}
use Rattle.operators.specs.Identities.{turn}
use Rattle.operators.specs.Operator.{Operator, gather, scale, on_columns, on_blocks, good_thomas_in, good_thomas_out}
use Rattle.operators.specs.Sizes.{max_size}
use Rattle.sigma_spl.specs.Work.{PlainWork, kernel, rows, horner, tile, copy, node_of, work_size, work_on}
use Rattle.sigma_spl.specs.Shared.Kernels.{IsMadeKernel}
use Rattle.ring_mod.specs.Residue.{power_mod}
use Rattle.tree_model.specs.Breakdown.{Breakdown, leaf, node, size_of}
use Rattle.tree_model.specs.Cost.{is_kernel, node_root}
use Rattle.tree_model.specs.declared.tree.Rule.{Rule}
use Rattle.tree_model.specs.declared.tree.Rule.TheVariants.{Gt, Ct, Split, Dim}
use Rattle.tree_model.specs.Whole.{left_of, right_of}
use Rattle.sigma_spl.specs.Shared.Costs.{work_cost}

pub data Layout : Type 0 where
  work : (w : PlainWork) → Layout
  by : (rule : Rule) → (root : ℕ) → (a : Layout) → (b : Layout) → Layout

abbrev pub layout_size : Layout → ℕ
layout_size (work w) = work_size w
layout_size (by rule root a b) = layout_size a * layout_size b

-- what a rule makes of the operators of its parts, of sizes r and s, where its root is w
abbrev pub rule_on : Rule → ℕ → ℕ → ℕ → ℕ → Operator → Operator → Operator
rule_on Gt m r s w a b x =
    gather (r * s) (good_thomas_out r s) (on_columns r s a (on_blocks r s b (gather (r * s) (good_thomas_in r s) x)))
rule_on Ct m r s w a b x = on_columns r s a (scale m (r * s) (twiddle m s w) (on_blocks r s b (turn r s x)))
rule_on Split m r s w a b x = on_columns r s a (on_blocks r s b x)
rule_on Dim m r s w a b x = on_columns r s a (on_blocks r s b x)

-- what a layout does to a list, modulo m
abbrev pub layout_on : ℕ → Layout → Operator
layout_on m (work w) x = work_on m w x
layout_on m (by rule root a b) x = rule_on rule m (layout_size a) (layout_size b) root (layout_on m a) (layout_on m b) x

-- what a rule has on n words beside its parts: a ct multiplies each of them
abbrev pub rule_cost : ℕ → Rule → ℕ → ℕ
rule_cost weight Gt n = 0
rule_cost weight Ct n = weight * n
rule_cost weight Split n = 0
rule_cost weight Dim n = 0

-- the operations of a layout
abbrev pub layout_cost : ℕ → ℕ → Layout → ℕ
layout_cost weight m (work w) = work_cost weight m w
layout_cost weight m (by rule root a b) =
    layout_size b * layout_cost weight m a + layout_size a * layout_cost weight m b
    + rule_cost weight rule (layout_size a * layout_size b)

-- a work that a program can do modulo m: trees that can be made,
-- or a leaf of two items or more by rows with a root of its size
abbrev pub IsGoodWork : ℕ → PlainWork → Type 0
IsGoodWork m (kernel k) = IsMadeKernel m k
IsGoodWork m (rows root size) = (2 ≤ size) × (power_mod m root size ≡ 1 % m)
IsGoodWork m (horner root size) = ⊥
IsGoodWork m (tile lanes) = ⊥
IsGoodWork m (copy size) = ⊥

-- Good-Thomas takes sizes that are coprime
abbrev pub CanPart : Rule → ℕ → ℕ → Type 0
CanPart Gt r s = IsGcd r s 1
CanPart Ct r s = Unit {0}
CanPart Split r s = Unit {0}
CanPart Dim r s = Unit {0}

-- two parts, of sizes r and s, by a rule
pub record IsGoodRule (rule : Rule) (r s : ℕ) : Type 0 where
  pub left : 2 ≤ r
  pub right : 2 ≤ s
  pub parts : CanPart rule r s
  pub small : r * s ≤ max_size

abbrev pub IsGoodLayout : ℕ → Layout → Type 0
IsGoodLayout m (work w) = (1 ≤ work_size w) × IsGoodWork m w
IsGoodLayout m (by rule root a b) =
    IsGoodRule rule (layout_size a) (layout_size b) × IsGoodLayout m a × IsGoodLayout m b

-- ---- the layout of a tree

-- a longer leaf goes row by row
abbrev pub long_work : Request → Kind → Breakdown → PlainWork
long_work p Dft t = rows (node_root p (size_of t)) (size_of t)
long_work p Wht t = kernel (node_of p t)
long_work p Idft t = kernel (node_of p t)

-- the work of a node of the request: short ones are straight-line code
abbrev pub node_work : Request → Breakdown → PlainWork
node_work p t = if is_kernel p (size_of t) then kernel (node_of p t) else long_work p p.kind t

-- the layout of a tree of the request: the parts of a dim are of requests of their own
abbrev pub layout_of : Request → Breakdown → Layout
layout_of p (leaf d) = work (node_work p (leaf d))
layout_of p (node rule a b) =
    if is_kernel p (size_of a * size_of b) then work (node_work p (node rule a b))
    else by rule (node_root p (size_of a * size_of b)) (layout_of (left_of rule p) a) (layout_of (right_of rule p) b)
