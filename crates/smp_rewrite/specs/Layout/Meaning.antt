-- What steps do to a list.
use Rattle.std.specs.Prelude.{◌≡◌, ℕ, ◌*◌, List, [], ◌∷◌, false}
use Rattle.matrix_meaning.specs.Laws.{twiddle}
use Rattle.kernel_gen.specs.Nodes.{IsNodeTree}
use Rattle.matrix_meaning.specs.declared.Request.{Request}
use Rattle.operators.specs.Identities.{turn}
use Rattle.operators.specs.Operator.{Operator, gather, scale, good_thomas_in, good_thomas_out}
use Rattle.sigma_spl.specs.Work.{work_size, work_on}
use Rattle.smp_rewrite.specs.Layout.Tree.{Layout, layout_size, layout_on, layout_cost, layout_of, IsGoodLayout}
use Rattle.smp_rewrite.specs.Layout.Step.{PlainCore, piece, turns, twiddles, thomas_in, thomas_out, PlainStep}
use Rattle.smp_rewrite.specs.Layout.Step.{steps_of, operations_in}
use Rattle.operators.specs.Paths.Tensors.{Path, copies_of, under}
use Rattle.tree_model.specs.Admissible.{RootFits}
use Rattle.tree_model.specs.Breakdown.{Breakdown, size_of}
use Rattle.tree_model.specs.Cost.{is_plain}
use Rattle.tree_model.specs.Whole.{cost_in, node_on}

abbrev pub core_size : PlainCore → ℕ
core_size (piece w) = work_size w
core_size (turns r s) = r * s
core_size (twiddles r s w) = r * s
core_size (thomas_in r s) = r * s
core_size (thomas_out r s) = r * s

abbrev pub core_on : ℕ → PlainCore → Operator
core_on m (piece w) = work_on m w
core_on m (turns r s) = turn r s
core_on m (twiddles r s w) = scale m (r * s) (twiddle m s w)
core_on m (thomas_in r s) = gather (r * s) (good_thomas_in r s)
core_on m (thomas_out r s) = gather (r * s) (good_thomas_out r s)

abbrev pub step_on : ℕ → PlainStep → Operator
step_on m s = under s.path (core_size s.core) (core_on m s.core)

-- all steps, one after the other
abbrev pub all_on : ℕ → List PlainStep → Operator
all_on m [] x = x
all_on m (s ∷ ss) x = all_on m ss (step_on m s x)

-- the steps of a layout do what the layout does, under the tensors of the path
abbrev pub StepsDo : Type 0
StepsDo =
    (m : ℕ) (path : Path) (l : Layout) (x : List ℕ) →
    all_on m (steps_of path l) x ≡ under path (layout_size l) (layout_on m l) x

-- and have its operations, for each copy
abbrev pub StepsCost : Type 0
StepsCost =
    (weight m : ℕ) (path : Path) (l : Layout) →
    operations_in weight m (steps_of path l) ≡ copies_of path * layout_cost weight m l

-- the layout of a tree has its size
abbrev pub LayoutsHaveSize : Type 0
LayoutsHaveSize = (p : Request) (t : Breakdown) → layout_size (layout_of p t) ≡ size_of t

-- its layout does what the tree does
abbrev pub LayoutsDo : Type 0
LayoutsDo =
    (p : Request) (t : Breakdown) (x : List ℕ) → IsNodeTree p t → layout_on p.modulus (layout_of p t) x ≡ node_on p t x

-- the whole tree can be shared where there is more than one processor or lane
abbrev pub FitsWhole : Request → Breakdown → Type 0
FitsWhole p t = size_of t ≡ p.size → is_plain p ≡ false → RootFits p t

-- it costs what the tree costs
abbrev pub LayoutsCost : Type 0
LayoutsCost =
    (p : Request) (t : Breakdown) → IsNodeTree p t → FitsWhole p t →
    layout_cost p.weight p.modulus (layout_of p t) ≡ cost_in p t

-- and a program can do it
abbrev pub LayoutsAreGood : Type 0
LayoutsAreGood = (p : Request) (t : Breakdown) → IsNodeTree p t → FitsWhole p t → IsGoodLayout p.modulus (layout_of p t)
