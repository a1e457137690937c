-- Layouts that processors and lanes can share.
use Rattle.std.specs.Prelude.{◌≡◌, ℕ, ◌*◌, ◌%◌, ◌<◌, ◌≤◌, false}
use Rattle.operators.specs.Sizes.{max_size}
use Rattle.smp_rewrite.specs.Layout.Tree.{Layout, work, by, layout_size}
use Rattle.sigma_spl.specs.Shared.Targets.{is_alone}
use Rattle.operators.specs.declared.target.Target.{Target}
use Rattle.tree_model.specs.Admissible.{DividesBoth}
use Rattle.tree_model.specs.declared.tree.Rule.{Rule}
use Rattle.tree_model.specs.declared.tree.Rule.TheVariants.{Gt, Ct, Split, Dim}

-- sizes of the root's parts: the processors and the lanes have equal parts of both
pub record HasParts (h : Target) (r s : ℕ) : Type 0 where
  pub procs : 1 < h.procs → DividesBoth (h.procs * h.line) r s
  pub lanes : 1 < h.lanes → DividesBoth h.lanes r s

-- the root is ct or split, of such sizes
abbrev pub RuleHasParts : Target → Rule → ℕ → ℕ → Type 0
RuleHasParts h Gt r s = ⊥
RuleHasParts h Ct r s = HasParts h r s
RuleHasParts h Split r s = HasParts h r s
RuleHasParts h Dim r s = HasParts h r s

abbrev pub RootHasParts : Target → Layout → Type 0
RootHasParts h (work w) = ⊥
RootHasParts h (by rule root a b) = RuleHasParts h rule (layout_size a) (layout_size b)

-- a layout of the machine's size, whose root can be shared where there is more than one processor or lane
pub record CanShareLayout (h : Target) (l : Layout) : Type 0 where
  pub size : layout_size l ≡ h.size
  pub some : 1 ≤ h.size
  pub small : h.size ≤ max_size
  pub procs : 1 ≤ h.procs
  pub line : 1 ≤ h.line
  pub lanes : 1 ≤ h.lanes
  pub in_line : 1 < h.procs → h.line % h.lanes ≡ 0
  pub root : is_alone h ≡ false → RootHasParts h l
