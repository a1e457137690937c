-- The laws of formulas for processors.
use Rattle.std.specs.Prelude.{◌≡◌, ℕ, ◌*◌, ◌%◌, ◌<◌, List, [], ◌∷◌, ◌++◌, All, Option, Some, None}
use Rattle.std.specs.List.{sum}
use Rattle.matrix_meaning.specs.declared.Request.{Request}
use Rattle.matrix_meaning.specs.Parts.{forward_of}
use Rattle.matrix_meaning.specs.Valid.{IsValid}
use Rattle.operators.specs.Identities.{MovesWholeLines}
use Rattle.operators.specs.Operator.{gather}
use Rattle.smp_rewrite.specs.Layout.Tree.{layout_of}
use Rattle.smp_rewrite.specs.Layout.Whole.{Whole, IsGoodWhole, whole_of, whole_on, whole_operations}
use Rattle.sigma_spl.specs.Shared.Targets.{target_of}
use Rattle.operators.specs.declared.target.Target.{Target}
use Rattle.smp_rewrite.specs.Layout.Meaning.{core_size, step_on}
use Rattle.smp_rewrite.specs.Layout.Step.{PlainCore, piece, turns, twiddles, thomas_in, thomas_out, PlainStep}
use Rattle.operators.specs.declared.paths.Tensor.TheVariants.{Blocks, Columns}
use Rattle.operators.specs.Paths.Tensors.{Path, size_under}
use Rattle.tree_model.specs.Breakdown.{Breakdown}
use Rattle.tree_model.specs.Chosen.{IsWholeTree}
use Rattle.smp_rewrite.specs.Fits.{CanShareLayout}
use Rattle.smp_rewrite.specs.Smp.{PlainFactor, blocks, diagonals, move_before, move_after, PlainSmp, smp_on, smp_shares}
use Rattle.smp_rewrite.specs.Cut.{smp_of}

abbrev pub step_size : PlainStep → ℕ
step_size s = size_under s.path (core_size s.core)

-- how many words a step moves together at least: `A tensor I_k` moves k of them side by side
abbrev pub width_of : Path → ℕ
width_of [] = 1
width_of (Blocks k ∷ path) = 1
width_of (Columns k ∷ path) = k

abbrev pub IsPermutation : PlainCore → Type 0
IsPermutation (piece w) = ⊥
IsPermutation (turns r s) = Unit {0}
IsPermutation (twiddles r s w) = ⊥
IsPermutation (thomas_in r s) = Unit {0}
IsPermutation (thomas_out r s) = Unit {0}

abbrev pub IsDiagonal : PlainCore → Type 0
IsDiagonal (piece w) = ⊥
IsDiagonal (turns r s) = ⊥
IsDiagonal (twiddles r s w) = Unit {0}
IsDiagonal (thomas_in r s) = ⊥
IsDiagonal (thomas_out r s) = ⊥

-- a permutation of n words whose width is a number of lines
abbrev pub IsMove : ℕ → ℕ → PlainStep → Type 0
IsMove n line s = (step_size s ≡ n) × IsPermutation s.core × (width_of s.path % line ≡ 0)

-- on n words: p blocks of equal size, a diagonal that p processors share, or a move of whole lines
abbrev pub HasShape : ℕ → ℕ → ℕ → PlainFactor → Type 0
HasShape n p line (blocks s) = p * step_size s ≡ n
HasShape n p line (diagonals s) = (step_size s ≡ n) × IsDiagonal s.core × (n % p ≡ 0)
HasShape n p line (move_before s) = IsMove n line s
HasShape n p line (move_after s) = IsMove n line s

-- a step that takes what goes to a line from a line, item by item
abbrev pub TakesLines : ℕ → ℕ → ℕ → PlainStep → Type 0
TakesLines m n line s = (f : ℕ → ℕ) × ((x : List ℕ) → step_on m s x ≡ gather n f x) × MovesWholeLines line n f

-- a factor that is no move, or one of whole lines
abbrev pub MovesByLines : ℕ → ℕ → ℕ → PlainFactor → Type 0
MovesByLines m n line (blocks s) = Unit {0}
MovesByLines m n line (diagonals s) = Unit {0}
MovesByLines m n line (move_before s) = TakesLines m n line s
MovesByLines m n line (move_after s) = TakesLines m n line s

-- every move of the formula is of whole lines
abbrev pub MovesWhole : PlainSmp → Type 0
MovesWhole f = All (MovesByLines f.target.modulus f.target.size f.target.line) (f.first ++ f.second)

-- the products at the end are in equal parts
abbrev pub HasEqualParts : ℕ → ℕ → Option ℕ → Type 0
HasEqualParts n p None = Unit {0}
HasEqualParts n p (Some v) = n % p ≡ 0

abbrev pub IsShaped : PlainSmp → Type 0
IsShaped f =
    All (HasShape f.target.size f.target.procs f.target.line) (f.first ++ f.second)
    × HasEqualParts f.target.size f.target.procs f.closing

-- the formula of some whole that the machine can share
pub record IsSmpOf (h : Target) (f : PlainSmp) : Type 0 where
  pub whole : Whole
  pub shares : CanShareLayout h whole.layout
  pub form : f ≡ smp_of h whole

-- of a good one
pub record IsGoodSmpOf (h : Target) (f : PlainSmp) : Type 0 where
  pub smp : IsSmpOf h f
  pub good : IsGoodWhole h.modulus smp.whole

-- of a tree that a valid request admits
pub record IsSmpOfTree (c : Request) (t : Breakdown) (f : PlainSmp) : Type 0 where
  pub valid : IsValid c
  pub tree : IsWholeTree c t
  pub form : f ≡ smp_of (target_of c) (whole_of c t)

-- the formula of a whole does what the whole does
abbrev pub SmpTransforms : Type 0
SmpTransforms =
    (h : Target) (w : Whole) (x : List ℕ) → CanShareLayout h w.layout →
    smp_on h.modulus (smp_of h w) x ≡ whole_on h.modulus w x

-- the processors do its operations in equal shares
abbrev pub SmpCosts : Type 0
SmpCosts =
    (weight : ℕ) (h : Target) (w : Whole) → CanShareLayout h w.layout →
    h.procs * sum (smp_shares weight h.modulus (smp_of h w)) ≡ whole_operations weight h.modulus w

-- each factor has its shape
abbrev pub SmpShaped : Type 0
SmpShaped = (h : Target) (w : Whole) → CanShareLayout h w.layout → IsShaped (smp_of h w)

-- the layout of a tree that a request admits can be shared
abbrev pub LayoutsFit : Type 0
LayoutsFit =
    (c : Request) (t : Breakdown) → IsValid c → IsWholeTree c t →
    CanShareLayout (target_of c) (layout_of (forward_of c) t)

-- a permutation whose width is a number of lines moves whole lines
abbrev pub MovesLines : Type 0
MovesLines = (m n line : ℕ) (s : PlainStep) → 0 < line → IsMove n line s → TakesLines m n line s
