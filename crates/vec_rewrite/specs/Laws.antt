-- The laws of formulas for lanes.
use Rattle.std.specs.Prelude.{◌≡◌, ℕ, ◌*◌, ◌%◌, ◌<◌, true, List, [], ◌∷◌, ◌++◌, All}
use Rattle.smp_rewrite.specs.Smp.{PlainFactor, blocks, diagonals, move_before, move_after, PlainSmp, smp_on, smp_shares}
use Rattle.smp_rewrite.specs.Cut.{layout_smp, smp_of}
use Rattle.smp_rewrite.specs.Laws.{step_size, HasEqualParts, IsPermutation, IsDiagonal, IsSmpOf}
use Rattle.smp_rewrite.specs.Fits.{CanShareLayout}
use Rattle.smp_rewrite.specs.Layout.Tree.{Layout}
use Rattle.smp_rewrite.specs.Layout.Whole.{Whole, IsGoodWhole, whole_of}
use Rattle.smp_rewrite.specs.Layout.Step.{steps_of}
use Rattle.sigma_spl.specs.Good.{AreBlocks}
use Rattle.sigma_spl.specs.Shared.Targets.{is_alone, target_of}
use Rattle.matrix_meaning.specs.Valid.{IsValid}
use Rattle.matrix_meaning.specs.declared.Request.{Request}
use Rattle.operators.specs.declared.target.Target.{Target}
use Rattle.operators.specs.declared.paths.Tensor.TheVariants.{Blocks, Columns}
use Rattle.operators.specs.Paths.Tensors.{Path, size_under}
use Rattle.tree_model.specs.Breakdown.{Breakdown}
use Rattle.tree_model.specs.Chosen.{IsWholeTree}
use Rattle.vec_rewrite.specs.Vectors as vec
use Rattle.vec_rewrite.specs.Vectors.{PlainVec, vec_steps, vec_on, vec_shares}
use Rattle.vec_rewrite.specs.Turning.{vec_of}

-- the formula for lanes of some good whole that the machine can share
pub record IsVecOf (h : Target) (g : PlainVec) : Type 0 where
  pub whole : Whole
  pub shares : CanShareLayout h whole.layout
  pub good : IsGoodWhole h.modulus whole
  pub form : g ≡ vec_of (smp_of h whole)

-- of a tree that a valid request admits
pub record IsVecOfTree (c : Request) (t : Breakdown) (g : PlainVec) : Type 0 where
  pub valid : IsValid c
  pub tree : IsWholeTree c t
  pub form : g ≡ vec_of (smp_of (target_of c) (whole_of c t))

-- a step under blocks has some
abbrev pub HasRowsUnder : Path → Type 0
HasRowsUnder [] = Unit {0}
HasRowsUnder (Blocks r ∷ path) = 0 < r
HasRowsUnder (Columns s ∷ path) = Unit {0}

abbrev pub HasRows : PlainFactor → Type 0
HasRows (blocks s) = HasRowsUnder s.path
HasRows (diagonals s) = Unit {0}
HasRows (move_before s) = Unit {0}
HasRows (move_after s) = Unit {0}

-- the lanes of a formula do what it does, in as many operations of each processor in each phase
abbrev pub Keeps : ℕ → ℕ → PlainSmp → Type 0
Keeps weight m f =
    ((x : List ℕ) → vec_on m (vec_of f) x ≡ smp_on m f x) × (vec_shares weight m (vec_of f) ≡ smp_shares weight m f)

abbrev pub VecKeeps : Type 0
VecKeeps = (weight m : ℕ) (h : Target) (f : PlainSmp) → IsSmpOf h f → Keeps weight m f

-- On n words, for p processors and v lanes: in blocks of n / p words `A tensor I_v` or tiles that stand in blocks, a
-- diagonal that p processors share, or a permutation of n / v vectors
abbrev pub HasLanes : ℕ → ℕ → ℕ → vec.PlainFactor → Type 0
HasLanes n p v (vec.lanes s) = p * (v * step_size s) ≡ n
HasLanes n p v (vec.diagonals s) = (step_size s ≡ n) × IsDiagonal s.core × (n % p ≡ 0)
HasLanes n p v (vec.move_before s) = (v * step_size s ≡ n) × IsPermutation s.core
HasLanes n p v (vec.move_after s) = (v * step_size s ≡ n) × IsPermutation s.core
HasLanes n p v (vec.tiles path) = (p * size_under path (v * v) ≡ n) × AreBlocks path

abbrev pub IsLaned : PlainVec → Type 0
IsLaned g =
    All (HasLanes g.target.size g.target.procs g.target.lanes) (g.first ++ g.second)
    × HasEqualParts g.target.size g.target.procs g.closing

abbrev pub VecShaped : Type 0
VecShaped = (h : Target) (f : PlainSmp) → IsSmpOf h f → IsLaned (vec_of f)

-- for one processor and one lane the steps of a layout stay as they are
abbrev pub PlainSteps : Type 0
PlainSteps = (h : Target) (l : Layout) → is_alone h ≡ true → vec_steps (vec_of (layout_smp h l)) ≡ steps_of [] l
