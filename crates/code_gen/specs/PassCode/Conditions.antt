-- Passes that can be written as statements, and what the statements are.
use Rattle.std.specs.Prelude.{◌≡◌, ℕ, ◌+◌, ◌^◌, ◌<◌, ◌≤◌, ◌++◌, IsTrue, List, [], ◌∷◌, length, All, Some}
use Rattle.icode.specs.Actions.{Step, actions_of, array_start, steps_of_body}
use Rattle.icode.specs.Limits.{is_body_within, is_expr_within}
use Rattle.icode.specs.Machine.{whole_lines}
use Rattle.icode.specs.Plain.{PlainProgram}
use Rattle.icode.specs.declared.program.Array.{Array}
use Rattle.code_gen.specs.PassActions.Acts.{pass_acts, pass_registers}
use Rattle.code_gen.specs.PassCode.Expressions.{factor_at, expr_of}
use Rattle.sigma_spl.specs.Shared.Ready.{LoadsAlike}
use Rattle.sigma_spl.specs.Shared.Running.{CanRun}
use Rattle.operators.specs.declared.target.Target.{Target}
use Rattle.sigma_spl.specs.Shared.Machine.{PlainFrame, frame_of, loop_counts}
use Rattle.code_gen.specs.PassCode.Statements.{pass_body, tables_after}
use Rattle.sigma_spl.specs.Good.{NamesItems}
use Rattle.sigma_spl.specs.Merge.{limits_of}
use Rattle.sigma_spl.specs.Nest.{PlainMultiplier, PlainNest, factor_count}
use Rattle.sigma_spl.specs.Work.{PlainWork, rows, horner, work_size}
use Rattle.perm_algebra.specs.Affine.{Sum, constant, variable, remainder, quotient, top}

-- ---- conditions

-- the parts of each variable add up to a word, at every level
abbrev pub CanWrite : Sum → Type 0
CanWrite (constant c) = Unit {0}
CanWrite (variable f d rest) = ((e : ℕ) → factor_at e (variable f d rest) < 2 ^ 64) × CanWrite rest
CanWrite (remainder f of m rest) = CanWrite of × CanWrite rest
CanWrite (quotient f of m rest) = CanWrite of × CanWrite rest

-- what is divided fits a word, where the variable d runs below cs d
abbrev pub DividesWords : (ℕ → ℕ) → Sum → Type 0
DividesWords cs (constant c) = Unit {0}
DividesWords cs (variable f d rest) = DividesWords cs rest
DividesWords cs (remainder f of m rest) = (top of cs < 2 ^ 64) × DividesWords cs of × DividesWords cs rest
DividesWords cs (quotient f of m rest) = (top of cs < 2 ^ 64) × DividesWords cs of × DividesWords cs rest

-- so does the sum
pub record FitsWord (cs : ℕ → ℕ) (e : Sum) : Type 0 where
  pub whole : top e cs < 2 ^ 64
  pub divided : DividesWords cs e

-- the sums can be written, their numbers fit words, and their expressions
-- stand within the limits of programs where `open_loops` loops are open
pub record AreWithin (cs : ℕ → ℕ) (f : PlainFrame) (open_loops : ℕ) (sums : List Sum) : Type 0 where
  pub writable : All CanWrite sums
  pub words : All (FitsWord cs) sums
  pub within : All (λ e. IsTrue (is_expr_within (expr_of f open_loops e) open_loops)) sums

-- how many loops work opens round its loads, and round its stores
abbrev pub loads_inside : PlainWork → ℕ
loads_inside (rows root size) = 2
loads_inside (horner root size) = 2
loads_inside w = 0

abbrev pub stores_inside : PlainWork → ℕ
stores_inside (rows root size) = 1
stores_inside (horner root size) = 1
stores_inside w = 0

pub record CanWriteNest (h : Target) (z : PlainNest) : Type 0 where
  pub gathers : NamesItems z.work z.gathers
      × AreWithin (limits_of z) (frame_of h z.work) (length (loop_counts h z) + loads_inside z.work) z.gathers
  pub scatters : NamesItems z.work z.scatters
      × AreWithin (limits_of z) (frame_of h z.work) (length (loop_counts h z) + stores_inside z.work) z.scatters
  pub multiplier : (d : PlainMultiplier) → z.multiplier ≡ Some d →
      NamesItems z.work d.places
      × AreWithin (limits_of z) (frame_of h z.work) (length (loop_counts h z) + stores_inside z.work) d.places
      × (0 < factor_count d.factors) × (factor_count d.factors < 2 ^ 32)
  pub alike : LoadsAlike z z.work
  pub items : work_size z.work < 2 ^ 32
  pub shallow : length (loop_counts h z) + 2 < 64
  pub counts : All (λ c. (1 ≤ c) × (c < 2 ^ 32)) (loop_counts h z)

-- a pass that can be run and written
pub record CanWritePass (h : Target) (zs : List PlainNest) : Type 0 where
  pub line : 0 < h.line
  pub runs : CanRun h zs
  pub nests : All (CanWriteNest h) zs
  pub few : pass_registers h.modulus zs < 2 ^ 20

-- ---- the law of statements

-- a program for the machine, with these tables first
pub record HasTables (h : Target) (tables : List (List ℕ)) (program : PlainProgram) : Type 0 where
  pub size : program.size ≡ h.size
  pub modulus : program.modulus ≡ h.modulus
  pub line : program.line ≡ h.line
  pub lanes : program.lanes ≡ h.lanes
  pub more : List (List ℕ)
  pub tables_are : program.tables ≡ tables ++ more

-- the numbers on the way to the step's place fit a word, and the place is inside its array or table
pub record IsInside (s : Step) : Type 0 where
  pub numbers : s.peak < 2 ^ 64
  pub place : s.reach ≤ s.room

-- in every program with its tables the statements of a pass are
-- its actions, on each processor, at places that are inside
pub record IsEmitted (h : Target) (zs : List PlainNest) (tables : List (List ℕ)) (source target : Array) : Type 0 where
  pub acts : (program : PlainProgram) (q : ℕ) → q < h.procs → HasTables h (tables_after h.modulus zs tables) program →
      actions_of (steps_of_body program (pass_body h zs tables source target) [] q)
      ≡ pass_acts h zs (array_start (whole_lines h.size h.line) source)
      (array_start (whole_lines h.size h.line) target) q
  pub inside : (program : PlainProgram) (q : ℕ) → q < h.procs → HasTables h (tables_after h.modulus zs tables) program →
      All IsInside (steps_of_body program (pass_body h zs tables source target) [] q)
  pub within : IsTrue (is_body_within h.modulus (pass_body h zs tables source target) 0)

-- every pass that can be written is, where there are not too many tables
abbrev pub PassesAreEmitted : Type 0
PassesAreEmitted =
    (h : Target) (zs : List PlainNest) (tables : List (List ℕ)) (source target : Array) → CanWritePass h zs →
    length (tables_after h.modulus zs tables) < 2 ^ 32 → IsEmitted h zs tables source target
