-- What lowering and merging promise of a tree.
use Rattle.std.specs.Prelude.{◌≡◌, ◌≢◌, ℕ, ◌^◌, ◌<◌, ◌≤◌, ◌==◌, if◌then◌else◌, List, [], ◌∷◌, All, None, length, map}
use Rattle.std.specs.Prelude.{reverse}
use Rattle.matrix_meaning.specs.declared.Kind.TheVariants.{Idft}
use Rattle.matrix_meaning.specs.declared.Request.{Request}
use Rattle.operators.specs.declared.target.Target.{Target}
use Rattle.sigma_spl.specs.Lists.{LastIs}
use Rattle.sigma_spl.specs.Loops.{AreLimitedLoops, IsOrdered, PlainLoop, loops_in, nest_of, one_nest}
use Rattle.sigma_spl.specs.Merge.{most}
use Rattle.sigma_spl.specs.Merged.{PlainMerged}
use Rattle.sigma_spl.specs.Nest.{PlainNest}
use Rattle.sigma_spl.specs.Shared.Costs.{pass_cost, pass_loads}
use Rattle.sigma_spl.specs.Shared.Names.{HasShares}
use Rattle.sigma_spl.specs.Shared.Owners.{ArePhasesShared, IsHost, all_passes, most_actions}
use Rattle.sigma_spl.specs.Shared.Ready.{IsReady, IsReadyNest, passes_tables}
use Rattle.sigma_spl.specs.Shared.Running.{CanRunNest}
use Rattle.sigma_spl.specs.Shared.Targets.{target_of}
use Rattle.sigma_spl.specs.Sigma.{ArePhases, PlainSigma}
use Rattle.sigma_spl.specs.Work.{PlainWork, copy}
use Rattle.tree_model.specs.Breakdown.{Breakdown}
use Rattle.tree_model.specs.WholePasses.{cost_of_pass, loads_of_pass, request_passes}

-- one phase for one processor, and else two
abbrev pub phases_for : ℕ → ℕ
phases_for procs = if procs == 1 then 1 else 2

-- pass by pass the operations and loads of the cost model
pub record CountsTree (c : Request) (t : Breakdown) (ps : List (List PlainNest)) : Type 0 where
  pub costs : map (pass_cost c.weight c.modulus) ps ≡ map (cost_of_pass c.size) (request_passes c t)
  pub loads : map pass_loads ps ≡ map (loads_of_pass c.size) (request_passes c t)

-- it computes or transposes: no words are only copied
abbrev pub IsNoCopy : PlainWork → Type 0
IsNoCopy (copy size) = ⊥
IsNoCopy w = Unit {0}

-- no nest multiplies its items
abbrev pub IsFree : List PlainNest → Type 0
IsFree zs = All (λ (z : PlainNest). z.multiplier ≡ None) zs

-- ---- before merging

-- the loops of each phase, the first of them first
abbrev pub loops_of_phases : PlainSigma → List (List PlainLoop)
loops_of_phases s = map (λ t. reverse (loops_in t)) s.phases

-- each as a nest
abbrev pub nests_of_phases : PlainSigma → List (List (List PlainNest))
nests_of_phases s = map (map one_nest) (loops_of_phases s)

-- a loop that the machine can run: its copies are shared by the processors and lanes, and its work is no copy
pub record IsReadyLoop (h : Target) (p : PlainLoop) : Type 0 where
  pub runs : CanRunNest h (nest_of p)
  pub ready : IsReadyNest h (nest_of p)
  pub computes : IsNoCopy p.work

-- The terms of a tree. In each phase they are loops in order, with permutations and diagonals that go into these, at
-- places within the limits; pass by pass the loops count as the cost model; in each phase each line has one owner.
-- There are few actions and tables, so that two programs of trees are within the limits of one; and but for an
-- inverse the last loop multiplies by nothing, so that a diagonal can stand after it
pub record IsTreeSigma (c : Request) (t : Breakdown) (s : PlainSigma) : Type 0 where
  pub host : IsHost (target_of c)
  pub size : s.size ≡ c.size
  pub procs : s.procs ≡ c.procs
  pub lanes : s.lanes ≡ c.lanes
  pub phases : length s.phases ≡ phases_for c.procs
  pub ordered : All IsOrdered s.phases
  pub limited : All (λ u. AreLimitedLoops (most 64) c.size (loops_in u)) s.phases
  pub loops : All (All (IsReadyLoop (target_of c))) (loops_of_phases s)
  pub owners : ArePhasesShared (target_of c) (nests_of_phases s)
  pub counts : CountsTree c t (all_passes (nests_of_phases s))
  pub few : most_actions (target_of c) (all_passes (nests_of_phases s)) < 2 ^ 50
  pub tables : passes_tables (all_passes (nests_of_phases s)) ≤ 64
  pub free : c.kind ≢ Idft → LastIs IsFree (all_passes (nests_of_phases s))

-- ---- after merging

-- the pass is one loop
abbrev pub IsOneLoop : List PlainNest → Type 0
IsOneLoop [] = ⊥
IsOneLoop (z ∷ []) = IsNoCopy z.work
IsOneLoop (z ∷ y ∷ zs) = ⊥

-- The merged passes of a tree: one phase or two; pass by pass the operations and loads of the cost model, of which each
-- processor has an equal part; no pass for a permutation or a diagonal alone; each word stored once a pass; in each
-- phase one owner of each line; few actions and tables, and but for an inverse a last pass that
-- multiplies by nothing; and a program can be made of them
pub record IsMergedTree (c : Request) (t : Breakdown) (g : PlainMerged) : Type 0 where
  pub size : g.size ≡ c.size
  pub procs : g.procs ≡ c.procs
  pub lanes : g.lanes ≡ c.lanes
  pub phases : length g.phases ≡ phases_for c.procs
  pub counts : CountsTree c t (all_passes g.phases)
  pub parts : (weight : ℕ) → All (HasShares (target_of c) weight) (all_passes g.phases)
  pub no_moves : All IsOneLoop (all_passes g.phases)
  pub stores : ArePhases g.lanes g.size g.phases
  pub owners : ArePhasesShared (target_of c) g.phases
  pub few : most_actions (target_of c) (all_passes g.phases) < 2 ^ 50
  pub tables : passes_tables (all_passes g.phases) ≤ 64
  pub free : c.kind ≢ Idft → LastIs IsFree (all_passes g.phases)
  pub ready : IsReady (target_of c) g
