-- How the processors and lanes of a machine share a nest.
use Rattle.std.specs.Prelude.{ℕ, ◌+◌, ◌*◌, ◌==◌, Bool, not, List, [], ◌∷◌, ◌++◌, drop, if◌then◌else◌}
use Rattle.sigma_spl.specs.Nest.{PlainNest}
use Rattle.sigma_spl.specs.Work.{PlainWork, tile}
use Rattle.operators.specs.declared.target.Target.{Target}

-- one processor and one lane
abbrev pub plain_machine : ℕ → ℕ → Target
plain_machine n m = record { size = n; modulus = m; procs = 1; line = 1; lanes = 1 }

-- ---- variables

-- none where there is one, and else one
abbrev pub one_if_several : ℕ → ℕ
one_if_several n = if n == 1 then 0 else 1

-- a tile has its items on the lanes; other work has a copy on each lane
abbrev pub lane_variables : Target → PlainWork → ℕ
lane_variables h (tile lanes) = 0
lane_variables h w = one_if_several h.lanes

-- the variables of a nest's places: first that of the processor, where several share the pass, then that of the lane,
-- then those of the loops
abbrev pub first_loop : Target → PlainWork → ℕ
first_loop h w = one_if_several h.procs + lane_variables h w

-- a value where there are several
abbrev pub if_several : ℕ → ℕ → List ℕ
if_several n v = if n == 1 then [] else v ∷ []

-- the values of all variables: on a processor and a lane, and of the loops
abbrev pub values_of : Target → PlainWork → ℕ → ℕ → List ℕ → List ℕ
values_of h (tile lanes) q lane vs = if_several h.procs q ++ vs
values_of h w q lane vs = if_several h.procs q ++ (if_several h.lanes lane ++ vs)

-- how many lanes have a copy of their own, where several do
abbrev pub framed_lanes : Target → PlainWork → List ℕ
framed_lanes h (tile lanes) = []
framed_lanes h w = if_several h.lanes h.lanes

-- how often each loop runs on one processor, the outermost first
abbrev pub loop_counts : Target → PlainNest → List ℕ
loop_counts h z = drop (first_loop h z.work) z.counts

-- which item of its copy stands on a lane of the register number k
abbrev pub item_of : PlainWork → ℕ → ℕ → ℕ
item_of (tile lanes) k lane = k * lanes + lane
item_of w k lane = k

-- how far apart the factors of lanes that lie side by side stand in a diagonal
abbrev pub lane_step : PlainWork → ℕ
lane_step (tile lanes) = 1
lane_step w = 0

-- what the variables of a nest's places stand for: whether the first is the processor's, and which is that of the
-- outermost loop
pub record PlainFrame : Type 0 where
  pub shared : Bool
  pub first_loop : ℕ

abbrev pub frame_of : Target → PlainWork → PlainFrame
frame_of h w = record { shared = not (h.procs == 1); first_loop = first_loop h w }
