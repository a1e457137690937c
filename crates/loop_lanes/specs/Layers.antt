-- What the law of lanes from loops is made of: a group of v rounds
-- of the innermost loop, and the round of v lanes in its place.
use Rattle.std.specs.Prelude.{◌≡◌, ℕ, ◌+◌, ◌*◌, ◌≤◌, true, List, [], ◌∷◌, ◌++◌, map, length, flat_map, slice_index}
use Rattle.std.specs.Prelude.{slice_set, All, Contains, Some}
use Rattle.std.specs.List.{range_with_len}
use Rattle.icode.specs.declared.action.Action.{Action}
use Rattle.icode.specs.declared.action.Action.TheVariants.{Store}
use Rattle.icode.specs.Actions.{Step, StepFits, step_of, actions_of}
use Rattle.icode.specs.Machine.{effects, value_put, stored_words, touched_words}
use Rattle.icode.specs.Plain.{PlainOp, PlainProgram}
use Rattle.nests.specs.Places.{are_linear}
use Rattle.nests.specs.Rounds.{Stored, are_fresh, straight}
use Rattle.loop_lanes.specs.Lanes.{IsLanes, can_lane, laned_ops}
use Rattle.loop_lanes.specs.Laws.{LanedLeavesTheSame}

-- ---- rounds

-- the steps of a round, for these values of the loops
abbrev pub steps_at : PlainProgram → List PlainOp → List ℕ → ℕ → List Step
steps_at p ops vs q = map (λ op. step_of p op vs q) ops

-- of v rounds of the innermost loop, from round v * b on, for these values of the outer loops
abbrev pub group_at : ℕ → PlainProgram → List PlainOp → List ℕ → ℕ → ℕ → List Step
group_at v p ops vs b q = flat_map (λ l. steps_at p ops (vs ++ (v * b + l) ∷ []) q) (range_with_len 0 v)

-- the program whose steps are those of v lanes
abbrev pub on_lanes : ℕ → PlainProgram → PlainProgram
on_lanes v p = record p { lanes = v; regs = 3 * p.regs }

-- the memory that actions leave
abbrev pub memory_by : ℕ → ℕ → List Action → List ℕ → List ℕ → List ℕ
memory_by m lanes acts registers memory =
    (effects m lanes acts (record { memory = memory; registers = registers })).memory

abbrev pub stored_by : ℕ → List Action → List ℕ
stored_by lanes acts = flat_map (stored_words lanes) acts

abbrev pub touched_by : ℕ → List Action → List ℕ
touched_by lanes acts = flat_map (touched_words lanes) acts

-- Steps of v lanes in place of steps of one: they leave the same memory,
-- whatever stands in the registers, touch no other words, are no more, and fit
pub record AreLanesFor (v : ℕ) (p : PlainProgram) (new old : List Step) : Type 0 where
  pub same :
      (r s memory : List ℕ) → 3 * p.regs * v ≤ length r → p.regs ≤ length s →
      memory_by p.modulus v (actions_of new) r memory ≡ memory_by p.modulus 1 (actions_of old) s memory
  pub stored : (k : ℕ) → Contains (stored_by v (actions_of new)) k → Contains (stored_by 1 (actions_of old)) k
  pub touched : (k : ℕ) → Contains (touched_by v (actions_of new)) k → Contains (touched_by 1 (actions_of old)) k
  pub few : length new ≤ length old
  pub fits : All (StepFits (on_lanes v p)) new

-- ---- what is stored

pub record Write : Type 0 where
  pub word : ℕ
  pub value : ℕ

abbrev pub written : List ℕ → List Write → List ℕ
written memory [] = memory
written memory (w ∷ ws) = written (slice_set memory w.word w.value) ws

-- no word gets two values
pub record AreSure (ws : List Write) : Type 0 where
  pub sure : (a b : Write) → Contains ws a → Contains ws b → a.word ≡ b.word → a.value ≡ b.value

-- the values of the registers that actions of one lane put, one after the other, where loads are from this memory
abbrev pub values_put : ℕ → List ℕ → List ℕ → List Action → List ℕ
values_put m memory xs [] = xs
values_put m memory xs (act ∷ acts) =
    values_put m memory (xs ++ value_put m 1 act (record { memory = memory; registers = xs })) acts

abbrev pub writes_of : List ℕ → List Action → List Write
writes_of xs [] = []
writes_of xs (Store address r ∷ acts) = record { word = address; value = slice_index xs r } ∷ writes_of xs acts
writes_of xs (act ∷ acts) = writes_of xs acts

-- what a round of one lane stores, and what v of them do
abbrev pub round_writes : PlainProgram → List ℕ → List PlainOp → List ℕ → ℕ → List Write
round_writes p memory ops vs q =
    let acts = actions_of (steps_at p ops vs q) in writes_of (values_put p.modulus memory [] acts) acts

abbrev pub group_writes : ℕ → PlainProgram → List ℕ → List PlainOp → List ℕ → ℕ → ℕ → List Write
group_writes v p memory ops vs b q =
    flat_map (λ l. round_writes p memory ops (vs ++ (v * b + l) ∷ []) q) (range_with_len 0 v)

-- a memory after writes, in any order and number, that are all of these and no others
pub record IsAfter (memory after : List ℕ) (ws : List Write) : Type 0 where
  pub done : List Write
  pub is : after ≡ written memory done
  pub within : (w : Write) → Contains done w → Contains ws w
  pub whole : (w : Write) → Contains ws w → Contains done w

-- ---- the laws

-- where a group of v rounds stands, and what is known of it
pub record IsGroup (v : ℕ) (p : PlainProgram) (to : Stored) (ops : List PlainOp) (vs : List ℕ) (b q : ℕ) : Type 0 where
  pub lanes : IsLanes v
  pub alone : p.lanes ≡ 1
  pub linear : are_linear 0 to.parts ≡ true
  pub fresh : are_fresh 1 0 (straight ops) ≡ true
  pub fits : All (StepFits p) (group_at v p ops vs b q)

-- Writes of no two values to a word leave the same memory in any order
abbrev pub OrderIsFree : Type 0
OrderIsFree =
    (memory after : List ℕ) (ws : List Write) → AreSure ws → IsAfter memory after ws → after ≡ written memory ws

-- A group leaves what its rounds write, each from the memory before all of them
abbrev pub GroupsWrite : Type 0
GroupsWrite =
    (v : ℕ) (p : PlainProgram) (to : Stored) (ops : List PlainOp) (vs : List ℕ) (b q : ℕ) →
    IsGroup v p to ops vs b q →
    can_lane v (length vs) (Some to) ops ≡ true → (s memory : List ℕ) → p.regs ≤ length s →
    memory_by p.modulus 1 (actions_of (group_at v p ops vs b q)) s memory
    ≡ written memory (group_writes v p memory ops vs b q)

-- No word gets two values
abbrev pub GroupsAreSure : Type 0
GroupsAreSure =
    (v : ℕ) (p : PlainProgram) (to : Stored) (ops : List PlainOp) (vs : List ℕ) (b q : ℕ) →
    IsGroup v p to ops vs b q →
    can_lane v (length vs) (Some to) ops ≡ true → (memory : List ℕ) → AreSure (group_writes v p memory ops vs b q)

-- the round of v lanes leaves what the group writes
abbrev pub LeaveWrites : ℕ → PlainProgram → List PlainOp → List PlainOp → List ℕ → ℕ → ℕ → Type 0
LeaveWrites v p new ops vs b q =
    (r memory : List ℕ) → 3 * p.regs * v ≤ length r →
    IsAfter memory (memory_by p.modulus v (actions_of (steps_at (on_lanes v p) new (vs ++ b ∷ []) q)) r memory)
    (group_writes v p memory ops vs b q)

-- A round of v lanes does so, whichever way it is made
abbrev pub LanesWrite : Type 0
LanesWrite =
    (v : ℕ) (p : PlainProgram) (to : Stored) (ops : List PlainOp) (vs : List ℕ) (b q : ℕ) →
    IsGroup v p to ops vs b q →
    can_lane v (length vs) (Some to) ops ≡ true →
    LeaveWrites v p (laned_ops v p.regs (length vs) (Some to) ops) ops vs b q

-- A round of v lanes stands for a group
abbrev pub RoundsAreLanes : Type 0
RoundsAreLanes =
    (v : ℕ) (p : PlainProgram) (to : Stored) (ops : List PlainOp) (vs : List ℕ) (b q : ℕ) →
    IsGroup v p to ops vs b q →
    can_lane v (length vs) (Some to) ops ≡ true →
    AreLanesFor v p (steps_at (on_lanes v p) (laned_ops v p.regs (length vs) (Some to) ops) (vs ++ b ∷ []) q)
    (group_at v p ops vs b q)

-- All else is loops and programs
abbrev pub LanesFollow : Type 0
LanesFollow = RoundsAreLanes → LanedLeavesTheSame
