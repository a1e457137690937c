-- The machine: what an action does, what a turn does, and whole runs.
use Rattle.std.specs.Prelude.{◌≡◌, ◌≢◌, ℕ, zero, suc, ◌+◌, ◌-◌, ◌*◌, ◌/◌, ◌<◌, List, [], ◌∷◌, ◌++◌, Bool, map, length, replicate, Option, Some, None, Contains, flat_map, nat_lt, if◌then◌else◌, slice_get, slice_index, slice_index_or, slice_set, take}
use Rattle.std.specs.List.{range_with_len, list_any}
use Rattle.ring_mod.specs.Residue.{sum_mod, difference_mod, negation_mod, product_mod}
use Rattle.icode.specs.declared.action.Action.{Action}
use Rattle.icode.specs.declared.action.Action.TheVariants.{Load, Store, Zero, Add, Sub, Neg, Mul, Tile}
use Rattle.icode.specs.declared.action.Counts.{Counts}
use Rattle.icode.specs.declared.event.Turned.{Turned}
use Rattle.icode.specs.declared.event.Turned.TheVariants.{Did, Waits, Done}

-- what a machine runs: phase by phase, the list of actions of each processor
pub record Code : Type 0 where
  pub size : ℕ
  pub modulus : ℕ
  pub procs : ℕ
  pub line : ℕ
  pub lanes : ℕ
  pub regs : ℕ
  pub lists : List (List (List Action))

-- each phase has a list for each processor
pub record IsCode (code : Code) : Type 0 where
  pub each : (phase : ℕ) → phase < length code.lists → length (slice_index_or code.lists phase []) ≡ code.procs

-- the list of actions of a phase and a processor
abbrev pub acts : Code → ℕ → ℕ → List Action
acts code phase q = slice_index_or (slice_index_or code.lists phase []) q []

-- Effects

-- the n words from place i on
abbrev pub words_at : ℕ → List ℕ → ℕ → List ℕ
words_at zero xs i = []
words_at (suc n) xs i = slice_index xs i ∷ words_at n xs (i + 1)

-- xs with the words vs from place i on
abbrev pub with_words : List ℕ → ℕ → List ℕ → List ℕ
with_words xs i [] = xs
with_words xs i (v ∷ vs) = with_words (slice_set xs i v) (i + 1) vs

-- f of the two words of each lane
abbrev pub lane_by_lane : (ℕ → ℕ → ℕ) → List ℕ → List ℕ → List ℕ
lane_by_lane f [] ys = []
lane_by_lane f (x ∷ xs) [] = []
lane_by_lane f (x ∷ xs) (y ∷ ys) = f x y ∷ lane_by_lane f xs ys

-- lane l of register k is lane k of register source + l
abbrev pub transposed : ℕ → List ℕ → ℕ → List ℕ
transposed lanes registers source =
    flat_map
    (λ k. map (λ l. slice_index registers ((source + l) * lanes + k)) (range_with_len 0 lanes))
    (range_with_len 0 lanes)

-- the memory and one processor's registers; lane l of register r is word r * lanes + l
pub record Local : Type 0 where
  pub memory : List ℕ
  pub registers : List ℕ

-- the words of a register
abbrev pub register_of : ℕ → List ℕ → ℕ → List ℕ
register_of lanes registers r = words_at lanes registers (r * lanes)

abbrev pub memory_after : ℕ → Action → Local → List ℕ
memory_after lanes (Store address r) s = with_words s.memory address (register_of lanes s.registers r)
memory_after lanes _ s = s.memory

-- what the action puts into its register, or from there on
abbrev pub value_put : ℕ → ℕ → Action → Local → List ℕ
value_put m lanes (Load r address) s = words_at lanes s.memory address
value_put m lanes (Store address r) s = []
value_put m lanes (Zero r) s = replicate lanes 0
value_put m lanes (Add r x y) s = lane_by_lane (sum_mod m) (register_of lanes s.registers x) (register_of lanes s.registers y)
value_put m lanes (Sub r x y) s = lane_by_lane (difference_mod m) (register_of lanes s.registers x) (register_of lanes s.registers y)
value_put m lanes (Neg r x) s = map (negation_mod m) (register_of lanes s.registers x)
value_put m lanes (Mul r x factors) s = lane_by_lane (product_mod m) (register_of lanes s.registers x) factors
value_put m lanes (Tile r x) s = transposed lanes s.registers x

-- the register that the action changes
abbrev pub register_put : Action → ℕ
register_put (Load r address) = r
register_put (Store address r) = r
register_put (Zero r) = r
register_put (Add r x y) = r
register_put (Sub r x y) = r
register_put (Neg r x) = r
register_put (Mul r x factors) = r
register_put (Tile r x) = r

-- what an action leaves
abbrev pub effect : ℕ → ℕ → Action → Local → Local
effect m lanes action s =
    let registers = with_words s.registers (register_put action * lanes) (value_put m lanes action s) in
    record { memory = memory_after lanes action s; registers = registers }

-- what a list of actions leaves, one after another
abbrev pub effects : ℕ → ℕ → List Action → Local → Local
effects m lanes [] s = s
effects m lanes (action ∷ actions) s = effects m lanes actions (effect m lanes action s)

-- Counts

abbrev pub counted : ℕ → Action → Counts → Counts
counted lanes (Load r address) c = record c { loads = c.loads + lanes }
counted lanes (Store address r) c = record c { stores = c.stores + lanes }
counted lanes (Zero r) c = c
counted lanes (Add r x y) c = record c { operations = c.operations + lanes }
counted lanes (Sub r x y) c = record c { operations = c.operations + lanes }
counted lanes (Neg r x) c = record c { operations = c.operations + lanes }
counted lanes (Mul r x factors) c = record c { operations = c.operations + lanes; muls = c.muls + lanes }
counted lanes (Tile r x) c = c

abbrev pub no_counts : Counts
no_counts = record { operations = 0; muls = 0; loads = 0; stores = 0 }

-- the operations, where a multiplication counts as `weight` of them
abbrev pub weighted : ℕ → Counts → ℕ
weighted weight c = c.operations + (weight - 1) * c.muls

-- what a list of actions counts
abbrev pub counts_of : ℕ → List Action → Counts
counts_of lanes [] = no_counts
counts_of lanes (action ∷ actions) = counted lanes action (counts_of lanes actions)

-- Turns

pub record State : Type 0 where
  pub memory : List ℕ
  pub registers : List (List ℕ)
  pub phase : ℕ
  -- how many actions of the phase each processor has done
  pub done : List ℕ

-- the action that the processor has left in the phase, if there is one
abbrev pub next_action : Code → State → ℕ → Option Action
next_action code s q = slice_get (acts code s.phase q) (slice_index s.done q)

abbrev pub none_done : Code → List ℕ
none_done code = replicate code.procs 0

-- whether some processor has an action left in the phase
abbrev pub is_open : Code → ℕ → List ℕ → Bool
is_open code phase done =
    list_any (λ q. nat_lt (slice_index done q) (length (acts code phase q))) (range_with_len 0 code.procs)

-- the first of n phases in which some list has an action, or what comes after them
abbrev pub first_open : Code → ℕ → ℕ → ℕ
first_open code zero phase = phase
first_open code (suc n) phase =
    if is_open code phase (none_done code) then phase else first_open code n (phase + 1)

-- how many phases come after this one
abbrev pub phases_after : Code → ℕ → ℕ
phases_after code phase = length code.lists - (phase + 1)

-- the phase moves on where no action is left in it
abbrev pub moved_on : Code → State → State
moved_on code s =
    if is_open code s.phase s.done then s
    else let phase = first_open code (phases_after code s.phase) (s.phase + 1) in
    record { memory = s.memory; registers = s.registers; phase = phase; done = none_done code }

-- processor q does the action
abbrev pub acted : Code → ℕ → Action → State → State
acted code q action s =
    let before : Local = record { memory = s.memory; registers = slice_index_or s.registers q [] } in
    let after : Local = effect code.modulus code.lanes action before in
    let done = slice_set s.done q (suc (slice_index s.done q)) in
    record { memory = after.memory; registers = slice_set s.registers q after.registers; phase = s.phase; done = done }

abbrev pub turn_with : Code → ℕ → State → Option Action → State
turn_with code q s None = s
turn_with code q s (Some action) = moved_on code (acted code q action s)

-- the state after a turn of processor q: it does the action that it has left, if there is one
abbrev pub turn : Code → State → ℕ → State
turn code s q = turn_with code q s (next_action code s q)

-- the state after the turns, one after another
abbrev pub run : Code → State → List ℕ → State
run code s [] = s
run code s (q ∷ turns) = run code (turn code s q) turns

-- what the turn answers
abbrev pub answer_with : Code → State → Option Action → Turned
answer_with code s (Some action) = Did action
answer_with code s None = if nat_lt s.phase (length code.lists) then Waits else Done

abbrev pub answer : Code → State → ℕ → Turned
answer code s q = answer_with code s (next_action code s q)

-- the actions that a processor has done, over all phases so far
abbrev pub executed : Code → State → ℕ → List Action
executed code s q =
    flat_map (λ phase. acts code phase q) (range_with_len 0 s.phase) ++ take (slice_index s.done q) (acts code s.phase q)

-- what a processor has executed so far
abbrev pub counts_so_far : Code → State → ℕ → Counts
counts_so_far code s q = counts_of code.lanes (executed code s q)

-- what it executes in all
abbrev pub whole_counts : Code → ℕ → Counts
whole_counts code q = counts_of code.lanes (flat_map (λ phase. acts code phase q) (range_with_len 0 (length code.lists)))

-- Whole runs

-- a number of words, rounded up to whole lines
abbrev pub whole_lines : ℕ → ℕ → ℕ
whole_lines size line = (size + (line - 1)) / line * line

-- the words of an array
abbrev pub padded : Code → ℕ
padded code = whole_lines code.size code.line

-- the input stands in the first words, and all else is 0
abbrev pub start : Code → List ℕ → State
start code x =
    let memory = x ++ replicate (4 * padded code - code.size) 0 in
    let registers = replicate code.procs (replicate (code.regs * code.lanes) 0) in
    record { memory = memory; registers = registers; phase = first_open code (length code.lists) 0; done = none_done code }

-- the turns that finish a phase: each processor in rising order, as often as it has actions left
abbrev pub rest_of_phase : Code → ℕ → List ℕ → List ℕ
rest_of_phase code phase done =
    flat_map (λ q. replicate (length (acts code phase q) - slice_index done q) q) (range_with_len 0 code.procs)

-- the turns of n whole phases
abbrev pub whole_phases : Code → ℕ → ℕ → List ℕ
whole_phases code zero phase = []
whole_phases code (suc n) phase = rest_of_phase code phase (none_done code) ++ whole_phases code n (phase + 1)

-- the turns that finish all phases
abbrev pub completion : Code → State → List ℕ
completion code s =
    rest_of_phase code s.phase s.done ++ whole_phases code (phases_after code s.phase) (s.phase + 1)

abbrev pub finished : Code → State → State
finished code s = run code s (completion code s)

-- the state after the turns and their completion
abbrev pub runs : Code → List ℕ → List ℕ → State
runs code x turns = finished code (run code (start code x) turns)

-- what a run leaves in the second array
abbrev pub results : Code → List ℕ → List ℕ → List ℕ
results code x turns = words_at code.size (runs code x turns).memory (padded code)

-- Lines

-- the words that the action stores into; those that it stores into or loads from
abbrev pub stored_words : ℕ → Action → List ℕ
stored_words lanes (Store address r) = range_with_len address lanes
stored_words lanes _ = []

abbrev pub touched_words : ℕ → Action → List ℕ
touched_words lanes (Load r address) = range_with_len address lanes
touched_words lanes (Store address r) = range_with_len address lanes
touched_words lanes _ = []

-- the numbers of the lines of the words, given how many words a line has
abbrev pub lines_of : ℕ → List ℕ → List ℕ
lines_of line words = map (λ k. k / line) words

abbrev pub written_lines : Code → ℕ → ℕ → List ℕ
written_lines code phase q = flat_map (λ a. lines_of code.line (stored_words code.lanes a)) (acts code phase q)

abbrev pub touched_lines : Code → ℕ → ℕ → List ℕ
touched_lines code phase q = flat_map (λ a. lines_of code.line (touched_words code.lanes a)) (acts code phase q)

-- no processor touches a line that another writes in the phase
pub record IsApart (code : Code) (phase : ℕ) : Type 0 where
  pub alone : (q other line : ℕ) → other ≢ q → Contains (written_lines code phase q) line → Contains (touched_lines code phase other) line → ⊥

-- One processor after another

-- the memory and the registers of all processors
pub record Whole : Type 0 where
  pub memory : List ℕ
  pub registers : List (List ℕ)

-- processor q does all its actions of the phase
abbrev pub processor_alone : Code → ℕ → ℕ → Whole → Whole
processor_alone code phase q w =
    let before : Local = record { memory = w.memory; registers = slice_index_or w.registers q [] } in
    let after : Local = effects code.modulus code.lanes (acts code phase q) before in
    record { memory = after.memory; registers = slice_set w.registers q after.registers }

-- n processors from q on do so, one after another
abbrev pub processors_alone : Code → ℕ → ℕ → ℕ → Whole → Whole
processors_alone code phase zero q w = w
processors_alone code phase (suc n) q w = processors_alone code phase n (q + 1) (processor_alone code phase q w)

-- n phases from this one on are run so
abbrev pub phases_alone : Code → ℕ → ℕ → Whole → Whole
phases_alone code zero phase w = w
phases_alone code (suc n) phase w = phases_alone code n (phase + 1) (processors_alone code phase code.procs 0 w)

-- the whole program, run so
abbrev pub in_order : Code → List ℕ → Whole
in_order code x =
    phases_alone code (length code.lists) 0 (record { memory = (start code x).memory; registers = (start code x).registers })
