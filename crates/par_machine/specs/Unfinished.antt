-- The turns that finish a run, one by one or a processor's list at once.
use Rattle.std.specs.Prelude.{◌≡◌, ℕ, ◌-◌, ◌<◌, ◌∷◌, length, replicate, slice_index}
use Rattle.icode.specs.Machine.{Code, State, acts, turn, run, completion, finished}

-- this processor's turn is the next of them
abbrev pub IsNextTurn : Code → State → ℕ → Type 0
IsNextTurn code s q = (q < code.procs) × (completion code s ≡ q ∷ completion code (turn code s q))

-- how many actions it has left in the phase
abbrev pub left_of : Code → State → ℕ → ℕ
left_of code s q = length (acts code s.phase q) - slice_index s.done q

-- it has some left, and once it has done them, the rest of the run is what it was
pub record IsUnfinished (code : Code) (s : State) (q : ℕ) : Type 0 where
  pub inside : q < code.procs
  pub left : slice_index s.done q < length (acts code s.phase q)
  pub same : finished code (run code s (replicate (left_of code s q) q)) ≡ finished code s
  pub fewer : length (completion code (run code s (replicate (left_of code s q) q))) < length (completion code s)
