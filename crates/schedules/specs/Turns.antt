-- The turns of a schedule.
use Rattle.std.specs.Prelude.{ℕ, zero, suc, ◌+◌, ◌*◌, ◌/◌, ◌%◌, ◌^◌, List, [], ◌∷◌, ◌++◌}
use Rattle.schedules.specs.Schedule.{Plan, Sequential, Rounds, Named, Seeded}

-- the numbers from n on, count of them
abbrev pub from_on : ℕ → ℕ → List ℕ
from_on n zero = []
from_on n (suc count) = n ∷ from_on (n + 1) count

-- a number of rounds of the processors below p
abbrev pub rounds : ℕ → ℕ → List ℕ
rounds zero p = []
rounds (suc count) p = from_on 0 p ++ rounds count p

-- the generator
abbrev pub next_state : ℕ → ℕ
next_state v = (v * 6364136223846793005 + 1442695040888963407) % 2 ^ 64

abbrev pub state_after : ℕ → ℕ → ℕ
state_after zero v = v
state_after (suc n) v = state_after n (next_state v)

abbrev pub seeded : ℕ → ℕ → ℕ → List ℕ
seeded zero v p = []
seeded (suc count) v p = (next_state v / 2 ^ 33) % p ∷ seeded count (next_state v) p

-- for p processors
abbrev pub turns_of : Plan → ℕ → List ℕ
turns_of Sequential p = []
turns_of (Rounds count) p = rounds count p
turns_of (Named turns) p = turns
turns_of (Seeded seed count) p = seeded count seed p

-- the turns that the word names
abbrev pub named : Plan → List ℕ
named Sequential = []
named (Rounds count) = []
named (Named turns) = turns
named (Seeded seed count) = []
