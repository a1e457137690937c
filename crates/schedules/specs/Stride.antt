-- Many steps of the generator as one.
use Rattle.std.specs.Prelude.{◌≡◌, ℕ, ◌+◌, ◌*◌, ◌%◌, ◌^◌, ◌<◌}
use Rattle.schedules.specs.declared.random.Stride.{Stride}
use Rattle.schedules.specs.Turns.{state_after}

-- where a stride leads from a state
abbrev pub moved : Stride → ℕ → ℕ
moved s v = (v * s.multiplier + s.increment) % 2 ^ 64

-- the stride is `count` steps
pub record Makes (s : Stride) (count : ℕ) : Type 0 where
  pub each : (v : ℕ) → v < 2 ^ 64 → moved s v ≡ state_after count v
