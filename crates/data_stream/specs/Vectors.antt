-- What `Vectors` is to a contract.
use Rattle.std.specs.Prelude.{◌≡◌, ℕ, ◌≤◌, Bool, true}
use Rattle.io_edge.specs.Told.{Coming, IsOver}
use Rattle.io_edge.specs.Feed.{Fed, limit}

-- how many numbers a vector has, how many the vectors so far had, and whether the data have ended
pub record Cut : Type 0 where
  pub size : ℕ
  pub done : ℕ
  pub ended : Bool

-- Vectors that began at this feed's source, and no call has answered a fault or the end. A new one is, on every feed
pub record IsReady (vectors : Cut) (feed : Fed) (coming : Coming) : Type 0 where
  pub few : vectors.done ≤ limit
  pub counted : vectors.done ≤ feed.taken
  pub within : vectors.ended ≡ true → feed.taken ≤ limit
  pub end : vectors.ended ≡ true → IsOver coming
