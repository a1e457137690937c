-- Data that show no fault so far.
use Rattle.std.specs.Prelude.{◌≡◌, ◌≤◌, ℕ, true, List, length}
use Rattle.std.specs.List.{list_all}
use Rattle.data_stream.specs.Data.{tokens, is_good}

-- no more bytes than may come, and good tokens alone
pub record IsFine (room : ℕ) (read : List ℕ) : Type 0 where
  pub few : length read ≤ room
  pub good : list_all is_good (tokens read) ≡ true
