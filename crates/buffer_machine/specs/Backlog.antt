-- What a queue of stores holds.
use Rattle.std.specs.Prelude.{ℕ, zero, suc, ◌+◌, ◌*◌, List, [], ◌∷◌, slice_index}
use Rattle.icode.specs.Buffers.{Waiting}
use Rattle.icode.specs.Machine.{words_at}

-- the stores that wait, the oldest first, how many more there is room for until the queue is cleared, and for how many
-- there is room in all; a store has `lanes` words
pub record Backlog : Type 0 where
  pub lanes : ℕ
  pub waiting : List Waiting
  pub room : ℕ
  pub most : ℕ
  -- the words of the memory that the stores are for
  pub span : ℕ

-- n stores from place i on
abbrev pub window : ℕ → List ℕ → List ℕ → ℕ → ℕ → List Waiting
window lanes addresses words zero i = []
window lanes addresses words (suc n) i = record { address = slice_index addresses i; words = words_at lanes words (i * lanes) } ∷ window lanes addresses words n (i + 1)
