-- How long lists are.
use Rattle.std.specs.Prelude.{ℕ}

-- no list that a transform is of has more items
abbrev pub max_size : ℕ
max_size = 1048576
