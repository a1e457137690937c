-- The numbers after the head of a part, up to its closing parenthesis.
use Rattle.std.specs.Prelude.{ℕ, ◌+◌, ◌^◌, List, ◌∷◌, codes, Result}
use Rattle.grammar.specs.Reading.{Place, ◌>>=◌, ◌>>◌, pure_at, word_at, number_at, positive_at, named_number_at, all_at}
use Rattle.operators.specs.Sizes.{max_size}

abbrev pub factor_at : Place ℕ → Result (ℕ × Place ℕ) ℕ
factor_at = positive_at (max_size + 1)

abbrev pub value_at : Place ℕ → Result (ℕ × Place ℕ) ℕ
value_at = number_at (2 ^ 62)

abbrev pub comma_at : Place ℕ → Result (Unit {0} × Place ℕ) ℕ
comma_at = word_at (codes ",")

abbrev pub close_at : Place ℕ → Result (Unit {0} × Place ℕ) ℕ
close_at = word_at (codes ")")

abbrev pub one_size_at : Place ℕ → Result (ℕ × Place ℕ) ℕ
one_size_at = do
  n ← factor_at
  close_at
  pure_at n

abbrev pub two_sizes_at : Place ℕ → Result ((ℕ × ℕ) × Place ℕ) ℕ
two_sizes_at = do
  n ← factor_at
  comma_at
  r ← factor_at
  close_at
  pure_at (n, r)

abbrev pub size_value_at : Place ℕ → Result ((ℕ × ℕ) × Place ℕ) ℕ
size_value_at = do
  n ← factor_at
  comma_at
  w ← value_at
  close_at
  pure_at (n, w)

abbrev pub sizes_value_at : Place ℕ → Result ((ℕ × ℕ × ℕ) × Place ℕ) ℕ
sizes_value_at = do
  n ← factor_at
  comma_at
  s ← factor_at
  comma_at
  w ← value_at
  close_at
  pure_at (n, s, w)

-- one value or more
abbrev pub values_at : Place ℕ → Result (List ℕ × Place ℕ) ℕ
values_at = do
  first ← value_at
  others ← all_at (named_number_at (codes ",") (2 ^ 62))
  close_at
  pure_at (first ∷ others)
