-- Words and numbers.
use Rattle.std.specs.Prelude.{ℕ, List, [], ◌∷◌, ◌++◌, decimal}

-- a number between two words
abbrev pub numbered_text : List ℕ → ℕ → List ℕ → List ℕ
numbered_text before number after = before ++ decimal number ++ after

-- a text, and after it words, each with a number after it
abbrev pub numbers_behind : List ℕ → List (List ℕ × ℕ) → List ℕ
numbers_behind text [] = text
numbers_behind text (p ∷ ps) = numbers_behind (text ++ p.0 ++ decimal p.1) ps
