-- Texts that are read line by line.
use Rattle.std.specs.Prelude.{◌≡◌, ℕ, suc, ◌+◌, List, [], ◌∷◌, ◌++◌, ◌==◌, Bool, true, false, Option, Some, None, Result, Ok, Err, if◌then◌else◌}
use Rattle.grammar.specs.Grammar.{IsLost}

-- no line ends in the text
abbrev pub is_open : List ℕ → Bool
is_open [] = true
is_open (b ∷ text) = if b == 10 then false else is_open text

-- a line with its end
pub record IsLine (line : List ℕ) : Type 0 where
  pub front : List ℕ
  pub whole : line ≡ front ++ 10 ∷ []
  pub open_front : is_open front ≡ true

abbrev pub one_more : {A : Type 0} → Result A ℕ → Result A ℕ
one_more (Ok x) = Ok x
one_more (Err lines) = Err (suc lines)

abbrev pub later : {A : Type 0} → ℕ → Result A ℕ → Result A ℕ
later count (Ok x) = Ok x
later count (Err lines) = Err (count + lines)

abbrev pub taken : {T A : Type 0} → Option T → (T → Result A ℕ) → Result A ℕ
taken None next = Err 0
taken (Some state) next = one_more (next state)

abbrev pub valued : {A : Type 0} → Option A → Result A ℕ
valued None = Err 0
valued (Some x) = Ok x

-- with so much of the last line, which has no end
abbrev pub ended : {A : Type 0} → List ℕ → Result A ℕ → Result A ℕ
ended [] result = result
ended (b ∷ line) result = Err 0

-- Each line with its end takes one state to the next, if it may stand there. What is answered is the value of the last
-- state, or how many lines stand before the one that may not. The first list is the front of a line.
unfoldable pub read_lines : {T A : Type 0} → (T → List ℕ → Option T) → (T → Option A) → T → List ℕ → List ℕ → Result A ℕ
read_lines step finish state line [] = ended line (valued (finish state))
read_lines step finish state line (b ∷ text) =
    if b == 10 then taken (step state (line ++ b ∷ [])) (λ next. read_lines step finish next [] text) else read_lines step finish state (line ++ b ∷ []) text

-- the one value that the text spells, or how many lines stand before the one where it is lost
abbrev pub Judges : {A : Type 0} → (List ℕ → A → Type 0) → List ℕ → Result A ℕ → Type 0
Judges {A} spells text (Ok value) = spells text value × ((other : A) → spells text other → other ≡ value)
Judges spells text (Err lines) = IsLost spells text (lines + 1)
