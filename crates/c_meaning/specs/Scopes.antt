-- What names stand for.
use Rattle.std.specs.Prelude.{ℕ, ◌+◌, ◌*◌, ℤ, pos, ◌+ℤ◌, List, [], ◌∷◌, Bool, true, false, ◌&&◌, ◌==◌, nat_lt, Option, Some, None, if◌then◌else◌, slice_set}
use Rattle.c_meaning.specs.Types.{CType, Int}
use Rattle.c_meaning.specs.Syntax.{Name}
use Rattle.c_meaning.specs.Numbers.{Outcome, Undefined, Defined, converted}

abbrev pub same_letters : List ℕ → List ℕ → Bool
same_letters [] [] = true
same_letters [] (y ∷ ys) = false
same_letters (x ∷ xs) [] = false
same_letters (x ∷ xs) (y ∷ ys) = x == y && same_letters xs ys

abbrev pub same_number : Option ℕ → Option ℕ → Bool
same_number None None = true
same_number None (Some n) = false
same_number (Some m) None = false
same_number (Some m) (Some n) = m == n

abbrev pub same_name : Name → Name → Bool
same_name x y = same_letters x.letters y.letters && same_number x.number y.number

-- f, but for this name
abbrev pub instead : {A : Type 0} → Name → A → (Name → A) → Name → A
instead name a f other = if same_name other name then a else f other

-- the words of arrays; one that was never set is undefined
abbrev pub Words : Type 0
Words = Name → List (Outcome ℤ)

abbrev pub no_words : Words
no_words name = []

abbrev pub with_word : Name → ℕ → ℤ → Words → Words
with_word name place x words = instead name (slice_set (words name) place (Defined x)) words

-- A macro whose text is a constant is a variable here. One whose text is `(W + n)` is an array that begins at the
-- element n of W
pub record Scope : Type 0 where
  -- the type of a variable, of an array's elements, or of what a function returns
  pub type : Name → CType
  pub value : Name → Outcome ℤ
  -- the array in which an array lies, and the place at which it begins there
  pub lies : Name → Name × ℕ
  -- an array's length for each of its indices
  pub lengths : Name → List ℕ
  pub function : Name → List ℤ → Outcome ℤ

abbrev pub nothing : Scope
nothing = record {
  type = λ name. Int;
  value = λ name. Undefined;
  lies = λ name. (name, 0);
  lengths = λ name. [];
  function = λ name arguments. Undefined;
}

-- with a new variable, or a parameter, whose type takes the value
abbrev pub with_variable : CType → Name → ℤ → Scope → Scope
with_variable type name x s =
    record s { type = instead name type s.type; value = instead name (Defined (converted type x)) s.value }

abbrev pub with_array : CType → Name → List ℕ → Scope → Scope
with_array type name lengths s =
    record s {
      type = instead name type s.type;
      lies = instead name (name, 0) s.lies;
      lengths = instead name lengths s.lengths;
    }

-- with an array that lies in another one
abbrev pub with_part : CType → Name → Name → ℕ → Scope → Scope
with_part type name whole start s =
    record s { type = instead name type s.type; lies = instead name (whole, start) s.lies }

-- The word of an array with these lengths at these indices, each of which has to be below its length: the last index
-- counts words, and each one before it rows of the next
abbrev pub word_after : ℕ → List ℕ → List ℤ → Outcome ℕ
word_after before [] [] = Defined before
word_after before (n ∷ lengths) (pos i ∷ indices) =
    if nat_lt i n then word_after (before * n + i) lengths indices else Undefined
word_after before _ _ = Undefined

-- indices that count from a place on
abbrev pub from_place : ℕ → List ℤ → List ℤ
from_place start [] = []
from_place start (i ∷ indices) = (pos start +ℤ i) ∷ indices

abbrev pub word_at : Scope → Name → List ℤ → Outcome ℕ
word_at s array indices = word_after 0 (s.lengths (s.lies array).0) (from_place (s.lies array).1 indices)
