-- What statements do: the steps of a procedure, one after another.
use Rattle.std.specs.Prelude.{ℕ, ◌*◌, ℤ, pos, negsuc, List, [], ◌∷◌, ◌++◌, map, replicate, if◌then◌else◌}
use Rattle.std.specs.List.{range_with_len}
use Rattle.c_meaning.specs.Types.{CType, common}
use Rattle.c_meaning.specs.Syntax.{Name, CExpr, CExprs, CStmt, CStmts, Assign, Ignore, For, Block, Skip, Then, NewArray, Procedure}
use Rattle.c_meaning.specs.Numbers.{Outcome, Undefined, Defined, ◌>>=◌, fits, converted}
use Rattle.c_meaning.specs.Scopes.{Scope, Words, no_words, instead, with_word, with_variable, with_array, word_at}
use Rattle.c_meaning.specs.Expressions.{type_of, value_of, values_of}

-- A step reads words, and writes one or none
abbrev pub Step : Type 0
Step = Words → Outcome Words

abbrev pub assigned : Scope → Name → CExprs → CExpr → Step
assigned s array indices value words =
    values_of s words indices >>= λ is. word_at s array is >>= λ place. value_of s words value >>= λ x.
    Defined (with_word (s.lies array).0 place (converted (s.type array) x) words)

abbrev pub ignored : Scope → CExpr → Step
ignored s value words = value_of s words value >>= λ x. Defined words

-- The numbers from 0 up to a bound, which the variable's type has to have
abbrev pub counted : CType → ℤ → Outcome ℕ
counted type (pos n) = if fits type (pos n) then Defined n else Undefined
counted type (negsuc n) = Defined 0

-- how many values a variable of a type has from 0 up to a bound of another type: the comparison converts both
abbrev pub rounds : CType → CType → ℤ → Outcome ℕ
rounds type other bound = counted type (converted (common type other) bound)

abbrev pub all_steps : List (Outcome (List Step)) → Outcome (List Step)
all_steps [] = Defined []
all_steps (first ∷ rest) = first >>= λ steps. all_steps rest >>= λ more. Defined (steps ++ more)

-- The bound of a loop reads no array, and nothing in the loop changes what it names
abbrev mutual
  pub steps_of : Scope → CStmt → Outcome (List Step)
  steps_of s (Assign array indices value) = Defined (assigned s array indices value ∷ [])
  steps_of s (Ignore value) = Defined (ignored s value ∷ [])
  steps_of s (For type name bound body) =
      value_of s no_words bound >>= λ x. rounds type (type_of s bound) x >>= λ n.
      all_steps (map (λ i. steps_of (with_variable type name (pos i) s) body) (range_with_len 0 n))
  steps_of s (Block body) = steps_of_all s body

  pub steps_of_all : Scope → CStmts → Outcome (List Step)
  steps_of_all s Skip = Defined []
  steps_of_all s (Then first rest) =
      steps_of s first >>= λ steps. steps_of_all s rest >>= λ more. Defined (steps ++ more)

-- what steps leave, one after another
abbrev pub run : List Step → Words → Outcome Words
run [] words = Defined words
run (step ∷ steps) words = step words >>= λ words. run steps words

-- Procedures

abbrev pub lengths_of : List ℤ → Outcome (List ℕ)
lengths_of [] = Defined []
lengths_of (pos n ∷ xs) = lengths_of xs >>= λ ns. Defined (n ∷ ns)
lengths_of _ = Undefined

abbrev pub product_of : List ℕ → ℕ
product_of [] = 1
product_of (n ∷ ns) = n * product_of ns

-- the scope with new arrays, and their words, which are not set
abbrev pub with_new : List NewArray → Scope → Words → Outcome (Scope × Words)
with_new [] s words = Defined (s, words)
with_new (a ∷ arrays) s words =
    values_of s no_words a.lengths >>= λ xs. lengths_of xs >>= λ lengths.
    with_new arrays (with_array a.type a.name lengths s)
    (instead a.name (replicate (product_of lengths) Undefined) words)

-- the steps of a procedure, called with an argument, and the words at its start
abbrev pub called : Scope → Procedure → ℤ → Words → Outcome (List Step × Words)
called s p argument words =
    with_new p.arrays (with_variable p.parameter.type p.parameter.name argument s) words >>= λ inside.
    steps_of_all inside.0 p.body >>= λ steps. Defined (steps, inside.1)

-- what it leaves, if nothing else runs
abbrev pub alone : Scope → Procedure → ℤ → Words → Outcome Words
alone s p argument words = called s p argument words >>= λ begun. run begun.0 begun.1
