-- What is answered for the text of a formula. A text that is none shows faults at places; the first of them is at
-- the least place.
use Rattle.std.specs.Prelude.{◌≡◌, ◌≢◌, ℕ, ◌+◌, ◌≤◌, [], ◌∷◌, ◌++◌, ◌==◌, ◌⊎◌, List, length, count_by, Some, Result, Ok}
use Rattle.std.specs.Prelude.{Err}
use Rattle.grammar.specs.Grammar.{Begins, IsStuck}
use Rattle.spl_ast.specs.Formula.{Formula}
use Rattle.spl_ast.specs.Nesting.{IsPrintable}
use Rattle.spl_text.specs.declared.reading.SplFault.{SplFault}
use Rattle.spl_text.specs.declared.reading.SplFault.TheVariants as faults
use Rattle.spl_text.specs.Fault.{refusal}
use Rattle.spl_text.specs.Spelling.{spells, spells_line}

-- how many parentheses the text opens
abbrev pub opened : List ℕ → ℕ
opened text = count_by (λ b. b == 40) text

-- and closes
abbrev pub closed : List ℕ → ℕ
closed text = count_by (λ b. b == 41) text

-- no front of the text leaves more than this number open
abbrev pub IsShallow : ℕ → List ℕ → Type 0
IsShallow n text = (front rest : List ℕ) → text ≡ front ++ rest → opened front ≤ closed front + n

-- an opening parenthesis stands at this place, the first after 128 open ones, and the spelling of some formula goes on with it
pub record HasParenthesis (text : List ℕ) (at : ℕ) : Type 0 where
  pub before : List ℕ
  pub after : List ℕ
  pub whole : text ≡ before ++ (40 ∷ after)
  pub place : length before ≡ at
  pub opens : opened before ≡ closed before + 128
  pub shallow : IsShallow 128 before
  pub begins : Begins spells (before ++ 40 ∷ [])

abbrev pub EndsWith : ℕ → List ℕ → Type 0
EndsWith b text = (front : List ℕ) × (text ≡ front ++ b ∷ [])

-- a part of a formula may begin behind this text: it is empty, or ends with an opening parenthesis or a comma
abbrev pub IsBeforePart : List ℕ → Type 0
IsBeforePart text = (text ≡ []) ⊎ (EndsWith 40 text ⊎ EndsWith 44 text)

-- A part of the text, from `at` to the parenthesis at this place, spells a formula that is refused for these two
-- numbers. The spelling of some formula goes on with it
pub record HasMisfit (text : List ℕ) (at first second place : ℕ) : Type 0 where
  pub before : List ℕ
  pub part : List ℕ
  pub after : List ℕ
  pub value : Formula
  pub whole : text ≡ before ++ (part ++ after)
  pub starts : length before ≡ at
  pub ends : length (before ++ part) ≡ place + 1
  pub behind : IsBeforePart before
  pub begins : Begins spells (before ++ part)
  pub spelt : spells part value
  pub refused : refusal value ≡ Some (first, second)

-- the text shows this fault at this place. Syntax: it spells no formula of any depth and shape, and no spelling
-- goes on past the place
abbrev pub Shows : List ℕ → SplFault → ℕ → Type 0
Shows text (faults.Syntax at) place = IsStuck spells_line text at × (place ≡ at)
Shows text (faults.TooDeep at) place = HasParenthesis text at × (place ≡ at)
Shows text (faults.Shape at first second) place = HasMisfit text at first second place
Shows text faults.NoMemory place = ⊥

-- no fault is shown before this place
abbrev pub IsFineBefore : List ℕ → ℕ → Type 0
IsFineBefore text place = (fault : SplFault) (at : ℕ) → Shows text fault at → place ≤ at

-- the fault that the text shows at the least place
abbrev pub IsFirst : List ℕ → SplFault → Type 0
IsFirst text fault = (place : ℕ) × Shows text fault place × IsFineBefore text place

-- the text spells this formula, which can be printed, and shows no fault
pub record IsWritten (text : List ℕ) (formula : Formula) : Type 0 where
  pub spelt : spells_line text formula
  pub printable : IsPrintable formula
  pub faultless : (fault : SplFault) (at : ℕ) → Shows text fault at → ⊥

-- the formula that the text spells, or its first fault, want of memory aside
abbrev pub Answers : List ℕ → Result Formula SplFault → Type 0
Answers text (Ok formula) = IsWritten text formula
Answers text (Err fault) = fault ≢ faults.NoMemory → IsFirst text fault
