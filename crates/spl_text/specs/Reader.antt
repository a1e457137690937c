-- What the code's reader of formulas answers, by the reading that it does.
use Rattle.std.specs.Prelude.{◌≡◌, ℕ, ◌≤◌, ◌-◌, List, length, None, Some, Result, Ok, Err}
use Rattle.grammar.specs.Reading.{Place}
use Rattle.grammar.specs.declared.token.ReadError.{ReadError}
use Rattle.grammar.specs.declared.token.ReadError.TheVariants as errors
use Rattle.grammar.specs.Stops.{Stop, Lost, Fault}
use Rattle.spl_ast.specs.Formula.{Formula}
use Rattle.spl_text.specs.declared.reading.Halt.{Halt}
use Rattle.spl_text.specs.declared.reading.Halt.TheVariants as halts
use Rattle.spl_text.specs.declared.reading.SplFault.{SplFault}
use Rattle.spl_text.specs.declared.reading.SplFault.TheVariants as faults
use Rattle.spl_text.specs.Fault.{TextFault, TooDeep, Shape, refusal}
use Rattle.spl_text.specs.Reading.{whole_line}

-- what a call answers and leaves is what reading gives, unless memory ran out
abbrev pub Says : Result Formula Halt → Place ℕ → Result (Formula × Place ℕ) (Stop TextFault) → Type 0
Says (Ok f) place read = read ≡ Ok (f, place)
Says (Err halts.NoMemory) place read = Unit {0}
Says (Err (halts.Syntax left)) place read = read ≡ Err (Lost left)
Says (Err (halts.TooDeep left)) place read = read ≡ Err (Fault (TooDeep left))
Says (Err (halts.Shape left first second)) place read = read ≡ Err (Fault (Shape left first second))

-- the same of the whole text
abbrev pub SaysAll : Result Formula Halt → Result Formula (Stop TextFault) → Type 0
SaysAll (Ok f) read = read ≡ Ok f
SaysAll (Err halts.NoMemory) read = Unit {0}
SaysAll (Err (halts.Syntax left)) read = read ≡ Err (Lost left)
SaysAll (Err (halts.TooDeep left)) read = read ≡ Err (Fault (TooDeep left))
SaysAll (Err (halts.Shape left first second)) read = read ≡ Err (Fault (Shape left first second))

-- a part of this kind that begins where so much is left is made, or refused
abbrev pub Judged : Result Formula Halt → ℕ → Formula → Type 0
Judged (Ok f) left g = (f ≡ g) × (refusal g ≡ None)
Judged (Err halts.NoMemory) left g = Unit {0}
Judged (Err (halts.Syntax place)) left g = ⊥
Judged (Err (halts.TooDeep place)) left g = ⊥
Judged (Err (halts.Shape place first second)) left g = (place ≡ left) × (refusal g ≡ Some (first, second))

-- what stopped the reader of a token
abbrev pub halt_of : ReadError → Halt
halt_of (errors.Stuck stuck) = halts.Syntax stuck.left
halt_of errors.NoMemory = halts.NoMemory

-- no more than this is left at the place of the fault
abbrev pub IsWithin : Halt → ℕ → Type 0
IsWithin (halts.Syntax left) n = left ≤ n
IsWithin (halts.TooDeep left) n = left ≤ n
IsWithin (halts.Shape left first second) n = left ≤ n
IsWithin halts.NoMemory n = Unit {0}

-- the fault in a text of n bytes, with its place from the front
abbrev pub fault_of : ℕ → Halt → SplFault
fault_of n (halts.Syntax left) = faults.Syntax (n - left)
fault_of n (halts.TooDeep left) = faults.TooDeep (n - left)
fault_of n (halts.Shape left first second) = faults.Shape (n - left) first second
fault_of n halts.NoMemory = faults.NoMemory

-- how much of the text is left at a place
pub record IsLeft (text : List ℕ) (at left : ℕ) : Type 0 where
  pub within : at ≤ length text
  pub left_is : left ≡ length text - at

-- the answer is what reading the text from left to right gives
abbrev pub IsRead : List ℕ → Result Formula SplFault → Type 0
IsRead text (Ok f) = whole_line text ≡ Ok f
IsRead text (Err faults.NoMemory) = Unit {0}
IsRead text (Err (faults.Syntax at)) = (left : ℕ) × IsLeft text at left × (whole_line text ≡ Err (Lost left))
IsRead text (Err (faults.TooDeep at)) = (left : ℕ) × IsLeft text at left ×
    (whole_line text ≡ Err (Fault (TooDeep left)))
IsRead text (Err (faults.Shape at first second)) =
    (left : ℕ) × IsLeft text at left × (whole_line text ≡ Err (Fault (Shape left first second)))
