-- A text has one answer, want of memory aside.
use Rattle.std.specs.Prelude.{◌≡◌, ◌≢◌, ◌↔◌, ℕ, List, Result, Err}
use Rattle.spl_ast.specs.Formula.{Formula}
use Rattle.spl_text.specs.declared.reading.SplFault.{SplFault}
use Rattle.spl_text.specs.declared.reading.SplFault.TheVariants as faults

-- any two answers for a text agree
abbrev pub HasOneAnswer : (List ℕ → Result Formula SplFault → Type 0) → Type 0
HasOneAnswer answers =
    (text : List ℕ) (a b : Result Formula SplFault) → a ≢ Err faults.NoMemory → b ≢ Err faults.NoMemory → answers text a
    → answers text b → a ≡ b

-- each text has an answer
abbrev pub HasSomeAnswer : (List ℕ → Result Formula SplFault → Type 0) → Type 0
HasSomeAnswer answers =
    (text : List ℕ) → (answer : Result Formula SplFault) × (answer ≢ Err faults.NoMemory) × answers text answer

-- two relations give the same answers
abbrev pub AreSame : (List ℕ → Result Formula SplFault → Type 0) → (List ℕ → Result Formula SplFault → Type 0) → Type 0
AreSame answers others = (text : List ℕ) (answer : Result Formula SplFault) → answers text answer ↔ others text answer
