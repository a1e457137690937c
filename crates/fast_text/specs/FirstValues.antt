-- The comment that says what arrays have to hold where a run begins.
use Rattle.std.specs.Prelude.{ℕ, Bool, true, false, List, ◌++◌, codes}

-- any words, of a program that reads nothing that is left over; else 0, as registers do where a phase begins
abbrev pub asked_first_text : Bool → List ℕ
asked_first_text true = codes ": any words before the first phase. */\n"
asked_first_text false = codes ": 0 before the first phase, as each register is before each phase. */\n"

abbrev pub first_values_text : List ℕ → Bool → List ℕ
first_values_text arrays fresh = codes "/* " ++ arrays ++ asked_first_text fresh

-- the arrays of a text
abbrev pub own_arrays_text : List ℕ
own_arrays_text = codes "Y, A, B and the rest of X"

-- those of a function, whose caller gives residues alone in the input
abbrev pub callers_arrays_text : Bool → List ℕ
callers_arrays_text true = codes "out, work"
callers_arrays_text false = codes "out, work and the rest of in"
