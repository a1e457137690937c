-- Which lines of a phase a C text may have.
use Rattle.std.specs.Prelude.{◌≡◌, ℕ, ◌<◌, ◌≤◌, List, true}
use Rattle.icode.specs.Limits.{is_op_within}
use Rattle.listing_text.specs.Reading.{above_all}
use Rattle.listing_text.specs.Wording.{PlainAct, Open, Close, Do}
use Rattle.c_print.specs.CText.{c_line_text}

-- an operation within the limits of a program with this modulus, inside a number of loops; a loop's numbers are words
abbrev pub MayStand : ℕ → ℕ → PlainAct → Type 0
MayStand modulus loops (Open depth count) = (depth < above_all) × (count < above_all)
MayStand modulus loops Close = Unit {0}
MayStand modulus loops (Do op) = is_op_within modulus op loops ≡ true

-- the text is the line's, which may stand in some program
abbrev pub IsLineOf : List ℕ → PlainAct → Type 0
IsLineOf text act = (modulus : ℕ) × (loops : ℕ) × (modulus ≤ above_all) × (loops ≤ 64) × MayStand modulus loops act × (text ≡ c_line_text act)
