-- What a lane of a load and of a store does.
use Rattle.std.specs.Prelude.{◌≡◌, ℕ, ◌+◌, ◌*◌, ◌^◌, ◌<◌, ◌≤◌, ◌⊎◌, List, length, All, true, pos}
use Rattle.icode.specs.declared.program.Array.{Array}
use Rattle.icode.specs.Plain.{PlainExpr, PlainProgram}
use Rattle.icode.specs.Actions.{array_start}
use Rattle.icode.specs.Expression.{sum_numbers}
use Rattle.icode.specs.Limits.{is_sum_within}
use Rattle.icode.specs.Machine.{whole_lines}
use Rattle.c_meaning.specs.Syntax.{Element}
use Rattle.c_meaning.specs.Numbers.{Defined}
use Rattle.c_meaning.specs.Scopes.{Words, with_word}
use Rattle.c_meaning.specs.Expressions.{value_of}
use Rattle.c_meaning.specs.Statements.{assigned}
use Rattle.c_meaning.specs.PlaceLaws.{AreNamed}
use Rattle.c_meaning.specs.ProgramTrees.{memory_name, registers_name, array_name, register, at_lane}
use Rattle.c_meaning.specs.AddressLaws.{lane_scope}
use Rattle.c_meaning.specs.LaneLaws.{Holds}

-- the address that the machine's action names for lane l
abbrev pub address_of : PlainProgram → ℕ → List ℕ → Array → PlainExpr → ℕ → ℕ
address_of p q vs array place l = array_start (whole_lines p.size p.line) array + ((sum_numbers place vs q).value + l)

-- `X[place + l]` has the number that memory has at the action's address
abbrev pub LanesLoad : Type 0
LanesLoad =
    (p : PlainProgram) (q : ℕ) (vs : List ℕ) (words : Words) (array : Array) (place : PlainExpr) (l n : ℕ) →
    q < 2 ^ 64 → All (λ v. v < 2 ^ 64) vs → is_sum_within place (length vs) ≡ true →
    ((sum_numbers place vs q).peak < 2 ^ 31) ⊎ (AreNamed place × ((sum_numbers place vs q).peak < 2 ^ 64)) →
    whole_lines p.size p.line < 2 ^ 31 → (sum_numbers place vs q).value + l < whole_lines p.size p.line →
    Holds words memory_name (address_of p q vs array place l) n →
    value_of (lane_scope p q vs l) words (Element (array_name array) (at_lane place)) ≡ Defined (pos n)

-- where lane l of a register holds a word, the statement of a store leaves it at the action's address, and changes nothing
-- else
abbrev pub LanesStore : Type 0
LanesStore =
    (p : PlainProgram) (q : ℕ) (vs : List ℕ) (words : Words) (array : Array) (place : PlainExpr) (l r n : ℕ) →
    q < 2 ^ 64 → All (λ v. v < 2 ^ 64) vs → is_sum_within place (length vs) ≡ true →
    ((sum_numbers place vs q).peak < 2 ^ 31) ⊎ (AreNamed place × ((sum_numbers place vs q).peak < 2 ^ 64)) →
    whole_lines p.size p.line < 2 ^ 31 → (sum_numbers place vs q).value + l < whole_lines p.size p.line →
    p.regs < 2 ^ 20 → p.lanes ≤ 16 → l < p.lanes → r < p.regs → n < 2 ^ 64 →
    Holds words registers_name (r * p.lanes + l) n →
    assigned (lane_scope p q vs l) (array_name array) (at_lane place) (register r) words
    ≡ Defined (with_word memory_name (address_of p q vs array place l) (pos n) words)
