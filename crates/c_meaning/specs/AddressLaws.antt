-- Which words the elements of arrays are, where a statement of a phase stands.
use Rattle.std.specs.Prelude.{◌≡◌, ℕ, ◌+◌, ◌*◌, ◌^◌, ◌<◌, ◌≤◌, ◌⊎◌, List, length, All, true, pos}
use Rattle.icode.specs.declared.program.Array.{Array}
use Rattle.icode.specs.Plain.{PlainExpr, PlainProgram}
use Rattle.icode.specs.Actions.{array_start}
use Rattle.icode.specs.Expression.{sum_numbers}
use Rattle.icode.specs.Limits.{is_sum_within}
use Rattle.icode.specs.Machine.{whole_lines}
use Rattle.c_meaning.specs.Types.{Int}
use Rattle.c_meaning.specs.Syntax.{Name, CExprs}
use Rattle.c_meaning.specs.Numbers.{Outcome, Defined, ◌>>=◌}
use Rattle.c_meaning.specs.Scopes.{Scope, Words, with_variable, word_at}
use Rattle.c_meaning.specs.Expressions.{values_of}
use Rattle.c_meaning.specs.PlaceLaws.{AreNamed}
use Rattle.c_meaning.specs.ProgramTrees.{lane, memory_name, registers_name, array_name, lane_of, at_lane}
use Rattle.c_meaning.specs.ProgramLaws.{with_loops, phase_scope}

-- where the statement of a lane stands, inside loops with these values
abbrev pub lane_scope : PlainProgram → ℕ → List ℕ → ℕ → Scope
lane_scope p q vs l = with_variable Int lane (pos l) (with_loops 0 vs (phase_scope p q))

-- the word of an array that an element is
abbrev pub word_of : Scope → Words → Name → CExprs → Outcome ℕ
word_of s words array indices = values_of s words indices >>= λ is. word_at s array is

-- `X[place + l]`, of any of the four arrays, is the word of W that the machine's action names for lane l, where the
-- place and the lane stay within the array; there is no undefined step
abbrev pub ElementsAreWords : Type 0
ElementsAreWords =
    (p : PlainProgram) (q : ℕ) (vs : List ℕ) (words : Words) (array : Array) (place : PlainExpr) (l : ℕ) →
    q < 2 ^ 64 → All (λ v. v < 2 ^ 64) vs → is_sum_within place (length vs) ≡ true →
    ((sum_numbers place vs q).peak < 2 ^ 31) ⊎ (AreNamed place × ((sum_numbers place vs q).peak < 2 ^ 64)) →
    whole_lines p.size p.line < 2 ^ 31 → (sum_numbers place vs q).value + l < whole_lines p.size p.line →
    (((lane_scope p q vs l).lies (array_name array)).0 ≡ memory_name)
    × (word_of (lane_scope p q vs l) words (array_name array) (at_lane place)
    ≡ Defined (array_start (whole_lines p.size p.line) array + ((sum_numbers place vs q).value + l)))

-- and `r[n][l]` is the word of lane l of the register n
abbrev pub RegistersAreWords : Type 0
RegistersAreWords =
    (p : PlainProgram) (q : ℕ) (vs : List ℕ) (words : Words) (register l : ℕ) →
    register < p.regs → p.regs < 2 ^ 20 → l < p.lanes → p.lanes ≤ 16 →
    (((lane_scope p q vs l).lies registers_name).0 ≡ registers_name)
    × (word_of (lane_scope p q vs l) words registers_name (lane_of register) ≡ Defined (register * p.lanes + l))
