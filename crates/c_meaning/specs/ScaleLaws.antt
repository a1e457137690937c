-- What a lane of a product with a table gives.
use Rattle.std.specs.Prelude.{◌≡◌, ℕ, ◌+◌, ◌*◌, ◌^◌, ◌<◌, ◌≤◌, ◌⊎◌, List, length, All, Some, true, codes, pos, slice_get}
use Rattle.icode.specs.Plain.{PlainExpr, PlainProgram}
use Rattle.icode.specs.Expression.{sum_numbers}
use Rattle.icode.specs.Limits.{is_sum_within}
use Rattle.ring_mod.specs.Residue.{product_mod}
use Rattle.c_meaning.specs.Syntax.{Element}
use Rattle.c_meaning.specs.Numbers.{Defined}
use Rattle.c_meaning.specs.Scopes.{Words}
use Rattle.c_meaning.specs.Expressions.{value_of}
use Rattle.c_meaning.specs.PlaceLaws.{AreNamed}
use Rattle.c_meaning.specs.ProgramTrees.{registers_name, table_name, register, call, at_step}
use Rattle.c_meaning.specs.AddressLaws.{lane_scope}
use Rattle.c_meaning.specs.LaneLaws.{Holds}

-- where lane l of a register holds a residue, and so does the table's entry for lane l, the text of their product has no
-- undefined step, and gives it
abbrev pub LanesScale : Type 0
LanesScale =
    (p : PlainProgram) (q : ℕ) (vs : List ℕ) (words : Words) (table : ℕ) (entries : List ℕ) (place : PlainExpr)
    (step l x a factor : ℕ) →
    slice_get p.tables table ≡ Some entries → q < 2 ^ 64 → All (λ v. v < 2 ^ 64) vs →
    is_sum_within place (length vs) ≡ true →
    ((sum_numbers place vs q).peak < 2 ^ 31) ⊎ (AreNamed place × ((sum_numbers place vs q).peak < 2 ^ 64)) →
    step < 2 → length entries < 2 ^ 31 → (sum_numbers place vs q).value + step * l < length entries →
    p.modulus < 2 ^ 62 → p.regs < 2 ^ 20 → p.lanes ≤ 16 → l < p.lanes → x < p.regs → a < p.modulus → factor < p.modulus →
    Holds words registers_name (x * p.lanes + l) a →
    Holds words (table_name table) ((sum_numbers place vs q).value + step * l) factor →
    value_of (lane_scope p q vs l) words
    (call (codes "mul") (register x) (Element (table_name table) (at_step place step)))
    ≡ Defined (pos (product_mod p.modulus a factor))
