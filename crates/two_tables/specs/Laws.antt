-- The statement of the law of tables in two factors.
use Rattle.std.specs.Prelude.{ℕ}
use Rattle.icode.specs.Actions.{PlainFits, plain_code}
use Rattle.icode.specs.Machine.{IsApart}
use Rattle.icode.specs.Plain.{PlainProgram}
use Rattle.two_tables.specs.Factored.{factored}
use Rattle.nests.specs.InPlace.{IsInPlaceOf}

-- where a program fits and no processor touches a line that another
-- writes, that holds of the program with its tables in factors
abbrev pub FactoredLeavesTheSame : Type 0
FactoredLeavesTheSame =
    (least : ℕ) (p : PlainProgram) → PlainFits p → ((phase : ℕ) → IsApart (plain_code p) phase) →
    IsInPlaceOf (factored least p) p
