-- The statement of the law of fused loops.
use Rattle.std.specs.Prelude.{ℕ}
use Rattle.icode.specs.Actions.{PlainFits, plain_code}
use Rattle.icode.specs.Machine.{IsApart}
use Rattle.icode.specs.Plain.{PlainProgram}
use Rattle.nests.specs.InPlace.{IsInPlaceOf}
use Rattle.fused_loops.specs.Fused.{fused}

-- where a program fits and no processor touches a line that another writes, that holds of the program with its loops
-- fused, and it leaves what the program leaves
abbrev pub FusedLeavesTheSame : Type 0
FusedLeavesTheSame =
    (least : ℕ) (p : PlainProgram) → PlainFits p → ((phase : ℕ) → IsApart (plain_code p) phase) →
    IsInPlaceOf (fused least p) p
