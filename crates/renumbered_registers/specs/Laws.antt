-- The statement of the law of renumbered registers.
use Rattle.std.specs.Prelude.{◌≡◌, ℕ, true}
use Rattle.std.specs.List.{list_all}
use Rattle.icode.specs.Actions.{PlainFits, plain_code}
use Rattle.icode.specs.Machine.{IsApart}
use Rattle.icode.specs.Plain.{PlainProgram}
use Rattle.nests.specs.InPlace.{IsInPlaceOf}
use Rattle.renumbered_registers.specs.Renumbered.{are_in_order, renumbered}

-- where a program fits and no processor touches a line that another writes,
-- the program with its registers renumbered can stand in its place
abbrev pub RenumberedLeavesTheSame : Type 0
RenumberedLeavesTheSame =
    (p : PlainProgram) → PlainFits p → ((phase : ℕ) → IsApart (plain_code p) phase) → IsInPlaceOf (renumbered p) p

-- a program whose registers are in order stays as it is
abbrev pub InOrderStays : Type 0
InOrderStays = (p : PlainProgram) → list_all (are_in_order p.lanes 0) p.phases ≡ true → renumbered p ≡ p
