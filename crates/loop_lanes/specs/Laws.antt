-- The statement of the law of lanes from loops.
use Rattle.std.specs.Prelude.{◌≡◌, ℕ, List}
use Rattle.icode.specs.Actions.{PlainFits, plain_code}
use Rattle.icode.specs.Machine.{IsApart, results}
use Rattle.icode.specs.Plain.{PlainProgram}
use Rattle.loop_lanes.specs.Lanes.{IsLanes, laned}

-- Where a program fits and no processor touches a line that another writes, its program on lanes fits, its processors
-- touch no line that another writes, and it leaves what the program leaves, whatever the orders of turns
pub record LanedIsSame (v : ℕ) (p : PlainProgram) : Type 0 where
  pub fits : PlainFits (laned v p)
  pub apart : (phase : ℕ) → IsApart (plain_code (laned v p)) phase
  pub same : (x turns orders : List ℕ) → results (plain_code (laned v p)) x turns ≡ results (plain_code p) x orders

abbrev pub LanedLeavesTheSame : Type 0
LanedLeavesTheSame =
    (v : ℕ) (p : PlainProgram) → IsLanes v → PlainFits p → ((phase : ℕ) → IsApart (plain_code p) phase) →
    LanedIsSame v p
