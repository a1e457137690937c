-- The statement of the law of interchanged loops.
use Rattle.std.specs.Prelude.{◌≡◌, ℕ, List}
use Rattle.icode.specs.Actions.{PlainFits, plain_code}
use Rattle.icode.specs.Machine.{IsApart, results}
use Rattle.icode.specs.Plain.{PlainProgram}
use Rattle.interchange.specs.Interchanged.{interchanged}

-- Where a program fits and no processor touches a line that another writes, its interchanged program fits, its
-- processors touch no line that another writes, and it leaves what the program leaves, whatever the orders of turns
pub record InterchangedIsSame (p : PlainProgram) : Type 0 where
  pub fits : PlainFits (interchanged p)
  pub apart : (phase : ℕ) → IsApart (plain_code (interchanged p)) phase
  pub same : (x turns orders : List ℕ) → results (plain_code (interchanged p)) x turns ≡ results (plain_code p) x orders

abbrev pub InterchangedLeavesTheSame : Type 0
InterchangedLeavesTheSame =
    (p : PlainProgram) → PlainFits p → ((phase : ℕ) → IsApart (plain_code p) phase) → InterchangedIsSame p
