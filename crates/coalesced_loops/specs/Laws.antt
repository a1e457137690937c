-- The statement of the law of coalesced loops.
use Rattle.std.specs.Prelude.{◌≡◌}
use Rattle.icode.specs.Actions.{PlainFits, plain_code}
use Rattle.icode.specs.Plain.{PlainProgram}
use Rattle.coalesced_loops.specs.Coalesced.{coalesced}

-- the program with its loops coalesced does the same actions in the same order, and fits where the program fits
pub record CoalescedIsSame (p : PlainProgram) : Type 0 where
  pub code : plain_code (coalesced p) ≡ plain_code p
  pub fits : PlainFits p → PlainFits (coalesced p)

abbrev pub CoalescedDoesTheSame : Type 0
CoalescedDoesTheSame = (p : PlainProgram) → CoalescedIsSame p
