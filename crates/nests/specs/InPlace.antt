-- One program in place of another.
use Rattle.std.specs.Prelude.{◌≡◌, ℕ, List}
use Rattle.icode.specs.Actions.{PlainFits, plain_code}
use Rattle.icode.specs.Machine.{IsApart, results}
use Rattle.icode.specs.Plain.{PlainProgram}

-- the program q, of the same size and modulus, fits, its processors touch no line that another writes, and it leaves
-- what the program p leaves, whatever the orders of turns
pub record IsInPlaceOf (q p : PlainProgram) : Type 0 where
  pub size : q.size ≡ p.size
  pub modulus : q.modulus ≡ p.modulus
  pub fits : PlainFits q
  pub apart : (phase : ℕ) → IsApart (plain_code q) phase
  pub same : (x turns orders : List ℕ) → results (plain_code q) x turns ≡ results (plain_code p) x orders
