-- What the line of a formula orders.
use Rattle.std.specs.Prelude.{◌≡◌, ℕ, List, Ok, Err}
use Rattle.spl_ast.specs.Formula.{Formula}
use Rattle.spl_text.specs.Answer.{IsFirst, IsWritten}
use Rattle.spl_text.specs.declared.reading.SplFault.{SplFault}
use Rattle.spiral_words.specs.Statuses.Fault.{status_of_spl}
use Rattle.commands.specs.Input.Commands.{admitted, first_stranger}
use Rattle.commands.specs.Input.Stage.{Stage, given, ◌>>=◌}

-- the formula that the text spells, or the first fault from left to right
abbrev pub written : List ℕ → Stage Formula
written text (Ok formula) = IsWritten text formula
written text (Err status) = (fault : SplFault) × IsFirst text fault × (status ≡ status_of_spl fault)

-- the formula, if the words name no processor but the one that its program has
abbrev pub formed : List ℕ → List ℕ → Stage Formula
formed names text = do
  formula ← written text
  given (admitted (first_stranger names 1) 1 formula)
