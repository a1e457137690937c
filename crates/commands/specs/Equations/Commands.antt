-- What is right for a command: one equation for each.
use Rattle.std.specs.Prelude.{ℕ}
use Rattle.spiral_words.specs.declared.Command.{Command}
use Rattle.spiral_words.specs.declared.Command.TheVariants.{ByRequest, ByFormula, ByListing, ByList}
use Rattle.spiral_words.specs.declared.FormulaCommand.{FormulaCommand}
use Rattle.spiral_words.specs.declared.FormulaCommand.TheVariants as formula
use Rattle.commands.specs.Input.Outcomes.{Outcomes}
use Rattle.commands.specs.Equations.Apply.{apply_outcomes}
use Rattle.commands.specs.Equations.Compile.{compile_outcomes}
use Rattle.commands.specs.Equations.Convolve.{outcomes_by_list}
use Rattle.commands.specs.Equations.Exec.{exec_outcomes}
use Rattle.commands.specs.Equations.Requests.{outcomes_by_request}

abbrev pub outcomes_by_formula : ℕ → FormulaCommand → Outcomes
outcomes_by_formula modulus formula.Compile = compile_outcomes modulus
outcomes_by_formula modulus (formula.Apply schedule) = apply_outcomes modulus schedule

abbrev pub outcomes_of : Command → Outcomes
outcomes_of (ByRequest command) = outcomes_by_request command
outcomes_of (ByFormula modulus command) = outcomes_by_formula modulus command
outcomes_of (ByListing schedule) = exec_outcomes schedule
outcomes_of (ByList schedule code) = outcomes_by_list schedule code
