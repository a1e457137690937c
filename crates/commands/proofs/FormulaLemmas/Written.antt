-- Each line has a formula, or a first fault.
use Rattle.std.proofs.Common.{◌≢◌, ℕ, List, Result, Ok, Err, refl, ap}
use Rattle.spl_ast.specs.Formula.{Formula}
use Rattle.spl_text.specs.Answer.{Answers}
use Rattle.spl_text.specs.declared.reading.SplFault.{SplFault}
use Rattle.spl_text.specs.declared.reading.SplFault.TheVariants as spl
use Rattle.spl_text.proofs.Answering.{not_memory, some_answer}
use Rattle.spiral_words.specs.Statuses.Fault.{status_of_spl}
use Rattle.spiral_words.specs.declared.statuses.status.Status.{Status}
use Rattle.commands.specs.Equations.Formulas.{written}

abbrev IsWritten : List ℕ → Type 0
IsWritten text = (result : Result Formula Status) × written text result

by_answer : (text : List ℕ) (answer : Result Formula SplFault) → answer ≢ Err spl.NoMemory → Answers text answer →
    IsWritten text
by_answer text (Ok formula) some answers = (Ok formula, answers)
by_answer text (Err fault) some answers =
    (Err (status_of_spl fault), (fault, answers (not_memory fault some), refl))

pub formula_written : (text : List ℕ) → (result : Result Formula Status) × written text result
formula_written text = let a = some_answer text in by_answer text a.0 a.1 a.2
