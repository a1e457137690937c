use Rattle.commands.proofs.FormulaLemmas.Programs.{formula_programs_are_code}
use Rattle.spiral_main.proofs.Good.{good_compile}
use Rattle.spiral_main.proofs.answers.compile_is_good.Goals as goal

pub returns : goal.returns
returns c = good_compile formula_programs_are_code
