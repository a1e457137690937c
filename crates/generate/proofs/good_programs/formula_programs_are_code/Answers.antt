use Rattle.generate.proofs.FormulaCode.Programs as laws
use Rattle.generate.proofs.good_programs.formula_programs_are_code.Goals as goal

pub returns : goal.returns
returns c = laws.formula_programs_are_code
