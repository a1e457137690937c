use Rattle.sigma_lower.proofs.Compiling as laws
use Rattle.sigma_lower.proofs.formulas_compile.Goals as goal

pub returns : goal.returns
returns c = laws.formulas_compile
