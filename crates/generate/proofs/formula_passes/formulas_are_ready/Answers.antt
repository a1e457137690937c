use Rattle.generate.proofs.FormulaPasses.Programs as laws
use Rattle.generate.proofs.formula_passes.formulas_are_ready.Goals as goal

pub returns : goal.returns
returns c = laws.formulas_are_ready
