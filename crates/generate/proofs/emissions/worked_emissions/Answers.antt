use Rattle.generate.proofs.Emission.Worked as laws
use Rattle.generate.proofs.emissions.worked_emissions.Goals as goal

pub returns : goal.returns
returns c = laws.worked_emissions
