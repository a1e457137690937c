use Rattle.generate.proofs.Emission.Programs as laws
use Rattle.generate.proofs.emissions.programs_are_emissions.Goals as goal

pub returns : goal.returns
returns c = laws.programs_are_emissions
