use Rattle.generate.proofs.Emission.Programs as laws
use Rattle.generate.proofs.emissions.conv_programs_are_emissions.Goals as goal

pub returns : goal.returns
returns c = laws.conv_programs_are_emissions
