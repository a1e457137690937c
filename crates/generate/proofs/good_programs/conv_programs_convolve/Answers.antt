use Rattle.generate.proofs.GoodPrograms as laws
use Rattle.generate.proofs.good_programs.conv_programs_convolve.Goals as goal

pub returns : goal.returns
returns c = laws.conv_programs_convolve
