use Rattle.generate.proofs.GoodPrograms as laws
use Rattle.generate.proofs.good_programs.programs_are_good.Goals as goal

pub returns : goal.returns
returns c = laws.programs_are_good
