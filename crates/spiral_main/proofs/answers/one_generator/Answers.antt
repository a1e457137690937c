use Rattle.spiral_main.proofs.Generators as laws
use Rattle.spiral_main.proofs.answers.one_generator.Goals as goal

pub returns : goal.returns
returns c = laws.one_generator
