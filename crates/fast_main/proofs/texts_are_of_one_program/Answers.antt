use Rattle.fast_main.proofs.Once.{one_program_spelt}
use Rattle.fast_main.proofs.texts_are_of_one_program.Goals as goal

pub returns : goal.returns
returns c = one_program_spelt
