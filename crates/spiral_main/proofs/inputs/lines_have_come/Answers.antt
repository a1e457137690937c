use Rattle.spiral_main.proofs.Lines as laws
use Rattle.spiral_main.proofs.inputs.lines_have_come.Goals as goal

pub returns : goal.returns
returns c = laws.lines_have_come
